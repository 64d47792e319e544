-- Digits and white space, which are passed over at once.
use Rattle.std.specs.Prelude.{◌≡◌, ℕ, ◌+◌, ◌≤◌, true, List, [], ◌∷◌, ◌++◌, take, drop, map, Some, option_and_then, refl}
use Rattle.std.specs.Char.{is_ascii_digit}
use Rattle.std.specs.List.{between, AllPass, list_all}
use Rattle.std.proofs.Common.{sym, ap, ◌∙◌, append_assoc, append-nil}
use Rattle.std.proofs.lemmas.Bool.{and_parts}
use Rattle.std.proofs.lemmas.List.Sums.{list_all-from_AllPass}
use Rattle.sval_json.specs.Grammar.{is_space}
use Rattle.sval_json_read.specs.Tokens.{Placed}
use Rattle.sval_json_read.specs.Nodes.{tokens_in}
use Rattle.sval_json_read.specs.SeenNodes.{seen_node}
use Rattle.sval_json_read.specs.Reader.{Opened, InNumber, ReaderState, reader_step, after_bytes}
use Rattle.sval_json_read.specs.SeenReader.{seen_state, expected_of, phase_of, takes_digits, skips_spaces}
use Rattle.sval_json_read.specs.declared.number.Phase.{Phase}
use Rattle.sval_json_read.specs.declared.number.Phase.TheVariants as phase
use Rattle.sval_json_read.specs.declared.reader.Expected as made
use Rattle.sval_json_read.specs.declared.reader.Expected.TheVariants as expected
use Rattle.sval_json_read.specs.declared.reader.Reader.{Reader}
use Rattle.sval_json_read.proofs.PlainRuns.{between_run}
use Rattle.sval_json_read.proofs.Runs.{at_state}

module _ (opened : List Opened) (tokens : List Placed) where
  abbrev in_number : Phase → List ℕ → ReaderState
  in_number phase read = at_state (InNumber (phase_of phase) read) opened tokens

  digit_step : (phase : Phase) → takes_digits phase ≡ true → (read : List ℕ) (byte : ℕ) → is_ascii_digit byte ≡ true
      → reader_step (in_number phase read) byte ≡ Some (in_number phase (read ++ (byte ∷ [])))
  digit_step phase.Whole t read byte h = rw h refl
  digit_step phase.Fraction t read byte h = rw h refl
  digit_step phase.Power t read byte h = rw h refl
  digit_step phase.Minus t read byte h = cc t
  digit_step phase.Zero t read byte h = cc t
  digit_step phase.Point t read byte h = cc t
  digit_step phase.Mark t read byte h = cc t
  digit_step phase.Sign t read byte h = cc t

  digit_steps : (phase : Phase) → takes_digits phase ≡ true → (read bytes : List ℕ) → list_all is_ascii_digit bytes ≡ true
      → after_bytes (in_number phase read) bytes ≡ Some (in_number phase (read ++ bytes))
  digit_steps phase t read [] h = ap (λ x. Some (in_number phase x)) (sym (append-nil read))
  digit_steps phase t read (byte ∷ bytes) h =
      let both = and_parts (is_ascii_digit byte) (list_all is_ascii_digit bytes) h in
      ap (option_and_then (λ next. after_bytes next bytes)) (digit_step phase t read byte both.0)
      ∙ digit_steps phase t (read ++ (byte ∷ [])) bytes both.1 ∙ ap (λ x. Some (in_number phase x)) (append_assoc read (byte ∷ []) bytes)

-- a reader that is in a number passes over further digits
pub passes_digits : (bytes : List ℕ) (at n : ℕ) (reader : Reader) (phase : Phase) → reader.expected ≡ expected.InNumber phase → takes_digits phase ≡ true → reader.from ≤ at
    → AllPass is_ascii_digit (take n (drop at bytes)) → after_bytes (seen_state bytes at reader) (take n (drop at bytes)) ≡ Some (seen_state bytes (at + n) reader)
passes_digits bytes at n reader phase e t le digits =
    let opened = reader.opened in
    let tokens = tokens_in bytes (map seen_node reader.nodes) in
    let read = between reader.from at bytes in
    let run = take n (drop at bytes) in
    let before : seen_state bytes at reader ≡ in_number opened tokens phase read = ap (λ x. at_state (expected_of bytes reader.from at x) opened tokens) e in
    let behind : seen_state bytes (at + n) reader ≡ in_number opened tokens phase (between reader.from (at + n) bytes) =
    ap (λ x. at_state (expected_of bytes reader.from (at + n) x) opened tokens) e in
    ap (λ state. after_bytes state run) before ∙ digit_steps opened tokens phase t read run (list_all-from_AllPass is_ascii_digit run digits)
    ∙ ap (λ x. Some (in_number opened tokens phase x)) (sym (between_run bytes reader.from at n le)) ∙ ap (λ x. Some x) (sym behind)

module _ (bytes : List ℕ) (from : ℕ) (opened : List Opened) (tokens : List Placed) where
  abbrev at_upto : made.Expected → ℕ → ReaderState
  at_upto e upto = at_state (expected_of bytes from upto e) opened tokens

  space_step : (e : made.Expected) → skips_spaces e ≡ true → (upto byte : ℕ) → is_space byte ≡ true → reader_step (at_upto e upto) byte ≡ Some (at_upto e upto)
  space_step expected.AValue t upto byte h = rw h refl
  space_step expected.FirstItem t upto byte h = rw h refl
  space_step expected.FirstKey t upto byte h = rw h refl
  space_step expected.NextKey t upto byte h = rw h refl
  space_step expected.Colon t upto byte h = rw h refl
  space_step expected.Next t upto byte h = rw h refl
  space_step (expected.Letter word) t upto byte h = cc t
  space_step (expected.InNumber phase) t upto byte h = cc t
  space_step (expected.InString is_key within) t upto byte h = cc t

  space_steps : (e : made.Expected) → skips_spaces e ≡ true → (upto : ℕ) (run : List ℕ) → list_all is_space run ≡ true → after_bytes (at_upto e upto) run ≡ Some (at_upto e upto)
  space_steps e t upto [] h = refl
  space_steps e t upto (byte ∷ run) h =
      let both = and_parts (is_space byte) (list_all is_space run) h in
      ap (option_and_then (λ next. after_bytes next run)) (space_step e t upto byte both.0) ∙ space_steps e t upto run both.1

  -- white space isn't kept, so it doesn't matter how far it was read
  same_upto : (e : made.Expected) → skips_spaces e ≡ true → (a b : ℕ) → at_upto e a ≡ at_upto e b
  same_upto expected.AValue t a b = refl
  same_upto expected.FirstItem t a b = refl
  same_upto expected.FirstKey t a b = refl
  same_upto expected.NextKey t a b = refl
  same_upto expected.Colon t a b = refl
  same_upto expected.Next t a b = refl
  same_upto (expected.Letter word) t a b = refl
  same_upto (expected.InNumber phase) t a b = cc t
  same_upto (expected.InString is_key within) t a b = cc t

-- a reader that is between tokens passes over white space
pub passes_spaces : (bytes : List ℕ) (at n : ℕ) (reader : Reader) → skips_spaces reader.expected ≡ true → AllPass is_space (take n (drop at bytes))
    → after_bytes (seen_state bytes at reader) (take n (drop at bytes)) ≡ Some (seen_state bytes (at + n) reader)
passes_spaces bytes at n reader t spaces =
    let tokens = tokens_in bytes (map seen_node reader.nodes) in
    let run = take n (drop at bytes) in
    space_steps bytes reader.from reader.opened tokens reader.expected t at run (list_all-from_AllPass is_space run spaces)
    ∙ ap (λ x. Some x) (same_upto bytes reader.from reader.opened tokens reader.expected t at (at + n))
