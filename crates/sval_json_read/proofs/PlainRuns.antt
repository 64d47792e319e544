-- What no escape and no quote cuts of a string, which is passed over at once.
use Rattle.std.specs.Prelude.{◌≡◌, ℕ, ◌+◌, ◌-◌, ◌<◌, ◌≤◌, Bool, true, false, not, ◌&&◌, ◌||◌, ◌==◌, nat_lt, List, [], ◌∷◌, ◌++◌, length, take, drop, get_or, map, Some, option_and_then, refl}
use Rattle.std.specs.List.{between, AllPass, list_all}
use Rattle.std.proofs.Common.{sym, ap, subst, ◌∙◌, arith, append_assoc, append-nil}
use Rattle.std.proofs.Math.Seq.{take-add}
use Rattle.std.proofs.lemmas.Bool.{and_parts}
use Rattle.std.proofs.lemmas.List.{drop-drop}
use Rattle.std.proofs.lemmas.List.Sums.{list_all-from_AllPass}
use Rattle.sval_json.specs.Escape.{is_plain}
use Rattle.sval_json_read.specs.Tokens.{Placed}
use Rattle.sval_json_read.specs.Nodes.{tokens_in}
use Rattle.sval_json_read.specs.SeenNodes.{seen_node}
use Rattle.sval_json_read.specs.Strings.{Plain}
use Rattle.sval_json_read.specs.Reader.{Opened, InString, ReaderState, reader_start, reader_step, after_bytes}
use Rattle.sval_json_read.specs.SeenReader.{seen_state, expected_of, ReadsIn}
use Rattle.sval_json_read.specs.declared.node.Node.{Node}
use Rattle.sval_json_read.specs.declared.reader.Expected.TheVariants as expected
use Rattle.sval_json_read.specs.declared.reader.Reader.{Reader}
use Rattle.sval_json_read.specs.declared.string.Within.TheVariants as within
use Rattle.sval_json_read.proofs.Loop.{after-append, after-byte}
use Rattle.sval_json_read.proofs.ReaderPlaces.{reads_far}
use Rattle.sval_json_read.proofs.Runs.{at_state}

plain_tests : (a b c : Bool) → not (a || b || c) ≡ true → (b ≡ false) × ((not a && not false && not c) ≡ true)
plain_tests true b c h = cc h
plain_tests false true c h = cc h
plain_tests false false true h = cc h
plain_tests false false false h = (refl, refl)

module _ (is_key : Bool) (opened : List Opened) (tokens : List Placed) where
  abbrev in_string : List ℕ → ReaderState
  in_string read = at_state (InString is_key Plain read) opened tokens

  plain_step : (read : List ℕ) (byte : ℕ) → is_plain byte ≡ true → reader_step (in_string read) byte ≡ Some (in_string (read ++ (byte ∷ [])))
  plain_step read byte h =
      let tests = plain_tests (nat_lt byte 32) (byte == 34) (byte == 92) h in
      rw (tests.0, tests.1) refl

  plain_steps : (read bytes : List ℕ) → list_all is_plain bytes ≡ true → after_bytes (in_string read) bytes ≡ Some (in_string (read ++ bytes))
  plain_steps read [] h = ap (λ x. Some (in_string x)) (sym (append-nil read))
  plain_steps read (byte ∷ bytes) h =
      let both = and_parts (is_plain byte) (list_all is_plain bytes) h in
      ap (option_and_then (λ next. after_bytes next bytes)) (plain_step read byte both.0)
      ∙ plain_steps (read ++ (byte ∷ [])) bytes both.1 ∙ ap (λ x. Some (in_string x)) (append_assoc read (byte ∷ []) bytes)

-- so many bytes more between two places
pub between_run : (bytes : List ℕ) (from at n : ℕ) → from ≤ at → between from (at + n) bytes ≡ between from at bytes ++ take n (drop at bytes)
between_run bytes from at n le =
    ap (λ k. take k (drop from bytes)) (let e : (at + n) - from ≡ (at - from) + n = omega arith in e)
    ∙ take-add (at - from) n (drop from bytes)
    ∙ ap (λ rest. between from at bytes ++ take n rest) (drop-drop (at - from) from bytes ∙ ap (λ k. drop k bytes) (let e : from + (at - from) ≡ at = omega arith in e))

-- a reader that is in a string passes over bytes that stand as they are
pub passes_over : (bytes : List ℕ) (at n : ℕ) (reader : Reader) (is_key : Bool) → reader.expected ≡ expected.InString is_key within.Plain → reader.from ≤ at → AllPass is_plain (take n (drop at bytes))
    → after_bytes (seen_state bytes at reader) (take n (drop at bytes)) ≡ Some (seen_state bytes (at + n) reader)
passes_over bytes at n reader is_key e le plain =
    let opened = reader.opened in
    let tokens = tokens_in bytes (map seen_node reader.nodes) in
    let read = between reader.from at bytes in
    let run = take n (drop at bytes) in
    let before : seen_state bytes at reader ≡ in_string is_key opened tokens read = ap (λ x. at_state (expected_of bytes reader.from at x) opened tokens) e in
    let behind : seen_state bytes (at + n) reader ≡ in_string is_key opened tokens (between reader.from (at + n) bytes) = ap (λ x. at_state (expected_of bytes reader.from (at + n) x) opened tokens) e in
    ap (λ state. after_bytes state run) before ∙ plain_steps is_key opened tokens read run (list_all-from_AllPass is_plain run plain)
    ∙ ap (λ x. Some (in_string is_key opened tokens x)) (sym (between_run bytes reader.from at n le)) ∙ ap (λ x. Some x) (sym behind)

-- a run behind the bytes so far
pub after-run : (bytes : List ℕ) (n k : ℕ) (state next : ReaderState) → after_bytes reader_start (take n bytes) ≡ Some state → after_bytes state (take k (drop n bytes)) ≡ Some next → after_bytes reader_start (take (n + k) bytes) ≡ Some next
after-run bytes n k state next e f =
    ap (after_bytes reader_start) (take-add n k bytes) ∙ after-append (take n bytes) (take k (drop n bytes)) reader_start ∙ ap (option_and_then (λ s. after_bytes s (take k (drop n bytes)))) e ∙ f

module _ (bytes : List ℕ) (at n : ℕ) where
  behind : (at + 1) + n ≡ at + (1 + n)
  behind = omega arith

  -- a byte, and a run behind it
  pub byte_and_run : (state : ReaderState) (reader : Reader) → at < length bytes → after_bytes reader_start (take at bytes) ≡ Some state → reader_step state (get_or bytes at 0) ≡ Some (seen_state bytes (at + 1) reader)
      → after_bytes (seen_state bytes (at + 1) reader) (take n (drop (at + 1) bytes)) ≡ Some (seen_state bytes ((at + 1) + n) reader)
      → after_bytes reader_start (take (at + (1 + n)) bytes) ≡ Some (seen_state bytes (at + (1 + n)) reader)
  byte_and_run state reader l reached taken passes =
      subst (λ k. after_bytes reader_start (take k bytes) ≡ Some (seen_state bytes k reader)) behind
      (after-run bytes (at + 1) n (seen_state bytes (at + 1) reader) _ (after-byte bytes at state l reached ∙ taken) passes)

  pub reads_behind : {from : ℕ} {nodes : List Node} → ReadsIn bytes (at + 1) from nodes → ReadsIn bytes (at + (1 + n)) from nodes
  reads_behind {from} {nodes} r = subst (λ k. ReadsIn bytes k from nodes) behind (reads_far bytes (at + 1) n from nodes r)
