-- Bytes that are passed over together, one by one and run by run.
use Rattle.std.specs.Prelude.{◌≡◌, ℕ, ◌+◌, ◌-◌, ◌<◌, ◌≤◌, ◌==◌, true, false, List, [], ◌∷◌, ◌++◌, length, take, drop, get_or, map, Some, option_and_then, option_map, refl}
use Rattle.std.specs.List.{between, starts_with}
use Rattle.std.proofs.Common.{sym, ap, subst, ◌∙◌, arith}
use Rattle.std.proofs.lemmas.Bool.Decides.{nat_tests}
use Rattle.sval_json.specs.Digits.{is_number_byte}
use Rattle.sval_json_read.specs.Tokens.{Placed}
use Rattle.sval_json_read.specs.Nodes.{tokens_in}
use Rattle.sval_json_read.specs.Numbers.{NumberPhase, first_phase}
use Rattle.sval_json_read.specs.Reader as machine
use Rattle.sval_json_read.specs.Reader.{Opened, Expected, Letter, Next, ReaderState, reader_step, after_bytes, letters_left}
use Rattle.sval_json_read.specs.SeenNodes.{seen_node}
use Rattle.sval_json_read.specs.SeenReader.{seen_state, expected_of, takes_values, takes_keys, IsReadTo, Passes, Reaches, LeadsTo}
use Rattle.sval_json_read.specs.Strings.{Plain}
use Rattle.sval_json_read.specs.Words.{expected_word, letters_in, letters_of}
use Rattle.sval_json_read.specs.declared.reader.Expected as made
use Rattle.sval_json_read.specs.declared.reader.Expected.TheVariants as expected
use Rattle.sval_json_read.specs.declared.reader.Reader.{Reader}
use Rattle.sval_json_read.specs.declared.word.Word.{Word}
use Rattle.sval_json_read.specs.declared.word.Word.TheVariants as word
use Rattle.sval_json_read.proofs.Loop.{after-byte}
use Rattle.sval_json_read.proofs.PlainRuns.{after-run}
use Rattle.sval_json_read.proofs.ReaderPlaces.{reads_far}
use Rattle.sval_json_read.proofs.Runs.{at_state, begins_number, first_item_number}
use Rattle.sval_json_read.proofs.Sound.{first_number_byte}
use Rattle.sval_json_read.proofs.TextParts.{piece_by_test}

module _ {bytes : List ℕ} where
  pub passes_none : {at : ℕ} {reader : Reader} → at ≤ length bytes → IsReadTo bytes at reader → Passes bytes at reader at reader
  passes_none w r = record { order = omega arith; within = w; reaches = λ e. e; reads = r }

  pub passes_then : {at middle upto : ℕ} {old between new : Reader} → Passes bytes at old middle between → Passes bytes middle between upto new → Passes bytes at old upto new
  passes_then p q =
      let o = p.order in
      let k = q.order in
      record { order = omega arith; within = q.within; reaches = λ e. q.reaches (p.reaches e); reads = q.reads }

  pub passes_byte : {at : ℕ} {old new : Reader} → at < length bytes → reader_step (seen_state bytes at old) (get_or bytes at 0) ≡ Some (seen_state bytes (at + 1) new)
      → IsReadTo bytes (at + 1) new → Passes bytes at old (at + 1) new
  passes_byte {at} {old} {new} l step r = record {
    order = omega arith;
    within = omega (arith, l);
    reaches = λ e. after-byte bytes at (seen_state bytes at old) l e ∙ step;
    reads = r;
  }

  pub passes_run : {at : ℕ} (n : ℕ) {old new : Reader} → at + n ≤ length bytes → after_bytes (seen_state bytes at old) (take n (drop at bytes)) ≡ Some (seen_state bytes (at + n) new)
      → IsReadTo bytes at new → Passes bytes at old (at + n) new
  passes_run {at} n {old} {new} w run r = record {
    order = omega arith;
    within = w;
    reaches = λ e. after-run bytes at n (seen_state bytes at old) _ e run;
    reads = reads_far bytes at n new.from new.nodes r;
  }

-- ---- what begins with a byte

module _ (bytes : List ℕ) (from upto : ℕ) (opened : List Opened) (tokens : List Placed) where
  abbrev waits : made.Expected → ReaderState
  waits e = at_state (expected_of bytes from upto e) opened tokens

  pub value_begins_string : (e : made.Expected) → takes_values e ≡ true → reader_step (waits e) 34 ≡ Some (at_state (machine.InString false Plain []) opened tokens)
  value_begins_string expected.AValue t = refl
  value_begins_string expected.FirstItem t = refl
  value_begins_string expected.FirstKey t = cc t
  value_begins_string expected.NextKey t = cc t
  value_begins_string expected.Colon t = cc t
  value_begins_string expected.Next t = cc t
  value_begins_string (expected.Letter word) t = cc t
  value_begins_string (expected.InNumber phase) t = cc t
  value_begins_string (expected.InString is_key within) t = cc t

  pub key_begins_string : (e : made.Expected) → takes_keys e ≡ true → reader_step (waits e) 34 ≡ Some (at_state (machine.InString true Plain []) opened tokens)
  key_begins_string expected.FirstKey t = refl
  key_begins_string expected.NextKey t = refl
  key_begins_string expected.AValue t = cc t
  key_begins_string expected.FirstItem t = cc t
  key_begins_string expected.Colon t = cc t
  key_begins_string expected.Next t = cc t
  key_begins_string (expected.Letter word) t = cc t
  key_begins_string (expected.InNumber phase) t = cc t
  key_begins_string (expected.InString is_key within) t = cc t

  pub value_begins_number : (e : made.Expected) → takes_values e ≡ true → (byte : ℕ) (phase : NumberPhase) → first_phase byte ≡ Some phase
      → reader_step (waits e) byte ≡ Some (at_state (machine.InNumber phase (byte ∷ [])) opened tokens)
  value_begins_number expected.AValue t byte phase h =
      begins_number opened tokens byte (first_number_byte byte phase h) ∙ ap (option_map (λ phase. at_state (machine.InNumber phase (byte ∷ [])) opened tokens)) h
  value_begins_number expected.FirstItem t byte phase h =
      first_item_number opened tokens byte (first_number_byte byte phase h) ∙ begins_number opened tokens byte (first_number_byte byte phase h)
      ∙ ap (option_map (λ phase. at_state (machine.InNumber phase (byte ∷ [])) opened tokens)) h
  value_begins_number expected.FirstKey t byte phase h = cc t
  value_begins_number expected.NextKey t byte phase h = cc t
  value_begins_number expected.Colon t byte phase h = cc t
  value_begins_number expected.Next t byte phase h = cc t
  value_begins_number (expected.Letter word) t byte phase h = cc t
  value_begins_number (expected.InNumber phase) t byte later h = cc t
  value_begins_number (expected.InString is_key within) t byte phase h = cc t

module _ (bytes : List ℕ) (at : ℕ) (reader : Reader) where
  abbrev kept : List Placed
  kept = tokens_in bytes (map seen_node reader.nodes)

  -- the step where this is expected and the byte is this one
  step_from : (later : Expected) (e : made.Expected) (byte : ℕ) → reader.expected ≡ e → get_or bytes at 0 ≡ byte
      → reader_step (at_state (expected_of bytes reader.from at e) reader.opened kept) byte ≡ Some (at_state later reader.opened kept) → LeadsTo bytes at reader later
  step_from later e byte is b step =
      ap (λ x. reader_step (at_state (expected_of bytes reader.from at x) reader.opened kept) (get_or bytes at 0)) is
      ∙ ap (reader_step (at_state (expected_of bytes reader.from at e) reader.opened kept)) b ∙ step

  pub string_steps : takes_values reader.expected ≡ true → get_or bytes at 0 ≡ 34 → LeadsTo bytes at reader (machine.InString false Plain [])
  string_steps t b = step_from (machine.InString false Plain []) reader.expected 34 refl b (value_begins_string bytes reader.from at reader.opened kept reader.expected t)

  pub key_steps : takes_keys reader.expected ≡ true → get_or bytes at 0 ≡ 34 → LeadsTo bytes at reader (machine.InString true Plain [])
  key_steps t b = step_from (machine.InString true Plain []) reader.expected 34 refl b (key_begins_string bytes reader.from at reader.opened kept reader.expected t)

  pub number_steps : (phase : NumberPhase) → takes_values reader.expected ≡ true → first_phase (get_or bytes at 0) ≡ Some phase
      → LeadsTo bytes at reader (machine.InNumber phase (get_or bytes at 0 ∷ []))
  number_steps phase t h = value_begins_number bytes reader.from at reader.opened kept reader.expected t (get_or bytes at 0) phase h

  pub colon_steps : reader.expected ≡ expected.Colon → get_or bytes at 0 ≡ 58 → LeadsTo bytes at reader machine.AValue
  colon_steps is b = step_from machine.AValue expected.Colon 58 is b refl

  comma_in : (opened : List Opened) (later : Expected) → reader.opened ≡ opened → reader.expected ≡ expected.Next → get_or bytes at 0 ≡ 44
      → reader_step (at_state Next opened kept) 44 ≡ Some (at_state later opened kept) → LeadsTo bytes at reader later
  comma_in opened later o is b step =
      step_from later expected.Next 44 is b
      (ap (λ row. reader_step (at_state Next row kept) 44) o ∙ step ∙ ap (λ row. Some (at_state later row kept)) (sym o))

  pub item_steps : (outer : List Opened) → reader.opened ≡ machine.Array ∷ outer → reader.expected ≡ expected.Next → get_or bytes at 0 ≡ 44 → LeadsTo bytes at reader machine.AValue
  item_steps outer o is b = comma_in (machine.Array ∷ outer) machine.AValue o is b refl

  pub member_steps : (outer : List Opened) → reader.opened ≡ machine.Object ∷ outer → reader.expected ≡ expected.Next → get_or bytes at 0 ≡ 44 → LeadsTo bytes at reader machine.NextKey
  member_steps outer o is b = comma_in (machine.Object ∷ outer) machine.NextKey o is b refl

  pub number_is_ascii : (phase : NumberPhase) → first_phase (get_or bytes at 0) ≡ Some phase → get_or bytes at 0 < 128
  number_is_ascii phase h = ascii_number (get_or bytes at 0) (first_number_byte (get_or bytes at 0) phase h)
    where
      ascii_number : (byte : ℕ) → is_number_byte byte ≡ true → byte < 128
      ascii_number byte n = grind (arith, nat_tests)

pub ruleset of_steps = (string_steps, key_steps, number_steps, colon_steps, item_steps, member_steps, number_is_ascii)

-- ---- words

-- the letters that are left of a word are taken
pub word_read : (opened : List Opened) (tokens : List Placed) (word : Word) → after_bytes (at_state (expected_word word) opened tokens) (letters_of word) ≡ Some (at_state Next opened tokens)
word_read opened tokens word.Ull = refl
word_read opened tokens word.Ll = refl
word_read opened tokens word.L = refl
word_read opened tokens word.Rue = refl
word_read opened tokens word.Ue = refl
word_read opened tokens word.E = refl
word_read opened tokens word.Alse = refl
word_read opened tokens word.Lse = refl
word_read opened tokens word.Se = refl

-- the rest of a word is passed over
pub passes_word : (bytes : List ℕ) (at : ℕ) (old : Reader) (left : Word) (letters : List ℕ) → old.expected ≡ expected.Letter left → letters ≡ letters_of left → at ≤ length bytes
    → true ≡ starts_with ◌==◌ (between at (length bytes) bytes) letters → IsReadTo bytes at old
    → Passes bytes at old (at + length letters) record { expected = expected.Next; from = old.from; spaces = old.spaces; opened = old.opened; nodes = old.nodes }
passes_word bytes at old left letters is e w test r =
    let tokens = tokens_in bytes (map seen_node old.nodes) in
    let piece = piece_by_test bytes letters at w test in
    let count : length letters ≡ (at + length letters) - at = omega arith in
    let taken : take (length letters) (drop at bytes) ≡ letters_of left = ap (λ k. take k (drop at bytes)) count ∙ piece.same ∙ e in
    passes_run (length letters) piece.within
    (ap (after_bytes (seen_state bytes at old)) taken ∙ ap (λ x. after_bytes (at_state (expected_of bytes old.from at x) old.opened tokens) (letters_of left)) is
    ∙ word_read old.opened tokens left)
    r
