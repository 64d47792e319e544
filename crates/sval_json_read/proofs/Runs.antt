-- How the machine runs over white space, numbers and strings.
use Rattle.std.specs.Prelude.{◌≡◌, ℕ, Bool, true, false, cond, ◌==◌, List, [], ◌∷◌, ◌++◌, Option, Some, None, option_and_then, option_map, refl}
use Rattle.std.proofs.Common.{sym, ap, ◌∙◌, arith, append_assoc, append-nil}
use Rattle.std.proofs.lemmas.Bool.Decides.{nat_tests}
use Rattle.sval_json.specs.Digits.{front, after_front, is_number_byte}
use Rattle.sval_json.specs.Grammar.{after_space, is_space}
use Rattle.sval_json_read.specs.Tokens as token
use Rattle.sval_json_read.specs.Tokens.{Placed, placed_at, between_quotes}
use Rattle.sval_json_read.specs.Numbers.{NumberPhase, first_phase, next_phase, number_may_end}
use Rattle.sval_json_read.specs.Reader.{Opened, Expected, AValue, FirstItem, FirstKey, NextKey, Colon, Next, InNumber, ReaderState, place_in, expects, follows, reader_step, after_bytes, at_end_in, tokens_at_end}
use Rattle.sval_json_read.proofs.NumberPhases.{completes, completes_after, may_end-completes, next-completes}

abbrev pub at_state : Expected → List Opened → List Placed → ReaderState
at_state expected opened tokens = record { expected = expected; opened = opened; tokens = tokens }

-- the tokens of all bytes, from a state on
abbrev pub read_from : ReaderState → List ℕ → Option (List Placed)
read_from state [] = tokens_at_end state
read_from state (byte ∷ bytes) = option_and_then (λ next. read_from next bytes) (reader_step state byte)

pub read_from-after : (bytes : List ℕ) (state : ReaderState) → read_from state bytes ≡ option_and_then tokens_at_end (after_bytes state bytes)
read_from-after [] state = refl
read_from-after (byte ∷ bytes) state = go (reader_step state byte) (λ next. read_from-after bytes next)
  where
    go : (o : Option ReaderState) → ((next : ReaderState) → read_from next bytes ≡ option_and_then tokens_at_end (after_bytes next bytes))
        → option_and_then (λ next. read_from next bytes) o ≡ option_and_then tokens_at_end (option_and_then (λ next. after_bytes next bytes) o)
    go None h = refl
    go (Some next) h = h next

-- ---- white space

skip : (state : ReaderState) → ((byte : ℕ) → is_space byte ≡ true → reader_step state byte ≡ Some state) → (bytes : List ℕ) → read_from state bytes ≡ read_from state (after_space bytes)
skip state f [] = refl
skip state f (byte ∷ bytes) = go (is_space byte) refl (skip state f bytes)
  where
    go : (s : Bool) → is_space byte ≡ s → read_from state bytes ≡ read_from state (after_space bytes)
        → read_from state (byte ∷ bytes) ≡ read_from state (cond s (after_space bytes) (byte ∷ bytes))
    go true e h = ap (option_and_then (λ next. read_from next bytes)) (f byte e) ∙ h
    go false e h = refl

module _ (opened : List Opened) (tokens : List Placed) (bytes : List ℕ) where
  pub skip_to_value : read_from (at_state AValue opened tokens) bytes ≡ read_from (at_state AValue opened tokens) (after_space bytes)
  skip_to_value = skip (at_state AValue opened tokens) (λ byte h. rw h refl) bytes

  pub skip_to_item : read_from (at_state FirstItem opened tokens) bytes ≡ read_from (at_state FirstItem opened tokens) (after_space bytes)
  skip_to_item = skip (at_state FirstItem opened tokens) (λ byte h. rw h refl) bytes

  pub skip_to_key : read_from (at_state FirstKey opened tokens) bytes ≡ read_from (at_state FirstKey opened tokens) (after_space bytes)
  skip_to_key = skip (at_state FirstKey opened tokens) (λ byte h. rw h refl) bytes

  pub skip_to_next_key : read_from (at_state NextKey opened tokens) bytes ≡ read_from (at_state NextKey opened tokens) (after_space bytes)
  skip_to_next_key = skip (at_state NextKey opened tokens) (λ byte h. rw h refl) bytes

  pub skip_to_colon : read_from (at_state Colon opened tokens) bytes ≡ read_from (at_state Colon opened tokens) (after_space bytes)
  skip_to_colon = skip (at_state Colon opened tokens) (λ byte h. rw h refl) bytes

  pub skip_to_next : read_from (at_state Next opened tokens) bytes ≡ read_from (at_state Next opened tokens) (after_space bytes)
  skip_to_next = skip (at_state Next opened tokens) (λ byte h. rw h refl) bytes

-- ---- numbers

number_end : (phase : NumberPhase) (text : List ℕ) (opened : List Opened) (tokens : List Placed) → number_may_end phase ≡ true
    → at_end_in (InNumber phase text) opened tokens ≡ at_end_in Next opened (tokens ++ (placed_at (place_in opened) (token.Number text) ∷ []))
number_end phase text [] tokens h = rw h refl
number_end phase text (container ∷ opened) tokens h = refl

number_stops : (phase : NumberPhase) (text : List ℕ) (opened : List Opened) (tokens : List Placed) (byte : ℕ) → number_may_end phase ≡ true → is_number_byte byte ≡ false
    → reader_step (at_state (InNumber phase text) opened tokens) byte ≡ reader_step (at_state Next opened (tokens ++ (placed_at (place_in opened) (token.Number text) ∷ []))) byte
number_stops phase text opened tokens byte h k = rw (k, h) refl

pub number-run : (bytes : List ℕ) (phase : NumberPhase) (text : List ℕ) (opened : List Opened) (tokens : List Placed) → completes phase (front is_number_byte bytes) ≡ true
    → read_from (at_state (InNumber phase text) opened tokens) bytes
    ≡ read_from (at_state Next opened (tokens ++ (placed_at (place_in opened) (token.Number (text ++ front is_number_byte bytes)) ∷ []))) (after_front is_number_byte bytes)
number-run [] phase text opened tokens h =
    number_end phase text opened tokens (sym (may_end-completes phase) ∙ h)
    ∙ ap (λ x. at_end_in Next opened (tokens ++ (placed_at (place_in opened) (token.Number x) ∷ []))) (sym (append-nil text))
number-run (byte ∷ bytes) phase text opened tokens h = go (is_number_byte byte) refl h (number-run bytes)
  where
    by_phase : (o : Option NumberPhase) → completes_after o (front is_number_byte bytes) ≡ true
        → ((phase : NumberPhase) (text : List ℕ) (opened : List Opened) (tokens : List Placed) → completes phase (front is_number_byte bytes) ≡ true
        → read_from (at_state (InNumber phase text) opened tokens) bytes
        ≡ read_from (at_state Next opened (tokens ++ (placed_at (place_in opened) (token.Number (text ++ front is_number_byte bytes)) ∷ []))) (after_front is_number_byte bytes))
        → option_and_then (λ next. read_from next bytes) (option_map (λ next. expects (at_state (InNumber phase text) opened tokens) (InNumber next (text ++ (byte ∷ [])))) o)
        ≡ read_from (at_state Next opened (tokens ++ (placed_at (place_in opened) (token.Number (text ++ (byte ∷ front is_number_byte bytes))) ∷ []))) (after_front is_number_byte bytes)
    by_phase None k f = cc k
    by_phase (Some next) k f =
        f next (text ++ (byte ∷ [])) opened tokens k
        ∙ ap (λ x. read_from (at_state Next opened (tokens ++ (placed_at (place_in opened) (token.Number x) ∷ []))) (after_front is_number_byte bytes)) (append_assoc text (byte ∷ []) (front is_number_byte bytes))

    go : (b : Bool) → is_number_byte byte ≡ b → completes phase (cond b (byte ∷ front is_number_byte bytes) []) ≡ true
        → ((phase : NumberPhase) (text : List ℕ) (opened : List Opened) (tokens : List Placed) → completes phase (front is_number_byte bytes) ≡ true
        → read_from (at_state (InNumber phase text) opened tokens) bytes
        ≡ read_from (at_state Next opened (tokens ++ (placed_at (place_in opened) (token.Number (text ++ front is_number_byte bytes)) ∷ []))) (after_front is_number_byte bytes))
        → read_from (at_state (InNumber phase text) opened tokens) (byte ∷ bytes)
        ≡ read_from (at_state Next opened (tokens ++ (placed_at (place_in opened) (token.Number (text ++ cond b (byte ∷ front is_number_byte bytes) [])) ∷ []))) (cond b (after_front is_number_byte bytes) (byte ∷ bytes))
    go true e k f =
        ap (λ b. option_and_then (λ next. read_from next bytes) (cond b (option_map (λ next. expects (at_state (InNumber phase text) opened tokens) (InNumber next (text ++ (byte ∷ [])))) (next_phase phase byte))
        (cond (number_may_end phase) (follows (at_state Next opened (tokens ++ (placed_at (place_in opened) (token.Number text) ∷ []))) byte) None))) e
        ∙ by_phase (next_phase phase byte) (sym (next-completes phase byte (front is_number_byte bytes)) ∙ k) f
    go false e k f =
        ap (option_and_then (λ next. read_from next bytes)) (number_stops phase text opened tokens byte (sym (may_end-completes phase) ∙ k) e)
        ∙ ap (λ x. read_from (at_state Next opened (tokens ++ (placed_at (place_in opened) (token.Number x) ∷ []))) (byte ∷ bytes)) (sym (append-nil text))

-- the tests of the first byte of a value, on a byte of numbers
pub begins_number : (opened : List Opened) (tokens : List Placed) (byte : ℕ) → is_number_byte byte ≡ true
    → reader_step (at_state AValue opened tokens) byte ≡ option_map (λ phase. at_state (InNumber phase (byte ∷ [])) opened tokens) (first_phase byte)
begins_number opened tokens byte h =
    let s : is_space byte ≡ false = grind (arith, nat_tests) in
    let q : (byte == 34) ≡ false = grind (arith, nat_tests) in
    let a : (byte == 91) ≡ false = grind (arith, nat_tests) in
    let o : (byte == 123) ≡ false = grind (arith, nat_tests) in
    let n : (byte == 110) ≡ false = grind (arith, nat_tests) in
    let t : (byte == 116) ≡ false = grind (arith, nat_tests) in
    let f : (byte == 102) ≡ false = grind (arith, nat_tests) in
    rw (s, q, a, o, n, t, f) refl

pub first_item_number : (opened : List Opened) (tokens : List Placed) (byte : ℕ) → is_number_byte byte ≡ true
    → reader_step (at_state FirstItem opened tokens) byte ≡ reader_step (at_state AValue opened tokens) byte
first_item_number opened tokens byte h =
    let s : is_space byte ≡ false = grind (arith, nat_tests) in
    let e : (byte == 93) ≡ false = grind (arith, nat_tests) in
    rw (s, e) refl
