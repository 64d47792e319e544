-- The machine stops only where a character ends.
use Rattle.std.specs.Prelude.{◌≡◌, ℕ, zero, suc, ◌+◌, ◌<◌, ◌≤◌, ◌⊎◌, Bool, true, false, cond, ◌==◌, nat_lt, List, [], ◌∷◌, ◌++◌, length, get_or, Option, Some, None, option_map, refl, IsUtf8, IsCharBoundary}
use Rattle.std.specs.Char.{is_ascii_digit, digit_value}
use Rattle.std.specs.Option.{option_map_or}
use Rattle.std.proofs.Common.{sym, ap, subst, arith, inl, inr}
use Rattle.std.proofs.lemmas.Bool.{cases_lt, and_parts}
use Rattle.std.proofs.lemmas.Bool.Decides.{nat_tests}
use Rattle.std.proofs.lemmas.Str.{IsCharBoundary-start, IsCharBoundary-after_ascii}
use Rattle.sval_json.specs.Digits.{is_number_byte}
use Rattle.sval_json.specs.Grammar.{is_space, escaped_byte}
use Rattle.sval_json_read.specs.Numbers.{NumberPhase, first_phase, number_may_end}
use Rattle.sval_json_read.specs.Strings.{Within, Plain, Backslash, Unit, UnitD, ThreeLeft, TwoLeft, OneLeft, HighTwoLeft, HighOneLeft, High, LowBackslash, LowUnit, LowD, LowTwoLeft, LowOneLeft, next_within}
use Rattle.sval_json_read.specs.Reader.{Opened, Array, Object, Expected, AValue, FirstItem, FirstKey, NextKey, Colon, Next, Letter, InNumber, InString, ReaderState, begins, comma_or_close, follows, number_is_ended, step_in, reader_step, taken_from}
use Rattle.sval_json_read.proofs.Completed.{all_ascii, has_ascii, StaysAscii, stays, step-ascii}

-- in a string, outside escapes
abbrev pub is_plain : Expected → Bool
is_plain (InString _ Plain _) = true
is_plain _ = false

-- after a byte that is no ASCII
data OnHigh : Option ReaderState → Type 0 where
  refused : OnHigh None
  plain_after : {state : ReaderState} → is_plain state.expected ≡ true → OnHigh (Some state)

on_none : {o : Option ReaderState} → o ≡ None → OnHigh o
on_none e = subst OnHigh (sym e) refused

module _ (byte : ℕ) (h : 128 ≤ byte) where
  not_byte : (n : ℕ) → n < 128 → (byte == n) ≡ false
  not_byte n l = grind (arith, nat_tests)

  no_less : (n : ℕ) → n ≤ 128 → nat_lt byte n ≡ false
  no_less n l = grind (arith, nat_tests)

  no_space : is_space byte ≡ false
  no_space = rw (not_byte 32 (omega arith), not_byte 9 (omega arith), not_byte 10 (omega arith), not_byte 13 (omega arith)) refl

  no_digit : is_ascii_digit byte ≡ false
  no_digit = grind (arith, nat_tests)

  pub no_number_byte : is_number_byte byte ≡ false
  no_number_byte = rw (no_digit, not_byte 43 (omega arith), not_byte 45 (omega arith), not_byte 46 (omega arith), not_byte 101 (omega arith), not_byte 69 (omega arith)) refl

  pub no_value : digit_value byte ≡ 36
  no_value = rw (no_less 48 (omega arith), no_less 58 (omega arith), no_less 65 (omega arith), no_less 91 (omega arith), no_less 97 (omega arith), no_less 123 (omega arith)) refl

  goes_on_no : (state : ReaderState) (opened : List Opened) → comma_or_close state opened byte ≡ None
  goes_on_no state [] = refl
  goes_on_no state (Array ∷ around) = rw (not_byte 44 (omega arith), not_byte 93 (omega arith)) refl
  goes_on_no state (Object ∷ around) = rw (not_byte 44 (omega arith), not_byte 125 (omega arith)) refl

  follows_no : (state : ReaderState) → follows state byte ≡ None
  follows_no state = rw no_space (goes_on_no state state.opened)

  no_phase : first_phase byte ≡ None
  no_phase = rw (not_byte 45 (omega arith), not_byte 48 (omega arith), no_digit) refl

  begins_no : (state : ReaderState) → begins state byte ≡ None
  begins_no state =
      rw (not_byte 34 (omega arith), not_byte 91 (omega arith), not_byte 123 (omega arith), not_byte 110 (omega arith), not_byte 116 (omega arith), not_byte 102 (omega arith))
      (ap (option_map (λ phase. record { expected = InNumber phase (byte ∷ []); opened = state.opened; tokens = state.tokens })) no_phase)

  pub no_escape : escaped_byte byte ≡ None
  no_escape =
      rw (not_byte 34 (omega arith), not_byte 92 (omega arith), not_byte 47 (omega arith), not_byte 98 (omega arith), not_byte 102 (omega arith), not_byte 110 (omega arith), not_byte 114 (omega arith), not_byte 116 (omega arith)) refl

  plain_goes_on : next_within Plain byte ≡ Some Plain
  plain_goes_on = rw (no_less 32 (omega arith), not_byte 34 (omega arith), not_byte 92 (omega arith)) refl

  within_no : (within : Within) → (within ≡ Plain → ⊥) → next_within within byte ≡ None
  within_no Plain n = absurd (n refl)
  within_no Backslash n = rw (not_byte 117 (omega arith), no_escape) refl
  within_no Unit n = rw no_value refl
  within_no UnitD n = rw no_value refl
  within_no ThreeLeft n = rw no_value refl
  within_no TwoLeft n = rw no_value refl
  within_no OneLeft n = rw no_value refl
  within_no HighTwoLeft n = rw no_value refl
  within_no HighOneLeft n = rw no_value refl
  within_no High n = rw (not_byte 92 (omega arith)) refl
  within_no LowBackslash n = rw (not_byte 117 (omega arith)) refl
  within_no LowUnit n = rw no_value refl
  within_no LowD n = rw no_value refl
  within_no LowTwoLeft n = rw no_value refl
  within_no LowOneLeft n = rw no_value refl

  in_string : (is_key : Bool) (within : Within) (bytes : List ℕ) (state : ReaderState) → OnHigh (step_in (InString is_key within bytes) state byte)
  in_string is_key Plain bytes state = rw (plain_goes_on, not_byte 34 (omega arith)) (plain_after refl)
  in_string is_key within bytes state =
      on_none (ap (option_map (λ next. record { expected = InString is_key next (bytes ++ (byte ∷ [])); opened = state.opened; tokens = state.tokens })) (within_no within (λ e. cc e)))

  in_number : (phase : NumberPhase) (bytes : List ℕ) (state : ReaderState) → step_in (InNumber phase bytes) state byte ≡ None
  in_number phase bytes state = rw no_number_byte (go (number_may_end phase))
    where
      go : (m : Bool) → cond m (follows (number_is_ended state bytes) byte) None ≡ None
      go true = follows_no (number_is_ended state bytes)
      go false = refl

  in_word : (first : ℕ) (letters : List ℕ) (state : ReaderState) → nat_lt first 128 ≡ true → step_in (Letter first letters) state byte ≡ None
  in_word first letters state l =
      let low : first < 128 = grind (arith, nat_tests) in
      let e : (byte == first) ≡ false = grind (arith, nat_tests) in
      rw e refl

  high_step_in : (expected : Expected) (state : ReaderState) → has_ascii expected ≡ true → OnHigh (step_in expected state byte)
  high_step_in AValue state a = on_none (rw no_space (begins_no state))
  high_step_in FirstItem state a = on_none (rw (no_space, not_byte 93 (omega arith)) (begins_no state))
  high_step_in FirstKey state a = on_none (rw (no_space, not_byte 125 (omega arith), not_byte 34 (omega arith)) refl)
  high_step_in NextKey state a = on_none (rw (no_space, not_byte 34 (omega arith)) refl)
  high_step_in Colon state a = on_none (rw (no_space, not_byte 58 (omega arith)) refl)
  high_step_in Next state a = on_none (follows_no state)
  high_step_in (Letter first letters) state a = on_none (in_word first letters state (and_parts (nat_lt first 128) (all_ascii letters) a).0)
  high_step_in (InNumber phase bytes) state a = on_none (in_number phase bytes state)
  high_step_in (InString is_key within bytes) state a = in_string is_key within bytes state

  -- outside of strings none is taken
  pub high_refused : (expected : Expected) (state : ReaderState) → has_ascii expected ≡ true → is_plain expected ≡ false → step_in expected state byte ≡ None
  high_refused AValue state a p = rw no_space (begins_no state)
  high_refused FirstItem state a p = rw (no_space, not_byte 93 (omega arith)) (begins_no state)
  high_refused FirstKey state a p = rw (no_space, not_byte 125 (omega arith), not_byte 34 (omega arith)) refl
  high_refused NextKey state a p = rw (no_space, not_byte 34 (omega arith)) refl
  high_refused Colon state a p = rw (no_space, not_byte 58 (omega arith)) refl
  high_refused Next state a p = follows_no state
  high_refused (Letter first letters) state a p = in_word first letters state (and_parts (nat_lt first 128) (all_ascii letters) a).0
  high_refused (InNumber phase bytes) state a p = in_number phase bytes state
  high_refused (InString is_key Plain bytes) state a p = cc p
  high_refused (InString is_key within bytes) state a p =
      ap (option_map (λ next. record { expected = InString is_key next (bytes ++ (byte ∷ [])); opened = state.opened; tokens = state.tokens })) (within_no within (λ e. cc e))

  -- in strings each is taken
  pub high_taken : (expected : Expected) (state : ReaderState) → is_plain expected ≡ true → (next : ReaderState) × (step_in expected state byte ≡ Some next) × (is_plain next.expected ≡ true)
  high_taken (InString is_key Plain bytes) state p =
      (record { expected = InString is_key Plain (bytes ++ (byte ∷ [])); opened = state.opened; tokens = state.tokens }, rw (plain_goes_on, not_byte 34 (omega arith)) refl, refl)
  high_taken expected state p = absurd (cc p)

  plain_takes_in : (expected : Expected) (state : ReaderState) → is_plain expected ≡ true → step_in expected state byte ≡ None → ⊥
  plain_takes_in (InString is_key Plain bytes) state p e =
      let f : step_in (InString is_key Plain bytes) state byte ≡ Some (record { expected = InString is_key Plain (bytes ++ (byte ∷ [])); opened = state.opened; tokens = state.tokens }) =
      rw (plain_goes_on, not_byte 34 (omega arith)) refl in
      cc
  plain_takes_in expected state p e = cc p

was_plain : {state : ReaderState} → OnHigh (Some state) → is_plain state.expected ≡ true
was_plain (plain_after h) = h

pub stays_some : {state : ReaderState} → StaysAscii (Some state) → has_ascii state.expected ≡ true
stays_some (stays h) = h

-- the byte that is refused, where it is no ASCII, stands first, or behind ASCII
abbrev Stop : ReaderState → List ℕ → ℕ → Type 0
Stop state bytes n = n < length bytes → 128 ≤ get_or bytes n 0
    → ((n ≡ 0) × (is_plain state.expected ≡ false)) ⊎ ((k : ℕ) × (n ≡ k + 1) × (k < length bytes) × (get_or bytes k 0 < 128))

pub plain_or_not : (b : Bool) → (b ≡ true) ⊎ (b ≡ false)
plain_or_not true = inl refl
plain_or_not false = inr refl

refused_here : (state : ReaderState) (byte : ℕ) (bytes : List ℕ) → reader_step state byte ≡ None → Stop state (byte ∷ bytes) 0
refused_here state byte bytes e l h = elim (plain_or_not (is_plain state.expected)) [
  | inl p ↦ absurd (plain_takes_in byte h state.expected state p e)
  | inr n ↦ inl (refl, n)
]

refused_later : (state next : ReaderState) (byte : ℕ) (bytes : List ℕ) (n : ℕ) → reader_step state byte ≡ Some next → has_ascii state.expected ≡ true → Stop next bytes n → Stop state (byte ∷ bytes) (suc n)
refused_later state next byte bytes n e a s l h = elim (s (omega arith) h) [
  | inl first ↦ elim (cases_lt byte 128) [
    | inl low ↦ inr (0, (omega arith), (omega arith), low)
    | inr high ↦ let p = was_plain (subst OnHigh e (high_step_in byte high state.expected state a)) in let q = first.1 in absurd (cc)
  ]
  | inr before ↦ inr (suc before.0, (omega (arith, before.1)), (omega (arith, before.2)), before.3)
]

stop_or : (state : ReaderState) (byte : ℕ) (bytes : List ℕ) (o : Option ReaderState) → reader_step state byte ≡ o → has_ascii state.expected ≡ true
    → ((next : ReaderState) → has_ascii next.expected ≡ true → Stop next bytes (taken_from next bytes)) → Stop state (byte ∷ bytes) (option_map_or (λ next. suc (taken_from next bytes)) o zero)
stop_or state byte bytes None e a f = refused_here state byte bytes e
stop_or state byte bytes (Some next) e a f = refused_later state next byte bytes (taken_from next bytes) e a (f next (stays_some (subst StaysAscii e (step-ascii state byte a))))

stop : (bytes : List ℕ) (state : ReaderState) → has_ascii state.expected ≡ true → Stop state bytes (taken_from state bytes)
stop [] state a = λ l h. absurd (omega arith)
stop (byte ∷ bytes) state a = stop_or state byte bytes (reader_step state byte) refl a (λ next k. stop bytes next k)

pub stops-boundary : (bytes : List ℕ) (state : ReaderState) → has_ascii state.expected ≡ true → IsUtf8 bytes → taken_from state bytes ≤ length bytes → IsCharBoundary bytes (taken_from state bytes)
stops-boundary bytes state a u w = (
  w,
  λ l h. elim (stop bytes state a l h) [
    | inl first ↦ subst (λ n. n < length bytes → 128 ≤ get_or bytes n 0 → 192 ≤ get_or bytes n 0) (sym first.0) (IsCharBoundary-start bytes u).1 l h
    | inr before ↦ subst (λ n. n < length bytes → 128 ≤ get_or bytes n 0 → 192 ≤ get_or bytes n 0) (sym before.1) (IsCharBoundary-after_ascii bytes before.0 u before.2 before.3).1 l h
  ],
)
