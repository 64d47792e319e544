-- What the machine takes where the first value of some bytes ends.
use Rattle.std.specs.Prelude.{◌≡◌, ℕ, ◌<◌, ◌⊎◌, Bool, true, false, cond, not, ◌&&◌, ◌||◌, ◌==◌, nat_lt, List, [], ◌∷◌, ◌++◌, length, get_or, Option, Some, None, is_some, option_map, refl}
use Rattle.std.specs.Char.{is_ascii_digit}
use Rattle.std.proofs.Common.{sym, ap, ◌∙◌, arith, inl, inr}
use Rattle.std.proofs.lemmas.Bool.{cases_lt, cases_Bool, and_parts, or_parts, not-false, false≢true}
use Rattle.std.proofs.lemmas.Bool.Decides.{nat_tests}
use Rattle.sval_json.specs.Digits.{is_number_byte, is_sign, is_exponent_mark, point}
use Rattle.sval_json.specs.Grammar.{is_space}
use Rattle.sval_json_read.specs.declared.word.Word as made_word
use Rattle.sval_json_read.specs.declared.word.Word.TheVariants as letters
use Rattle.sval_json_read.specs.declared.reader.Expected as made
use Rattle.sval_json_read.specs.declared.reader.Expected.TheVariants as expected
use Rattle.sval_json_read.specs.Tokens as token
use Rattle.sval_json_read.specs.Tokens.{Placed, placed_at}
use Rattle.sval_json_read.specs.Numbers.{NumberPhase, Minus, Zero, Whole, Point, Fraction, Mark, Sign, Power, next_phase, number_may_end}
use Rattle.sval_json_read.specs.Strings.{Within, Plain, next_within, closes_string}
use Rattle.sval_json_read.specs.Reader.{Opened, Expected, AValue, FirstItem, FirstKey, NextKey, Colon, Next, Letter, InNumber, InString, ReaderState, reader_start, expects, follows, letters_left, number_is_ended, step_in, after_bytes, at_end_in}
use Rattle.sval_json_read.specs.SeenReader.{expected_of, seen_state}
use Rattle.sval_json_read.specs.declared.reader.Reader.{Reader}
use Rattle.sval_json_read.specs.Words.{expected_word}
use Rattle.sval_json_read.specs.FrontEnds.{front_ends, is_past}
use Rattle.sval_json_read.proofs.Runs.{at_state}
use Rattle.sval_json_read.proofs.Boundaries.{no_number_byte}

some_of : {x y : ReaderState} → (let o : Option ReaderState = Some x in o) ≡ Some y → x ≡ y
some_of e = cc e

cond_some : (x : ReaderState) {y : ReaderState} (b : Bool) → cond b (let o : Option ReaderState = Some x in o) None ≡ Some y → b ≡ true
cond_some x true e = refl
cond_some x false e = absurd (cc e)

abbrev pub is_number : Expected → Bool
is_number (InNumber phase text) = true
is_number _ = false

abbrev is_next : Expected → Bool
is_next Next = true
is_next _ = false

-- no letter of a word is white space
abbrev has_letters : Expected → Bool
has_letters (Letter first rest) = nat_lt 32 first
has_letters _ = true

was_number : {x y : ReaderState} → (let o : Option ReaderState = Some x in o) ≡ Some y → is_number y.expected ≡ true → is_number x.expected ≡ true
was_number e h = ap (λ s. is_number s.expected) (some_of e) ∙ h

was_next : {x y : ReaderState} → (let o : Option ReaderState = Some x in o) ≡ Some y → y.expected ≡ Next → is_next x.expected ≡ true
was_next e h = ap (λ s. is_next s.expected) (some_of e) ∙ ap is_next h

was_opened : {x y : ReaderState} → (let o : Option ReaderState = Some x in o) ≡ Some y → y.opened ≡ [] → x.opened ≡ []
was_opened e h = ap (λ s. s.opened) (some_of e) ∙ h

-- ---- white space

module _ (byte : ℕ) (s : is_space byte ≡ true) where
  pub space_low : byte < 33
  space_low = grind (arith, nat_tests)

  not_byte : (n : ℕ) → 32 < n → (byte == n) ≡ false
  not_byte n l = let k = space_low in grind (arith, nat_tests)

  no_digit : is_ascii_digit byte ≡ false
  no_digit = grind (arith, nat_tests)

  no_number : is_number_byte byte ≡ false
  no_number = grind (arith, nat_tests)

  no_more : (phase : NumberPhase) → next_phase phase byte ≡ None
  no_more Minus = rw (not_byte 48 (omega arith), no_digit) refl
  no_more Zero = rw (not_byte 46 (omega arith), not_byte 101 (omega arith), not_byte 69 (omega arith)) refl
  no_more Whole = rw (no_digit, not_byte 46 (omega arith), not_byte 101 (omega arith), not_byte 69 (omega arith)) refl
  no_more Point = rw no_digit refl
  no_more Fraction = rw (no_digit, not_byte 101 (omega arith), not_byte 69 (omega arith)) refl
  no_more Mark = rw (not_byte 43 (omega arith), not_byte 45 (omega arith), no_digit) refl
  no_more Sign = rw no_digit refl
  no_more Power = rw no_digit refl

  no_quote : (within : Within) → closes_string within byte ≡ false
  no_quote Plain = not_byte 34 (omega arith)
  no_quote within = refl

  follows_space : (state : ReaderState) → follows state byte ≡ Some (expects state Next)
  follows_space state = rw s refl

  module _ (opened : List Opened) (tokens : List Placed) where
    abbrev state_in : Expected → ReaderState
    state_in expected = at_state expected opened tokens

    stays_value : step_in AValue (state_in AValue) byte ≡ Some (state_in AValue)
    stays_value = rw s refl

    stays_item : step_in FirstItem (state_in FirstItem) byte ≡ Some (state_in FirstItem)
    stays_item = rw s refl

    stays_key : step_in FirstKey (state_in FirstKey) byte ≡ Some (state_in FirstKey)
    stays_key = rw s refl

    stays_next_key : step_in NextKey (state_in NextKey) byte ≡ Some (state_in NextKey)
    stays_next_key = rw s refl

    stays_colon : step_in Colon (state_in Colon) byte ≡ Some (state_in Colon)
    stays_colon = rw s refl

    after_number : (phase : NumberPhase) (text : List ℕ)
        → step_in (InNumber phase text) (state_in (InNumber phase text)) byte ≡ cond (number_may_end phase) (Some (expects (number_is_ended (state_in (InNumber phase text)) text) Next)) None
    after_number phase text =
        rw no_number (ap (λ o. cond (number_may_end phase) o None) (follows_space (number_is_ended (state_in (InNumber phase text)) text)))

    in_string : (is_key : Bool) (within : Within) (text : List ℕ)
        → step_in (InString is_key within text) (state_in (InString is_key within text)) byte
        ≡ option_map (λ next. state_in (InString is_key next (text ++ (byte ∷ [])))) (next_within within byte)
    in_string is_key within text = rw (no_quote within) refl

    -- no number is being read behind it
    number_step : (expected : Expected) (next : ReaderState) → step_in expected (state_in expected) byte ≡ Some next → is_number next.expected ≡ true → ⊥
    number_step AValue next e h = false≢true (was_number (sym stays_value ∙ e) h)
    number_step FirstItem next e h = false≢true (was_number (sym stays_item ∙ e) h)
    number_step FirstKey next e h = false≢true (was_number (sym stays_key ∙ e) h)
    number_step NextKey next e h = false≢true (was_number (sym stays_next_key ∙ e) h)
    number_step Colon next e h = false≢true (was_number (sym stays_colon ∙ e) h)
    number_step Next next e h = false≢true (was_number (sym (follows_space (state_in Next)) ∙ e) h)
    number_step (Letter first rest) next e h = go (byte == first) rest e
      where
        go : (b : Bool) (rest : List ℕ) → cond b (let o : Option ReaderState = Some (state_in (letters_left rest)) in o) None ≡ Some next → ⊥
        go true [] e = false≢true (was_number e h)
        go true (letter ∷ rest) e = false≢true (was_number e h)
        go false rest e = cc e
    number_step (InNumber phase text) next e h = go (number_may_end phase) (sym (after_number phase text) ∙ e)
      where
        go : (b : Bool) → cond b (let o : Option ReaderState = Some (expects (number_is_ended (state_in (InNumber phase text)) text) Next) in o) None ≡ Some next → ⊥
        go true e = false≢true (was_number e h)
        go false e = cc e
    number_step (InString is_key within text) next e h = go (next_within within byte) (sym (in_string is_key within text) ∙ e)
      where
        go : (o : Option Within) → option_map (λ next. state_in (InString is_key next (text ++ (byte ∷ [])))) o ≡ Some next → ⊥
        go None e = cc e
        go (Some within) e = false≢true (was_number e h)

-- the byte before a number's end is no white space
pub number_behind : (before next : ReaderState) (byte : ℕ) → step_in before.expected before byte ≡ Some next → is_number next.expected ≡ true → is_space byte ≡ false
number_behind before next byte e h = elim (cases_Bool (is_space byte)) [
  | inl s ↦ absurd (number_step byte s before.opened before.tokens before.expected next e h)
  | inr n ↦ n
]

-- a value that ends with white space has ended before it
module _ (bytes : List ℕ) (at : ℕ) (s : is_space (get_or bytes at 0) ≡ true) (opened : List Opened) (tokens : List Placed) where
  past_step : (expected : Expected) (next : ReaderState) → has_letters expected ≡ true → step_in expected (at_state expected opened tokens) (get_or bytes at 0) ≡ Some next
      → next.opened ≡ [] → next.expected ≡ Next → front_ends opened expected bytes at ≡ true
  past_step AValue next l e o h = absurd (false≢true (was_next (sym (stays_value (get_or bytes at 0) s opened tokens) ∙ e) h))
  past_step FirstItem next l e o h = absurd (false≢true (was_next (sym (stays_item (get_or bytes at 0) s opened tokens) ∙ e) h))
  past_step FirstKey next l e o h = absurd (false≢true (was_next (sym (stays_key (get_or bytes at 0) s opened tokens) ∙ e) h))
  past_step NextKey next l e o h = absurd (false≢true (was_next (sym (stays_next_key (get_or bytes at 0) s opened tokens) ∙ e) h))
  past_step Colon next l e o h = absurd (false≢true (was_next (sym (stays_colon (get_or bytes at 0) s opened tokens) ∙ e) h))
  past_step Next next l e o h =
      ap (λ row. front_ends row Next bytes at) (was_opened (sym (follows_space (get_or bytes at 0) s (at_state Next opened tokens)) ∙ e) o)
  past_step (Letter first rest) next l e o h =
      let low = space_low (get_or bytes at 0) s in
      let other : (get_or bytes at 0 == first) ≡ false = grind (arith, nat_tests) in
      let none : step_in (Letter first rest) (at_state (Letter first rest) opened tokens) (get_or bytes at 0) ≡ None = rw other refl in
      absurd (cc (sym none ∙ e))
  past_step (InNumber phase text) next l e o h = go (number_may_end phase) refl (sym (after_number (get_or bytes at 0) s opened tokens phase text) ∙ e)
    where
      go : (b : Bool) → number_may_end phase ≡ b
          → cond b (let o : Option ReaderState = Some (expects (number_is_ended (at_state (InNumber phase text) opened tokens) text) Next) in o) None ≡ Some next
          → front_ends opened (InNumber phase text) bytes at ≡ true
      go true m e = ap (λ row. front_ends row (InNumber phase text) bytes at) (was_opened e o) ∙ rw (m, no_more (get_or bytes at 0) s phase) refl
      go false m e = absurd (cc e)
  past_step (InString is_key within text) next l e o h = go (next_within within (get_or bytes at 0)) (sym (in_string (get_or bytes at 0) s opened tokens is_key within text) ∙ e)
    where
      go : (w : Option Within) → option_map (λ next. at_state (InString is_key next (text ++ (get_or bytes at 0 ∷ []))) opened tokens) w ≡ Some next
          → front_ends opened (InString is_key within text) bytes at ≡ true
      go None e = absurd (cc e)
      go (Some within) e = absurd (false≢true (was_next e h))

word_letters : (word : made_word.Word) → has_letters (expected_word word) ≡ true
word_letters letters.Ull = refl
word_letters letters.Ll = refl
word_letters letters.L = refl
word_letters letters.Rue = refl
word_letters letters.Ue = refl
word_letters letters.E = refl
word_letters letters.Alse = refl
word_letters letters.Lse = refl
word_letters letters.Se = refl

made_letters : (bytes : List ℕ) (from upto : ℕ) (e : made.Expected) → has_letters (expected_of bytes from upto e) ≡ true
made_letters bytes from upto (expected.Letter word) = word_letters word
made_letters bytes from upto e = refl

past_is : (opened : List Opened) (e : made.Expected) → is_past opened e ≡ true → (opened ≡ []) × (e ≡ expected.Next)
past_is [] expected.Next h = (refl, refl)
past_is [] e h = absurd (cc h)
past_is (first ∷ opened) e h = absurd (cc h)

word_next : (word : made_word.Word) → is_next (expected_word word) ≡ false
word_next letters.Ull = refl
word_next letters.Ll = refl
word_next letters.L = refl
word_next letters.Rue = refl
word_next letters.Ue = refl
word_next letters.E = refl
word_next letters.Alse = refl
word_next letters.Lse = refl
word_next letters.Se = refl

made_next : (bytes : List ℕ) (from upto : ℕ) (e : made.Expected) → expected_of bytes from upto e ≡ Next → is_past [] e ≡ true
made_next bytes from upto expected.Next h = refl
made_next bytes from upto (expected.Letter word) h = absurd (false≢true (sym (word_next word) ∙ ap is_next h))
made_next bytes from upto e h = absurd (false≢true (ap is_next h))

-- behind a value, as the code sees it
pub past_next : (bytes : List ℕ) (upto : ℕ) (reader : Reader) → expected_of bytes reader.from upto reader.expected ≡ Next → reader.opened ≡ [] → is_past reader.opened reader.expected ≡ true
past_next bytes upto reader h o = ap (λ row. is_past row reader.expected) o ∙ made_next bytes reader.from upto reader.expected h

pub starts_before : (bytes : List ℕ) (reader : Reader) → seen_state bytes 0 reader ≡ reader_start → is_past reader.opened reader.expected ≡ true → ⊥
starts_before bytes reader e p =
    let (o, h) = past_is reader.opened reader.expected p in
    false≢true (sym (ap (λ s. is_next s.expected) e) ∙ ap (λ x. is_next (expected_of bytes reader.from 0 x)) h)

-- the byte with which a value ends is no white space
pub space_behind : (bytes : List ℕ) (at from start upto : ℕ) (old new : made.Expected) (before next : ReaderState) → before.expected ≡ expected_of bytes from at old → next.expected ≡ expected_of bytes start upto new
    → front_ends before.opened before.expected bytes at ≡ false → step_in before.expected before (get_or bytes at 0) ≡ Some next → is_past next.opened new ≡ true → is_space (get_or bytes at 0) ≡ false
space_behind bytes at from start upto old new before next b n f e p = elim (cases_Bool (is_space (get_or bytes at 0))) [
  | inl s ↦
      let (o, h) = past_is next.opened new p in
      let ended = past_step bytes at s before.opened before.tokens before.expected next (ap has_letters b ∙ made_letters bytes from at old) e o (n ∙ ap (expected_of bytes start upto) h) in
      absurd (false≢true (sym f ∙ ended))
  | inr n ↦ n
]

-- ---- where the text may end

pub data AtEnd : Expected → List Opened → Type 0 where
  at_next : AtEnd Next []
  at_number : {phase : NumberPhase} {text : List ℕ} → number_may_end phase ≡ true → AtEnd (InNumber phase text) []

pub at_end : (expected : Expected) (opened : List Opened) (tokens found : List Placed) → at_end_in expected opened tokens ≡ Some found → AtEnd expected opened
at_end Next [] tokens found e = at_next
at_end Next (first ∷ opened) tokens found e = absurd (cc e)
at_end (InNumber phase text) [] tokens found e = go (number_may_end phase) refl e
  where
    go : (b : Bool) → number_may_end phase ≡ b → cond b (let o : Option (List Placed) = Some (tokens ++ (placed_at token.Alone (token.Number text) ∷ [])) in o) None ≡ Some found → AtEnd (InNumber phase text) []
    go true m e = at_number m
    go false m e = absurd (cc e)
at_end (InNumber phase text) (first ∷ opened) tokens found e = absurd (cc e)
at_end expected opened tokens found e = absurd (cc e)

number_byte_low : (byte : ℕ) → is_number_byte byte ≡ true → byte < 128
number_byte_low byte h = elim (cases_lt byte 128) [ inl low ↦ low | inr high ↦ let n = no_number_byte byte high in absurd (cc) ]

-- from there only white space and what a number goes on with is taken
pub end_takes : {expected : Expected} {opened : List Opened} (tokens : List Placed) (byte : ℕ) (next : ReaderState) → AtEnd expected opened → step_in expected (at_state expected opened tokens) byte ≡ Some next
    → (is_space byte ≡ true) ⊎ ((is_space byte ≡ false) × (byte < 128))
end_takes tokens byte next at_next e = inl (cond_some _ (is_space byte) e)
end_takes tokens byte next (at_number {phase = phase} {text = text} m) e = elim (cases_Bool (is_number_byte byte)) [
  | inl n ↦ elim (cases_Bool (is_space byte)) [ inl s ↦ inl s | inr t ↦ inr (t, number_byte_low byte n) ]
  | inr n ↦
      let ended : step_in (InNumber phase text) (at_state (InNumber phase text) [] tokens) byte ≡ follows (number_is_ended (at_state (InNumber phase text) [] tokens) text) byte = rw (n, m) refl in
      inl (cond_some _ (is_space byte) (sym ended ∙ e))
]

-- behind white space nothing else comes
pub end_space : {expected : Expected} {opened : List Opened} (tokens : List Placed) (byte : ℕ) (next : ReaderState) → AtEnd expected opened → is_space byte ≡ true
    → step_in expected (at_state expected opened tokens) byte ≡ Some next → (left : List Placed) × (next ≡ at_state Next [] left)
end_space tokens byte next at_next s e = (tokens, sym (some_of (sym (follows_space byte s (at_state Next [] tokens)) ∙ e)))
end_space tokens byte next (at_number {phase = phase} {text = text} m) s e =
    let ended : step_in (InNumber phase text) (at_state (InNumber phase text) [] tokens) byte ≡ Some (expects (number_is_ended (at_state (InNumber phase text) [] tokens) text) Next) =
    after_number byte s [] tokens phase text ∙ rw m refl in
    (tokens ++ (placed_at token.Alone (token.Number text) ∷ []), sym (some_of (sym ended ∙ e)))

-- a state in which a value has ended stays such a one
pub past_stays : (bytes : List ℕ) (tokens : List Placed) (last : ReaderState) → after_bytes (at_state Next [] tokens) bytes ≡ Some last → (left : List Placed) × (last ≡ at_state Next [] left)
past_stays [] tokens last e = (tokens, sym (some_of e))
past_stays (byte ∷ bytes) tokens last e = elim (cases_Bool (is_space byte)) [
  | inl s ↦
      let taken : after_bytes (at_state Next [] tokens) (byte ∷ bytes) ≡ after_bytes (at_state Next [] tokens) bytes = rw s refl in
      past_stays bytes tokens last (sym taken ∙ e)
  | inr n ↦
      let refused : after_bytes (at_state Next [] tokens) (byte ∷ bytes) ≡ None = rw n refl in
      absurd (cc (sym refused ∙ e))
]

-- ---- where the first value ends

is_of_number : (byte : ℕ) (phase : NumberPhase) → is_number_byte byte ≡ false → next_phase phase byte ≡ None
is_of_number byte phase n =
    let (others, mark) = or_parts (is_ascii_digit byte || is_sign byte || (byte == point)) (is_exponent_mark byte) n in
    let (first, dot) = or_parts (is_ascii_digit byte || is_sign byte) (byte == point) others in
    let (digit, sign) = or_parts (is_ascii_digit byte) (is_sign byte) first in
    go phase digit sign dot mark
  where
    zero_no : is_ascii_digit byte ≡ false → (byte == 48) ≡ false
    zero_no d = grind (arith, nat_tests)

    go : (phase : NumberPhase) → is_ascii_digit byte ≡ false → is_sign byte ≡ false → (byte == point) ≡ false → is_exponent_mark byte ≡ false → next_phase phase byte ≡ None
    go Minus d s p m = rw (zero_no d, d) refl
    go Zero d s p m = rw (p, m) refl
    go Whole d s p m = rw (d, p, m) refl
    go Point d s p m = rw d refl
    go Fraction d s p m = rw (d, m) refl
    go Mark d s p m = rw (s, d) refl
    go Sign d s p m = rw d refl
    go Power d s p m = rw d refl

-- only white space may follow
pub ends_space : (bytes : List ℕ) (at : ℕ) (expected : Expected) (opened : List Opened) (tokens : List Placed) (next : ReaderState) → at < length bytes → front_ends opened expected bytes at ≡ true
    → step_in expected (at_state expected opened tokens) (get_or bytes at 0) ≡ Some next → is_space (get_or bytes at 0) ≡ true
ends_space bytes at Next [] tokens next l h e = cond_some _ (is_space (get_or bytes at 0)) e
ends_space bytes at (InNumber phase text) [] tokens next l h e = go (next_phase phase (get_or bytes at 0)) refl both.1
  where
    both : (number_may_end phase ≡ true) × (not (is_some (next_phase phase (get_or bytes at 0)) && nat_lt at (length bytes)) ≡ true)
    both = and_parts (number_may_end phase) (not (is_some (next_phase phase (get_or bytes at 0)) && nat_lt at (length bytes))) h

    in_bytes : nat_lt at (length bytes) ≡ true
    in_bytes = grind (arith, nat_tests)

    ended : next_phase phase (get_or bytes at 0) ≡ None → is_space (get_or bytes at 0) ≡ true
    ended n = elim (cases_Bool (is_number_byte (get_or bytes at 0))) [
      | inl b ↦
          let none : step_in (InNumber phase text) (at_state (InNumber phase text) [] tokens) (get_or bytes at 0) ≡ None = rw (b, n) refl in
          absurd (cc (sym none ∙ e))
      | inr b ↦
          let behind : step_in (InNumber phase text) (at_state (InNumber phase text) [] tokens) (get_or bytes at 0) ≡ follows (number_is_ended (at_state (InNumber phase text) [] tokens) text) (get_or bytes at 0) = rw (b, both.0) refl in
          cond_some _ (is_space (get_or bytes at 0)) (sym behind ∙ e)
    ]

    go : (o : Option NumberPhase) → next_phase phase (get_or bytes at 0) ≡ o → not (is_some o && nat_lt at (length bytes)) ≡ true → is_space (get_or bytes at 0) ≡ true
    go None n k = ended n
    go (Some more) n k = absurd (false≢true (sym (ap (λ b. not (true && b)) in_bytes) ∙ k))
ends_space bytes at expected [] tokens next l h e = absurd (false≢true h)
ends_space bytes at expected (first ∷ opened) tokens next l h e = absurd (false≢true h)

-- where it doesn't end, the text may end only before more of a number
pub ends_not : {expected : Expected} {opened : List Opened} (bytes : List ℕ) (at : ℕ) (tokens : List Placed) → AtEnd expected opened → front_ends opened expected bytes at ≡ false
    → (at < length bytes → step_in expected (at_state expected opened tokens) (get_or bytes at 0) ≡ None) → ⊥
ends_not bytes at tokens at_next h r = cc h
ends_not bytes at tokens (at_number {phase = phase} {text = text} m) h r = go (next_phase phase (get_or bytes at 0)) refl more.0
  where
    goes_on : (is_some (next_phase phase (get_or bytes at 0)) && nat_lt at (length bytes)) ≡ true
    goes_on =
        not-false (is_some (next_phase phase (get_or bytes at 0)) && nat_lt at (length bytes))
        (sym (ap (λ b. b && not (is_some (next_phase phase (get_or bytes at 0)) && nat_lt at (length bytes))) m) ∙ h)

    more : (is_some (next_phase phase (get_or bytes at 0)) ≡ true) × (nat_lt at (length bytes) ≡ true)
    more = and_parts (is_some (next_phase phase (get_or bytes at 0))) (nat_lt at (length bytes)) goes_on

    in_bytes : nat_lt at (length bytes) ≡ true → at < length bytes
    in_bytes k = grind (arith, nat_tests)

    go : (o : Option NumberPhase) → next_phase phase (get_or bytes at 0) ≡ o → is_some o ≡ true → ⊥
    go None n k = cc k
    go (Some next) n k = elim (cases_Bool (is_number_byte (get_or bytes at 0))) [
      | inl b ↦
          let taken : step_in (InNumber phase text) (at_state (InNumber phase text) [] tokens) (get_or bytes at 0) ≡ Some (at_state (InNumber next (text ++ (get_or bytes at 0 ∷ []))) [] tokens) = rw (b, n) refl in
          cc (sym taken ∙ r (in_bytes more.1))
      | inr b ↦ cc (sym n ∙ is_of_number (get_or bytes at 0) phase b)
    ]
