-- Which bytes the machine takes depends on no more than what comes next and the innermost container.
use Rattle.std.specs.Prelude.{◌≡◌, ℕ, suc, ◌<◌, ◌≤◌, Bool, true, false, cond, ◌==◌, List, [], ◌∷◌, length, get_or, Option, Some, None, option_map, option_and_then, is_some, refl}
use Rattle.std.proofs.Common.{sym, ap, ◌∙◌, arith, inl, inr, lit≤, append-nil}
use Rattle.std.proofs.lemmas.Bool.{cases_lt}
use Rattle.std.proofs.lemmas.Str.{inside_one, length-encode, len_utf8_bounds, encode_ascii}
use Rattle.std.specs.Char.{encode_utf8}
use Rattle.sval_json.specs.Digits.{is_number_byte}
use Rattle.sval_json.specs.Grammar.{is_space}
use Rattle.sval_json_read.specs.Tokens.{Placed}
use Rattle.sval_json_read.specs.Numbers.{first_phase, next_phase, number_may_end}
use Rattle.sval_json_read.specs.Strings.{next_within, closes_string}
use Rattle.sval_json_read.specs.NextCharacters.{innermost_alone, waiting_state, takes_next, ends_next}
use Rattle.sval_json_read.specs.Reader.{Opened, Array, Object, Expected, AValue, FirstItem, FirstKey, NextKey, Colon, Next, Letter, InNumber, InString, ReaderState, begins, comma_or_close, follows, begins_key, number_is_ended, step_in, reader_step, after_bytes, at_end_in}
use Rattle.sval_json_read.specs.SeenOpened.{opened_of, TopContainerIs}
use Rattle.sval_json_read.specs.SeenReader.{expected_of}
use Rattle.sval_json_read.specs.Words.{expected_word}
use Rattle.sval_json_read.specs.declared.reader.Expected as made_expected
use Rattle.sval_json_read.specs.declared.reader.Expected.TheVariants as expected
use Rattle.sval_json_read.specs.declared.reader.waiting.Waiting.{Waiting}
use Rattle.sval_json_read.specs.declared.stack.Opened as made_opened
use Rattle.sval_json_read.specs.declared.stack.Opened.TheVariants as container
use Rattle.sval_json_read.specs.declared.word.Word.{Word}
use Rattle.sval_json_read.specs.declared.word.Word.TheVariants as word
use Rattle.sval_json_read.proofs.Boundaries.{is_plain, plain_or_not, high_refused, high_taken}
use Rattle.sval_json_read.proofs.Completed.{has_ascii}
use Rattle.sval_json_read.proofs.Runs.{at_state}

-- ---- states that take the same bytes

-- a byte is taken by both, or by neither
record TakeAlike {A : Type 0} (x y : Option A) : Type 0 where
  same : is_some x ≡ is_some y

some_alike : {A : Type 0} {x y : A} → TakeAlike (Some x) (Some y)
some_alike = record { same = refl }

none_alike : {A : Type 0} → TakeAlike {A = A} None None
none_alike = record { same = refl }

same_if : {A : Type 0} (test : Bool) {x y v w : Option A} → TakeAlike x y → TakeAlike v w → TakeAlike (cond test x v) (cond test y w)
same_if true h k = h
same_if false h k = k

same_mapped : {A B : Type 0} (f g : A → B) (o : Option A) → TakeAlike (option_map f o) (option_map g o)
same_mapped f g None = none_alike
same_mapped f g (Some x) = some_alike

-- the text of a number or string that was read
abbrev stripped : Expected → Expected
stripped (InNumber phase text) = InNumber phase []
stripped (InString is_key within text) = InString is_key within []
stripped expected = expected

commas_alike : (s t : ReaderState) (opened : List Opened) (byte : ℕ) → TakeAlike (comma_or_close s opened byte) (comma_or_close t opened byte)
commas_alike s t [] byte = none_alike
commas_alike s t (Array ∷ around) byte = same_if (byte == 44) some_alike (same_if (byte == 93) some_alike none_alike)
commas_alike s t (Object ∷ around) byte = same_if (byte == 44) some_alike (same_if (byte == 125) some_alike none_alike)

pub number_follows : (state : ReaderState) (text : List ℕ) (byte : ℕ) → is_some (follows (number_is_ended state text) byte) ≡ is_some (follows state byte)
number_follows state text byte =
    let h : TakeAlike (follows (number_is_ended state text) byte) (follows state byte) = same_if (is_space byte) some_alike (commas_alike (number_is_ended state text) state state.opened byte) in h.same

-- a container, and what is around it
module _ (top : Option made_opened.Opened) (opened : List Opened) (is : TopContainerIs top opened) where
  top_commas : (s t : ReaderState) (byte : ℕ) → TakeAlike (comma_or_close s opened byte) (comma_or_close t (innermost_alone top) byte)
  top_commas s t byte = go top is
    where
      go : (some : Option made_opened.Opened) → TopContainerIs some opened → TakeAlike (comma_or_close s opened byte) (comma_or_close t (innermost_alone some) byte)
      go None e = rw e none_alike
      go (Some container.Array) (outer, e) = rw e (same_if (byte == 44) some_alike (same_if (byte == 93) some_alike none_alike))
      go (Some container.Object) (outer, e) = rw e (same_if (byte == 44) some_alike (same_if (byte == 125) some_alike none_alike))

  module _ (e f : Expected) (tokens others : List Placed) (byte : ℕ) where
    follows_alike : TakeAlike (follows (at_state e opened tokens) byte) (follows (at_state f (innermost_alone top) others) byte)
    follows_alike = same_if (is_space byte) some_alike (top_commas (at_state e opened tokens) (at_state f (innermost_alone top) others) byte)

    begins_alike : TakeAlike (begins (at_state e opened tokens) byte) (begins (at_state f (innermost_alone top) others) byte)
    begins_alike =
        same_if (byte == 34) some_alike (same_if (byte == 91) some_alike (same_if (byte == 123) some_alike (same_if (byte == 110) some_alike (same_if (byte == 116) some_alike (same_if (byte == 102) some_alike (same_mapped _ _ (first_phase byte)))))))

    key_alike : TakeAlike (begins_key (at_state e opened tokens) byte) (begins_key (at_state f (innermost_alone top) others) byte)
    key_alike = same_if (byte == 34) some_alike none_alike

  step_alike : (x e f : Expected) (tokens others : List Placed) (byte : ℕ) → TakeAlike (step_in x (at_state e opened tokens) byte) (step_in (stripped x) (at_state f (innermost_alone top) others) byte)
  step_alike AValue e f tokens others byte = same_if (is_space byte) some_alike (begins_alike e f tokens others byte)
  step_alike FirstItem e f tokens others byte = same_if (is_space byte) some_alike (same_if (byte == 93) (follows_alike e f tokens others byte) (begins_alike e f tokens others byte))
  step_alike FirstKey e f tokens others byte = same_if (is_space byte) some_alike (same_if (byte == 125) (follows_alike e f tokens others byte) (key_alike e f tokens others byte))
  step_alike NextKey e f tokens others byte = same_if (is_space byte) some_alike (key_alike e f tokens others byte)
  step_alike Colon e f tokens others byte = same_if (is_space byte) some_alike (same_if (byte == 58) some_alike none_alike)
  step_alike Next e f tokens others byte = follows_alike e f tokens others byte
  step_alike (Letter first letters) e f tokens others byte = same_if (byte == first) some_alike none_alike
  step_alike (InNumber phase text) e f tokens others byte =
      same_if (is_number_byte byte) (same_mapped _ _ (next_phase phase byte))
      (same_if (number_may_end phase)
      (record { same = number_follows (at_state e opened tokens) text byte ∙ (follows_alike e f tokens others byte).same ∙ sym (number_follows (at_state f (innermost_alone top) others) [] byte) }) none_alike)
  step_alike (InString is_key within text) e f tokens others byte = same_if (closes_string within byte) some_alike (same_mapped _ _ (next_within within byte))

  ends_alone : (x : Expected) (tokens others : List Placed) → is_some (at_end_in x [] tokens) ≡ is_some (at_end_in (stripped x) [] others)
  ends_alone AValue tokens others = refl
  ends_alone FirstItem tokens others = refl
  ends_alone FirstKey tokens others = refl
  ends_alone NextKey tokens others = refl
  ends_alone Colon tokens others = refl
  ends_alone Next tokens others = refl
  ends_alone (Letter first letters) tokens others = refl
  ends_alone (InNumber phase text) tokens others =
      let h : TakeAlike (at_end_in (InNumber phase text) [] tokens) (at_end_in (InNumber phase []) [] others) = same_if (number_may_end phase) some_alike none_alike in h.same
  ends_alone (InString is_key within text) tokens others = refl

  open_ends_not : (x : Expected) (first : Opened) (outer : List Opened) (tokens : List Placed) → at_end_in x (first ∷ outer) tokens ≡ None
  open_ends_not AValue first outer tokens = refl
  open_ends_not FirstItem first outer tokens = refl
  open_ends_not FirstKey first outer tokens = refl
  open_ends_not NextKey first outer tokens = refl
  open_ends_not Colon first outer tokens = refl
  open_ends_not Next first outer tokens = refl
  open_ends_not (Letter letter letters) first outer tokens = refl
  open_ends_not (InNumber phase text) first outer tokens = refl
  open_ends_not (InString is_key within text) first outer tokens = refl

  end_alike : (x : Expected) (tokens others : List Placed) → is_some (at_end_in x opened tokens) ≡ is_some (at_end_in (stripped x) (innermost_alone top) others)
  end_alike x tokens others = go top is
    where
      go : (some : Option made_opened.Opened) → TopContainerIs some opened → is_some (at_end_in x opened tokens) ≡ is_some (at_end_in (stripped x) (innermost_alone some) others)
      go None e = rw e (ends_alone x tokens others)
      go (Some first) (outer, e) = rw (e, open_ends_not x (opened_of first) outer tokens, open_ends_not (stripped x) (opened_of first) [] others) refl

-- ---- what the code waits for

word_stripped : (left : Word) → stripped (expected_word left) ≡ expected_word left
word_stripped word.Ull = refl
word_stripped word.Ll = refl
word_stripped word.L = refl
word_stripped word.Rue = refl
word_stripped word.Ue = refl
word_stripped word.E = refl
word_stripped word.Alse = refl
word_stripped word.Lse = refl
word_stripped word.Se = refl

seen_stripped : (bytes : List ℕ) (from upto : ℕ) (x : made_expected.Expected) → stripped (expected_of bytes from upto x) ≡ expected_of [] 0 0 x
seen_stripped bytes from upto expected.AValue = refl
seen_stripped bytes from upto expected.FirstItem = refl
seen_stripped bytes from upto expected.FirstKey = refl
seen_stripped bytes from upto expected.NextKey = refl
seen_stripped bytes from upto expected.Colon = refl
seen_stripped bytes from upto expected.Next = refl
seen_stripped bytes from upto (expected.Letter left) = word_stripped left
seen_stripped bytes from upto (expected.InNumber phase) = refl
seen_stripped bytes from upto (expected.InString is_key within) = refl

module _ (bytes : List ℕ) (from upto : ℕ) (x : made_expected.Expected) (opened : List Opened) (tokens : List Placed) (waiting : Waiting) (same : waiting.expected ≡ x) (is : TopContainerIs waiting.innermost opened) where
  waits : stripped (expected_of bytes from upto x) ≡ expected_of [] 0 0 waiting.expected
  waits = seen_stripped bytes from upto x ∙ ap (expected_of [] 0 0) (sym same)

  pub takes_alike : (byte : ℕ) → is_some (reader_step (at_state (expected_of bytes from upto x) opened tokens) byte) ≡ takes_next (Some waiting) byte
  takes_alike byte =
      let all = innermost_alone waiting.innermost in
      let e = expected_of [] 0 0 waiting.expected in
      (step_alike waiting.innermost opened is (expected_of bytes from upto x) (expected_of bytes from upto x) e tokens [] byte).same
      ∙ ap (λ (y : Expected). is_some (step_in y (at_state e all []) byte)) waits

  pub ends_alike : is_some (at_end_in (expected_of bytes from upto x) opened tokens) ≡ ends_next (Some waiting)
  ends_alike =
      end_alike waiting.innermost opened is (expected_of bytes from upto x) tokens []
      ∙ ap (λ (y : Expected). is_some (at_end_in y (innermost_alone waiting.innermost) [])) waits

-- ---- bytes that are no ASCII

abbrev all_high : List ℕ → Type 0
all_high [] = Unit {0}
all_high (byte ∷ bytes) = (128 ≤ byte) × all_high bytes

strings_take : (bytes : List ℕ) (state : ReaderState) → all_high bytes → is_plain state.expected ≡ true → is_some (after_bytes state bytes) ≡ true
strings_take [] state h p = refl
strings_take (byte ∷ bytes) state h p =
    let (next, e, q) = high_taken byte h.0 state.expected state p in
    ap (λ o. is_some (option_and_then (λ s. after_bytes s bytes) o)) e ∙ strings_take bytes next h.1 q

-- in strings they are taken, and nowhere else
high_in : (bytes : List ℕ) (state : ReaderState) → 0 < length bytes → all_high bytes → has_ascii state.expected ≡ true → is_some (after_bytes state bytes) ≡ is_plain state.expected
high_in [] state l h a = absurd (omega arith)
high_in (byte ∷ bytes) state l h a = elim (plain_or_not (is_plain state.expected)) [
  | inl p ↦ strings_take (byte ∷ bytes) state h p ∙ sym p
  | inr n ↦ ap (λ o. is_some (option_and_then (λ s. after_bytes s bytes) o)) (high_refused byte h.0 state.expected state a n) ∙ sym n
]

one_byte : (o : Option ReaderState) → is_some (option_and_then (λ s. Some s) o) ≡ is_some o
one_byte None = refl
one_byte (Some s) = refl

high_byte : (byte : ℕ) (state : ReaderState) → 128 ≤ byte → has_ascii state.expected ≡ true → is_some (reader_step state byte) ≡ is_plain state.expected
high_byte byte state h a = sym (one_byte (reader_step state byte)) ∙ high_in (byte ∷ []) state (omega arith) (h, tt) a

-- ---- characters

from_places : (bytes : List ℕ) → ((k : ℕ) → k < length bytes → 128 ≤ get_or bytes k 0) → all_high bytes
from_places [] f = tt
from_places (byte ∷ bytes) f = (f 0 (omega arith), from_places bytes (λ k l. f (suc k) (omega arith)))

high_bytes : (c : ℕ) → 128 ≤ c → all_high (encode_utf8 c)
high_bytes c h = from_places (encode_utf8 c) (λ k l. elim (cases_lt (get_or (encode_utf8 c) k 0) 128) [
  | inl low ↦ let e = inside_one c [] (encode_utf8 c) k (sym (append-nil (encode_utf8 c))) l low in absurd (omega arith)
  | inr high ↦ high
])

-- a character is taken as it is by the machine, in one byte or more
pub character_taken : (c : ℕ) (state : ReaderState) → has_ascii state.expected ≡ true → is_some (after_bytes state (encode_utf8 c)) ≡ is_some (reader_step state c)
character_taken c state a = elim (cases_lt c 128) [
  | inl low ↦ ap (λ bytes. is_some (after_bytes state bytes)) (encode_ascii c low) ∙ one_byte (reader_step state c)
  | inr high ↦ high_in (encode_utf8 c) state (omega (arith, length-encode c, (len_utf8_bounds c).0)) (high_bytes c high) a ∙ sym (high_byte c state high a)
]

word_ascii : (left : Word) → has_ascii (expected_word left) ≡ true
word_ascii word.Ull = refl
word_ascii word.Ll = refl
word_ascii word.L = refl
word_ascii word.Rue = refl
word_ascii word.Ue = refl
word_ascii word.E = refl
word_ascii word.Alse = refl
word_ascii word.Lse = refl
word_ascii word.Se = refl

seen_ascii : (x : made_expected.Expected) → has_ascii (expected_of [] 0 0 x) ≡ true
seen_ascii expected.AValue = refl
seen_ascii expected.FirstItem = refl
seen_ascii expected.FirstKey = refl
seen_ascii expected.NextKey = refl
seen_ascii expected.Colon = refl
seen_ascii expected.Next = refl
seen_ascii (expected.Letter left) = word_ascii left
seen_ascii (expected.InNumber phase) = refl
seen_ascii (expected.InString is_key within) = refl

-- a character that is no ASCII is as any other
pub high_alike : (waiting : Waiting) (c : ℕ) → 128 ≤ c → is_some (reader_step (waiting_state waiting) c) ≡ is_some (reader_step (waiting_state waiting) 128)
high_alike waiting c h =
    let a = seen_ascii waiting.expected in
    high_byte c (waiting_state waiting) h a ∙ sym (high_byte 128 (waiting_state waiting) (lit≤ tt) a)
