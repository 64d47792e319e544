-- From each state of the machine some ASCII completes the text.
use Rattle.std.specs.Prelude.{◌≡◌, ℕ, Bool, true, false, cond, ◌&&◌, ◌==◌, nat_lt, List, [], ◌∷◌, ◌++◌, Option, Some, None, option_map, refl}
use Rattle.std.specs.List.{list_all}
use Rattle.std.proofs.Common.{ap, ◌∙◌}
use Rattle.std.proofs.lemmas.Bool.{and_parts, and_from}
use Rattle.sval_json.specs.Digits.{front, after_front, is_number_byte}
use Rattle.sval_json.specs.Grammar as json
use Rattle.sval_json.specs.Grammar.{is_space, close}
use Rattle.sval_json_read.specs.Tokens.{Placed, Token}
use Rattle.sval_json_read.specs.Tokens as token
use Rattle.sval_json_read.specs.Numbers.{NumberPhase, Minus, Zero, Whole, Point, Fraction, Mark, Sign, Power, first_phase, next_phase, number_may_end}
use Rattle.sval_json_read.specs.Strings.{Within, Plain, Backslash, Unit, UnitD, ThreeLeft, TwoLeft, OneLeft, HighTwoLeft, HighOneLeft, High, LowBackslash, LowUnit, LowD, LowTwoLeft, LowOneLeft, next_within, closes_string}
use Rattle.sval_json_read.specs.Reader.{Opened, Array, Object, Expected, AValue, FirstItem, FirstKey, NextKey, Colon, Next, Letter, InNumber, InString, ReaderState, place_in, expects, adds_token, opens_container, ends_container, begins, comma_or_close, follows, begins_key, letters_left, number_is_ended, string_ends, step_in, reader_step}
use Rattle.sval_json_read.proofs.NumberPhases.{completes}
use Rattle.sval_json_read.proofs.StringSteps.{Completes, string-step, string-closes}
use Rattle.sval_json_read.proofs.Fits.{Ends, whole, array_ends, object_ends, ValueThen, value_then, ColonThen, colon_then, KeyThen, key_then, Fits, value, first_item, first_key, next_key, colon, after_it, letter, in_number, in_key, in_text}

abbrev pub all_ascii : List ℕ → Bool
all_ascii bytes = list_all (λ b. nat_lt b 128) bytes

-- the letters that are left of a word are ASCII
abbrev pub has_ascii : Expected → Bool
has_ascii (Letter first letters) = nat_lt first 128 && all_ascii letters
has_ascii _ = true

pub record Completion (expected : Expected) (opened : List Opened) : Type 0 where
  pub more : List ℕ
  pub ascii : all_ascii more ≡ true
  pub fits : Fits expected opened more

-- ---- the ends of all that is open

abbrev closers : List Opened → List ℕ
closers [] = []
closers (Array ∷ around) = 93 ∷ closers around
closers (Object ∷ around) = 125 ∷ closers around

closers_ascii : (opened : List Opened) → all_ascii (closers opened) ≡ true
closers_ascii [] = refl
closers_ascii (Array ∷ around) = closers_ascii around
closers_ascii (Object ∷ around) = closers_ascii around

closers_end : (opened : List Opened) → Ends opened (closers opened)
closers_end [] = whole refl
closers_end (Array ∷ around) = array_ends refl (closers_end around)
closers_end (Object ∷ around) = object_ends refl (closers_end around)

no_number : (opened : List Opened) → front is_number_byte (closers opened) ≡ []
no_number [] = refl
no_number (Array ∷ around) = refl
no_number (Object ∷ around) = refl

no_number_after : (opened : List Opened) → after_front is_number_byte (closers opened) ≡ closers opened
no_number_after [] = refl
no_number_after (Array ∷ around) = refl
no_number_after (Object ∷ around) = refl

null_then : (opened : List Opened) → ValueThen opened (110 ∷ 117 ∷ 108 ∷ 108 ∷ closers opened)
null_then opened = value_then json.null (closers_end opened)

colon_null : (opened : List Opened) → ColonThen opened (58 ∷ 110 ∷ 117 ∷ 108 ∷ 108 ∷ closers opened)
colon_null opened = colon_then refl (null_then opened)

key_null : (opened : List Opened) → KeyThen opened (34 ∷ 34 ∷ 58 ∷ 110 ∷ 117 ∷ 108 ∷ 108 ∷ closers opened)
key_null opened = key_then refl close (colon_null opened)

-- ---- strings

abbrev string_rest : Within → List ℕ
string_rest Plain = 34 ∷ []
string_rest Backslash = 110 ∷ 34 ∷ []
string_rest Unit = 48 ∷ 48 ∷ 48 ∷ 48 ∷ 34 ∷ []
string_rest UnitD = 48 ∷ 48 ∷ 48 ∷ 34 ∷ []
string_rest ThreeLeft = 48 ∷ 48 ∷ 48 ∷ 34 ∷ []
string_rest TwoLeft = 48 ∷ 48 ∷ 34 ∷ []
string_rest OneLeft = 48 ∷ 34 ∷ []
string_rest HighTwoLeft = 48 ∷ 48 ∷ 92 ∷ 117 ∷ 100 ∷ 99 ∷ 48 ∷ 48 ∷ 34 ∷ []
string_rest HighOneLeft = 48 ∷ 92 ∷ 117 ∷ 100 ∷ 99 ∷ 48 ∷ 48 ∷ 34 ∷ []
string_rest High = 92 ∷ 117 ∷ 100 ∷ 99 ∷ 48 ∷ 48 ∷ 34 ∷ []
string_rest LowBackslash = 117 ∷ 100 ∷ 99 ∷ 48 ∷ 48 ∷ 34 ∷ []
string_rest LowUnit = 100 ∷ 99 ∷ 48 ∷ 48 ∷ 34 ∷ []
string_rest LowD = 99 ∷ 48 ∷ 48 ∷ 34 ∷ []
string_rest LowTwoLeft = 48 ∷ 48 ∷ 34 ∷ []
string_rest LowOneLeft = 48 ∷ 34 ∷ []

module _ (rest : List ℕ) where
  plain_rest : Completes Plain (34 ∷ rest) rest
  plain_rest = string-closes Plain 34 refl

  one_rest : Completes OneLeft (48 ∷ 34 ∷ rest) rest
  one_rest = string-step OneLeft 48 _ rest plain_rest

  two_rest : Completes TwoLeft (48 ∷ 48 ∷ 34 ∷ rest) rest
  two_rest = string-step TwoLeft 48 _ rest one_rest

  three_rest : Completes ThreeLeft (48 ∷ 48 ∷ 48 ∷ 34 ∷ rest) rest
  three_rest = string-step ThreeLeft 48 _ rest two_rest

  low_one_rest : Completes LowOneLeft (48 ∷ 34 ∷ rest) rest
  low_one_rest = string-step LowOneLeft 48 _ rest plain_rest

  low_two_rest : Completes LowTwoLeft (48 ∷ 48 ∷ 34 ∷ rest) rest
  low_two_rest = string-step LowTwoLeft 48 _ rest low_one_rest

  low_d_rest : Completes LowD (99 ∷ 48 ∷ 48 ∷ 34 ∷ rest) rest
  low_d_rest = string-step LowD 99 _ rest low_two_rest

  low_unit_rest : Completes LowUnit (100 ∷ 99 ∷ 48 ∷ 48 ∷ 34 ∷ rest) rest
  low_unit_rest = string-step LowUnit 100 _ rest low_d_rest

  low_backslash_rest : Completes LowBackslash (117 ∷ 100 ∷ 99 ∷ 48 ∷ 48 ∷ 34 ∷ rest) rest
  low_backslash_rest = string-step LowBackslash 117 _ rest low_unit_rest

  high_rest : Completes High (92 ∷ 117 ∷ 100 ∷ 99 ∷ 48 ∷ 48 ∷ 34 ∷ rest) rest
  high_rest = string-step High 92 _ rest low_backslash_rest

  high_one_rest : Completes HighOneLeft (48 ∷ 92 ∷ 117 ∷ 100 ∷ 99 ∷ 48 ∷ 48 ∷ 34 ∷ rest) rest
  high_one_rest = string-step HighOneLeft 48 _ rest high_rest

  rest_of_string : (within : Within) → Completes within (string_rest within ++ rest) rest
  rest_of_string Plain = plain_rest
  rest_of_string Backslash = string-step Backslash 110 _ rest plain_rest
  rest_of_string Unit = string-step Unit 48 _ rest three_rest
  rest_of_string UnitD = string-step UnitD 48 _ rest two_rest
  rest_of_string ThreeLeft = three_rest
  rest_of_string TwoLeft = two_rest
  rest_of_string OneLeft = one_rest
  rest_of_string HighTwoLeft = string-step HighTwoLeft 48 _ rest high_one_rest
  rest_of_string HighOneLeft = high_one_rest
  rest_of_string High = high_rest
  rest_of_string LowBackslash = low_backslash_rest
  rest_of_string LowUnit = low_unit_rest
  rest_of_string LowD = low_d_rest
  rest_of_string LowTwoLeft = low_two_rest
  rest_of_string LowOneLeft = low_one_rest

string_ascii : (within : Within) (rest : List ℕ) → all_ascii rest ≡ true → all_ascii (string_rest within ++ rest) ≡ true
string_ascii Plain rest h = h
string_ascii Backslash rest h = h
string_ascii Unit rest h = h
string_ascii UnitD rest h = h
string_ascii ThreeLeft rest h = h
string_ascii TwoLeft rest h = h
string_ascii OneLeft rest h = h
string_ascii HighTwoLeft rest h = h
string_ascii HighOneLeft rest h = h
string_ascii High rest h = h
string_ascii LowBackslash rest h = h
string_ascii LowUnit rest h = h
string_ascii LowD rest h = h
string_ascii LowTwoLeft rest h = h
string_ascii LowOneLeft rest h = h

-- ---- numbers

abbrev number_rest : NumberPhase → List ℕ
number_rest Minus = 48 ∷ []
number_rest Point = 48 ∷ []
number_rest Mark = 48 ∷ []
number_rest Sign = 48 ∷ []
number_rest _ = []

number_completes : (phase : NumberPhase) → completes phase (number_rest phase) ≡ true
number_completes Minus = refl
number_completes Zero = refl
number_completes Whole = refl
number_completes Point = refl
number_completes Fraction = refl
number_completes Mark = refl
number_completes Sign = refl
number_completes Power = refl

number_then : (phase : NumberPhase) (rest : List ℕ) → front is_number_byte rest ≡ [] → front is_number_byte (number_rest phase ++ rest) ≡ number_rest phase
number_then Minus rest h = ap (λ x. 48 ∷ x) h
number_then Point rest h = ap (λ x. 48 ∷ x) h
number_then Mark rest h = ap (λ x. 48 ∷ x) h
number_then Sign rest h = ap (λ x. 48 ∷ x) h
number_then phase rest h = h

number_after : (phase : NumberPhase) (rest : List ℕ) → after_front is_number_byte rest ≡ rest → after_front is_number_byte (number_rest phase ++ rest) ≡ rest
number_after Minus rest h = h
number_after Point rest h = h
number_after Mark rest h = h
number_after Sign rest h = h
number_after phase rest h = h

number_ascii : (phase : NumberPhase) (rest : List ℕ) → all_ascii rest ≡ true → all_ascii (number_rest phase ++ rest) ≡ true
number_ascii Minus rest h = h
number_ascii Point rest h = h
number_ascii Mark rest h = h
number_ascii Sign rest h = h
number_ascii phase rest h = h

letters_ascii : (letters rest : List ℕ) → all_ascii letters ≡ true → all_ascii rest ≡ true → all_ascii (letters ++ rest) ≡ true
letters_ascii [] rest h k = k
letters_ascii (first ∷ letters) rest h k =
    let (a, b) = and_parts (nat_lt first 128) (all_ascii letters) h in and_from (nat_lt first 128) (all_ascii (letters ++ rest)) a (letters_ascii letters rest b k)

pub completion : (expected : Expected) (opened : List Opened) → has_ascii expected ≡ true → Completion expected opened
completion AValue opened h = record { more = 110 ∷ 117 ∷ 108 ∷ 108 ∷ closers opened; ascii = closers_ascii opened; fits = value (null_then opened) }
completion FirstItem opened h = record { more = 110 ∷ 117 ∷ 108 ∷ 108 ∷ closers opened; ascii = closers_ascii opened; fits = first_item (null_then opened) }
completion FirstKey opened h = record { more = 34 ∷ 34 ∷ 58 ∷ 110 ∷ 117 ∷ 108 ∷ 108 ∷ closers opened; ascii = closers_ascii opened; fits = first_key (key_null opened) }
completion NextKey opened h = record { more = 34 ∷ 34 ∷ 58 ∷ 110 ∷ 117 ∷ 108 ∷ 108 ∷ closers opened; ascii = closers_ascii opened; fits = next_key (key_null opened) }
completion Colon opened h = record { more = 58 ∷ 110 ∷ 117 ∷ 108 ∷ 108 ∷ closers opened; ascii = closers_ascii opened; fits = colon (colon_null opened) }
completion Next opened h = record { more = closers opened; ascii = closers_ascii opened; fits = after_it (closers_end opened) }
completion (Letter first letters) opened h = record {
  more = first ∷ (letters ++ closers opened);
  ascii = letters_ascii (first ∷ letters) (closers opened) h (closers_ascii opened);
  fits = letter refl (closers_end opened);
}
completion (InNumber phase read) opened h = record {
  more = number_rest phase ++ closers opened;
  ascii = number_ascii phase (closers opened) (closers_ascii opened);
  fits = in_number (ap (completes phase) (number_then phase (closers opened) (no_number opened)) ∙ number_completes phase)
      (rw (number_after phase (closers opened) (no_number_after opened)) (closers_end opened));
}
completion (InString true within read) opened h = record {
  more = string_rest within ++ (58 ∷ 110 ∷ 117 ∷ 108 ∷ 108 ∷ closers opened);
  ascii = string_ascii within (58 ∷ 110 ∷ 117 ∷ 108 ∷ 108 ∷ closers opened) (closers_ascii opened);
  fits = in_key (58 ∷ 110 ∷ 117 ∷ 108 ∷ 108 ∷ closers opened) (rest_of_string (58 ∷ 110 ∷ 117 ∷ 108 ∷ 108 ∷ closers opened) within) (colon_null opened);
}
completion (InString false within read) opened h = record {
  more = string_rest within ++ closers opened;
  ascii = string_ascii within (closers opened) (closers_ascii opened);
  fits = in_text (closers opened) (rest_of_string (closers opened) within) (closers_end opened);
}

-- ---- the letters stay ASCII

pub data StaysAscii : Option ReaderState → Type 0 where
  refused : StaysAscii None
  stays : {state : ReaderState} → has_ascii state.expected ≡ true → StaysAscii (Some state)

or_else : (test : Bool) (state : ReaderState) {others : Option ReaderState} → has_ascii state.expected ≡ true → StaysAscii others → StaysAscii (cond test (Some state) others)
or_else true state h k = stays h
or_else false state h k = k

one_of : (test : Bool) {some others : Option ReaderState} → StaysAscii some → StaysAscii others → StaysAscii (cond test some others)
one_of true h k = h
one_of false h k = k

mapped : {T : Type 0} (f : T → ReaderState) (o : Option T) → ((x : T) → has_ascii (f x).expected ≡ true) → StaysAscii (option_map f o)
mapped f None h = refused
mapped f (Some x) h = stays (h x)

goes_on_ascii : (state : ReaderState) (opened : List Opened) (byte : ℕ) → StaysAscii (comma_or_close state opened byte)
goes_on_ascii state [] byte = refused
goes_on_ascii state (Array ∷ around) byte = or_else (byte == 44) (expects state AValue) refl (or_else (byte == 93) (ends_container state around token.EndArray) refl refused)
goes_on_ascii state (Object ∷ around) byte = or_else (byte == 44) (expects state NextKey) refl (or_else (byte == 125) (ends_container state around token.EndObject) refl refused)

follows_ascii : (state : ReaderState) (byte : ℕ) → StaysAscii (follows state byte)
follows_ascii state byte = or_else (is_space byte) (expects state Next) refl (goes_on_ascii state state.opened byte)

begins_ascii : (state : ReaderState) (byte : ℕ) → StaysAscii (begins state byte)
begins_ascii state byte =
    or_else (byte == 34) (expects state (InString false Plain [])) refl
    (or_else (byte == 91) (opens_container state Array token.BeginArray FirstItem) refl
    (or_else (byte == 123) (opens_container state Object token.BeginObject FirstKey) refl
    (or_else (byte == 110) (adds_token state (place_in state.opened) token.Null (Letter 117 (108 ∷ 108 ∷ []))) refl
    (or_else (byte == 116) (adds_token state (place_in state.opened) (token.Truth true) (Letter 114 (117 ∷ 101 ∷ []))) refl
    (or_else (byte == 102) (adds_token state (place_in state.opened) (token.Truth false) (Letter 97 (108 ∷ 115 ∷ 101 ∷ []))) refl
    (mapped (λ phase. expects state (InNumber phase (byte ∷ []))) (first_phase byte) (λ phase. refl)))))))

begins_key_ascii : (state : ReaderState) (byte : ℕ) → StaysAscii (begins_key state byte)
begins_key_ascii state byte = or_else (byte == 34) (expects state (InString true Plain [])) refl refused

letters_left_ascii : (letters : List ℕ) → all_ascii letters ≡ true → has_ascii (letters_left letters) ≡ true
letters_left_ascii [] h = refl
letters_left_ascii (first ∷ letters) h = h

string_ends_ascii : (state : ReaderState) (is_key : Bool) (bytes : List ℕ) → has_ascii (string_ends state is_key bytes).expected ≡ true
string_ends_ascii state true bytes = refl
string_ends_ascii state false bytes = refl

step_in_ascii : (expected : Expected) (state : ReaderState) (byte : ℕ) → has_ascii expected ≡ true → has_ascii state.expected ≡ true → StaysAscii (step_in expected state byte)
step_in_ascii AValue state byte h k = or_else (is_space byte) state k (begins_ascii state byte)
step_in_ascii FirstItem state byte h k = or_else (is_space byte) state k (one_of (byte == 93) (follows_ascii state byte) (begins_ascii state byte))
step_in_ascii FirstKey state byte h k = or_else (is_space byte) state k (one_of (byte == 125) (follows_ascii state byte) (begins_key_ascii state byte))
step_in_ascii NextKey state byte h k = or_else (is_space byte) state k (begins_key_ascii state byte)
step_in_ascii Colon state byte h k = or_else (is_space byte) state k (or_else (byte == 58) (expects state AValue) refl refused)
step_in_ascii Next state byte h k = follows_ascii state byte
step_in_ascii (Letter first letters) state byte h k =
    or_else (byte == first) (expects state (letters_left letters)) (letters_left_ascii letters (and_parts (nat_lt first 128) (all_ascii letters) h).1) refused
step_in_ascii (InNumber phase text) state byte h k =
    one_of (is_number_byte byte) (mapped (λ next. expects state (InNumber next (text ++ (byte ∷ [])))) (next_phase phase byte) (λ next. refl))
    (one_of (number_may_end phase) (follows_ascii (number_is_ended state text) byte) refused)
step_in_ascii (InString is_key within bytes) state byte h k =
    or_else (closes_string within byte) (string_ends state is_key bytes) (string_ends_ascii state is_key bytes)
    (mapped (λ next. expects state (InString is_key next (bytes ++ (byte ∷ [])))) (next_within within byte) (λ next. refl))

pub step-ascii : (state : ReaderState) (byte : ℕ) → has_ascii state.expected ≡ true → StaysAscii (reader_step state byte)
step-ascii state byte h = step_in_ascii state.expected state byte h h
