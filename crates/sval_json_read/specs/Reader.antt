-- The machine that reads a text byte by byte, with a stack in place of recursion.
use Rattle.std.specs.Prelude.{ℕ, zero, suc, Bool, true, false, ◌==◌, if◌then◌else◌, List, [], ◌∷◌, ◌++◌, codes, Option, Some, None, option_and_then, option_map}
use Rattle.std.specs.Option.{option_map_or}
use Rattle.sval_json.specs.Digits.{is_number_byte}
use Rattle.sval_json.specs.Grammar.{is_space}
use Rattle.sval_json_read.specs.Tokens as token
use Rattle.sval_json_read.specs.Tokens.{Place, Alone, Item, Key, Value, Token, Placed, placed_at}
use Rattle.sval_json_read.specs.Numbers.{NumberPhase, first_phase, next_phase, number_may_end}
use Rattle.sval_json_read.specs.Strings.{Within, Plain, next_within, closes_string}

-- what has begun and not ended; the innermost stands first in a list of them
pub data Opened : Type 0 where
  Array : Opened
  Object : Opened

-- the place of a value, or of a container, directly in these
abbrev pub place_in : List Opened → Place
place_in [] = Alone
place_in (Array ∷ _) = Item
place_in (Object ∷ _) = Value

-- what comes next
pub data Expected : Type 0 where
  AValue : Expected
  -- a value or the end of an array, and a key or the end of an object
  FirstItem : Expected
  FirstKey : Expected
  NextKey : Expected
  Colon : Expected
  -- a comma or the end of what is open, or of the text
  Next : Expected
  -- this letter of a word, and then these
  Letter : ℕ → List ℕ → Expected
  -- more of a number, or of a string that is a key or isn't; these bytes of it were read
  InNumber : NumberPhase → List ℕ → Expected
  InString : (is_key : Bool) → Within → List ℕ → Expected

-- what comes next, what is open, and the tokens that were read
pub record ReaderState : Type 0 where
  pub expected : Expected
  pub opened : List Opened
  pub tokens : List Placed

-- before the first byte: a value comes next, nothing is open, and no token was read
abbrev pub reader_start : ReaderState
reader_start = record { expected = AValue; opened = []; tokens = [] }

-- something else comes next
abbrev pub expects : ReaderState → Expected → ReaderState
expects state expected = record { expected = expected; opened = state.opened; tokens = state.tokens }

-- one token more, in its place
abbrev pub adds_token : ReaderState → Place → Token → Expected → ReaderState
adds_token state place token expected = record { expected = expected; opened = state.opened; tokens = state.tokens ++ (placed_at place token ∷ []) }

-- an array or object begins
abbrev pub opens_container : ReaderState → Opened → Token → Expected → ReaderState
opens_container state container token expected =
    record { expected = expected; opened = container ∷ state.opened; tokens = state.tokens ++ (placed_at (place_in state.opened) token ∷ []) }

-- an array or object ends, and these around it stay open
abbrev pub ends_container : ReaderState → List Opened → Token → ReaderState
ends_container state around token = record { expected = Next; opened = around; tokens = state.tokens ++ (placed_at (place_in around) token ∷ []) }

-- a word's first letter was read, and these are left
abbrev pub word : ReaderState → Token → List ℕ → Option ReaderState
word state token [] = None
word state token (letter ∷ letters) = Some (adds_token state (place_in state.opened) token (Letter letter letters))

-- the first byte of a value
abbrev pub begins : ReaderState → ℕ → Option ReaderState
begins state byte =
    if byte == 34 then Some (expects state (InString false Plain []))
    else if byte == 91 then Some (opens_container state Array token.BeginArray FirstItem)
    else if byte == 123 then Some (opens_container state Object token.BeginObject FirstKey)
    else if byte == 110 then word state token.Null (codes "ull")
    else if byte == 116 then word state (token.Truth true) (codes "rue")
    else if byte == 102 then word state (token.Truth false) (codes "alse")
    else option_map (λ phase. expects state (InNumber phase (byte ∷ []))) (first_phase byte)

-- a comma or a closing bracket or brace
abbrev pub comma_or_close : ReaderState → List Opened → ℕ → Option ReaderState
comma_or_close state [] byte = None
comma_or_close state (Array ∷ around) byte = if byte == 44 then Some (expects state AValue) else if byte == 93 then Some (ends_container state around token.EndArray) else None
comma_or_close state (Object ∷ around) byte = if byte == 44 then Some (expects state NextKey) else if byte == 125 then Some (ends_container state around token.EndObject) else None

-- one byte after a value
abbrev pub follows : ReaderState → ℕ → Option ReaderState
follows state byte = if is_space byte then Some (expects state Next) else comma_or_close state state.opened byte

-- the first byte of a key
abbrev pub begins_key : ReaderState → ℕ → Option ReaderState
begins_key state byte = if byte == 34 then Some (expects state (InString true Plain [])) else None

-- after a letter of a word
abbrev pub letters_left : List ℕ → Expected
letters_left [] = Next
letters_left (letter ∷ letters) = Letter letter letters

-- a number ends with the byte before
abbrev pub number_is_ended : ReaderState → List ℕ → ReaderState
number_is_ended state text = adds_token state (place_in state.opened) (token.Number text) Next

-- a string ends with its quote: after a key a colon comes next
abbrev pub string_ends : ReaderState → Bool → List ℕ → ReaderState
string_ends state true bytes = adds_token state Key (token.Text bytes) Colon
string_ends state false bytes = adds_token state (place_in state.opened) (token.Text bytes) Next

-- one byte; none where no text that denotes a value goes on with it
abbrev pub step_in : Expected → ReaderState → ℕ → Option ReaderState
step_in AValue state byte = if is_space byte then Some state else begins state byte
step_in FirstItem state byte = if is_space byte then Some state else if byte == 93 then follows state byte else begins state byte
step_in FirstKey state byte = if is_space byte then Some state else if byte == 125 then follows state byte else begins_key state byte
step_in NextKey state byte = if is_space byte then Some state else begins_key state byte
step_in Colon state byte = if is_space byte then Some state else if byte == 58 then Some (expects state AValue) else None
step_in Next state byte = follows state byte
step_in (Letter letter letters) state byte = if byte == letter then Some (expects state (letters_left letters)) else None
step_in (InNumber phase text) state byte =
    if is_number_byte byte then option_map (λ next. expects state (InNumber next (text ++ (byte ∷ [])))) (next_phase phase byte)
    else if number_may_end phase then follows (number_is_ended state text) byte else None
step_in (InString is_key within bytes) state byte =
    if closes_string within byte then Some (string_ends state is_key bytes)
    else option_map (λ next. expects state (InString is_key next (bytes ++ (byte ∷ [])))) (next_within within byte)

-- one more byte; none where no text that denotes a value goes on with it
abbrev pub reader_step : ReaderState → ℕ → Option ReaderState
reader_step state byte = step_in state.expected state byte

-- the bytes one after the other
abbrev pub after_bytes : ReaderState → List ℕ → Option ReaderState
after_bytes state [] = Some state
after_bytes state (byte ∷ bytes) = option_and_then (λ next. after_bytes next bytes) (reader_step state byte)

-- the tokens, where the text may end here
abbrev pub at_end_in : Expected → List Opened → List Placed → Option (List Placed)
at_end_in Next [] tokens = Some tokens
at_end_in (InNumber phase text) [] tokens = if number_may_end phase then Some (tokens ++ (placed_at Alone (token.Number text) ∷ [])) else None
at_end_in _ _ tokens = None

-- the tokens, where the text may end in this state
abbrev pub tokens_at_end : ReaderState → Option (List Placed)
tokens_at_end state = at_end_in state.expected state.opened state.tokens

-- the tokens of all bytes; none where they are no text that denotes a value
abbrev pub tokens_read : List ℕ → Option (List Placed)
tokens_read bytes = option_and_then tokens_at_end (after_bytes reader_start bytes)

-- how many bytes are taken before one is refused
abbrev pub taken_from : ReaderState → List ℕ → ℕ
taken_from state [] = zero
taken_from state (byte ∷ bytes) = option_map_or (λ next. suc (taken_from next bytes)) (reader_step state byte) zero

-- how many bytes of a text are taken before one is refused
abbrev pub bytes_taken : List ℕ → ℕ
bytes_taken bytes = taken_from reader_start bytes
