-- What a token of a document is to what reads it.
use Rattle.std.specs.Prelude.{◌≡◌, ℕ, ℤ, true, false, List, Option, Some, None}
use Rattle.sval_json.specs.Digits.{is_json_number}
use Rattle.sval_json_read.specs.Trees.{fits_i64, whole_value}
use Rattle.sval_json_read.specs.Tokens as token
use Rattle.sval_json_read.specs.Tokens.{Token}
use Rattle.sval_json_read.specs.SeenValues.{text_in}
use Rattle.sval_json_read.specs.declared.json_tokens.JsonMark.{JsonMark}
use Rattle.sval_json_read.specs.declared.json_tokens.JsonMark.TheVariants as mark

-- the text has no fraction and no exponent and is in the range of `i64`, and this is its number
pub record IsWholeOf (text : List ℕ) (number : ℤ) : Type 0 where
  pub fits : fits_i64 text ≡ true
  pub is : number ≡ whole_value text

-- the same, or there is no such number
abbrev pub IsI64In : List ℕ → Option ℤ → Type 0
IsI64In text (Some number) = IsWholeOf text number
IsI64In text None = fits_i64 text ≡ false

-- a token of such a number
pub record IsIntToken (found : Token) (number : ℤ) : Type 0 where
  pub text : List ℕ
  pub is : found ≡ token.Number text
  pub whole : IsWholeOf text number

-- a token of another number, with this text
pub record IsNumberToken (found : Token) (text : List ℕ) : Type 0 where
  pub is : found ≡ token.Number text
  pub proper : is_json_number text ≡ true
  pub other : fits_i64 text ≡ false

-- a token of a string, with this text
pub record IsTextToken (found : Token) (text : List ℕ) : Type 0 where
  pub raw : List ℕ
  pub is : found ≡ token.Text raw
  pub same : text ≡ text_in raw

-- what a token is
abbrev pub IsMarkOf : Token → JsonMark → Type 0
IsMarkOf found mark.Null = found ≡ token.Null
IsMarkOf found (mark.Bool b) = found ≡ token.Truth b
IsMarkOf found (mark.Int number) = IsIntToken found number
IsMarkOf found (mark.Number text) = IsNumberToken found text.now
IsMarkOf found (mark.Text text) = IsTextToken found text
IsMarkOf found mark.BeginArray = found ≡ token.BeginArray
IsMarkOf found mark.EndArray = found ≡ token.EndArray
IsMarkOf found mark.BeginObject = found ≡ token.BeginObject
IsMarkOf found mark.EndObject = found ≡ token.EndObject
