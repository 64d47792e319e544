-- What a token of a document is to what walks over it.
use Rattle.std.specs.Prelude.{◌≡◌, ℕ, List, [], ◌∷◌, Option, Some, None}
use Rattle.sval_json_read.specs.Tokens.{Place, Key, Token, Text, BeginArray, EndArray, BeginObject, EndObject, Placed}
use Rattle.sval_json_read.specs.SeenValues.{text_in}
use Rattle.sval_json_read.specs.declared.json_tokens.TokenKind as made
use Rattle.sval_json_read.specs.declared.json_tokens.TokenKind.TheVariants as kind

-- the text of a string in this place, where it is the name of a member
abbrev pub name_in_place : Place → List ℕ → Option (List ℕ)
name_in_place Key raw = Some (text_in raw)
name_in_place place raw = None

-- the same of a token
abbrev pub name_in_token : Place → Token → Option (List ℕ)
name_in_token place (Text raw) = name_in_place place raw
name_in_token place token = None

-- the name of a member that the token is
abbrev pub member_name_in : Placed → Option (List ℕ)
member_name_in placed = name_in_token placed.place placed.token

-- whether it begins or ends an array or object
abbrev pub kind_of_token : Token → made.TokenKind
kind_of_token BeginArray = kind.Begin
kind_of_token BeginObject = kind.Begin
kind_of_token EndArray = kind.End
kind_of_token EndObject = kind.End
kind_of_token token = kind.Single

-- the first token, where there is one, and those that are left
abbrev pub TakesFirstToken : Option Placed → (old new : List Placed) → Type 0
TakesFirstToken None old new = (old ≡ []) × (new ≡ [])
TakesFirstToken (Some placed) old new = old ≡ placed ∷ new
