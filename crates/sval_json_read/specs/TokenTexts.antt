-- The JSON of tokens, one after another, without white space.
use Rattle.std.specs.Prelude.{ℕ, Bool, true, false, List, [], ◌∷◌, ◌++◌, codes}
use Rattle.sval_label.specs.Texts.{truth_text}
use Rattle.sval_json.specs.Escape.{escaped, in_quotes}
use Rattle.sval_json.specs.Json.{comma}
use Rattle.sval_json_read.specs.SeenValues.{text_in}
use Rattle.sval_json_read.specs.Tokens.{Place, Alone, Item, Key, Value, Token, Null, Truth, Number, Text, BeginArray, EndArray, BeginObject, EndObject, Placed}
use Rattle.sval_json_read.specs.Trees.{settled_number}

-- the token begins an array or object, so that the next one is the first in it
abbrev pub begins_container : Token → Bool
begins_container BeginArray = true
begins_container BeginObject = true
begins_container _ = false

-- the comma before an element or a name, unless it is the first one
abbrev pub comma_at : Bool → Place → List ℕ
comma_at is_first Item = comma is_first
comma_at is_first Key = comma is_first
comma_at is_first Alone = []
comma_at is_first Value = []

-- the comma before a token: an end has none
abbrev pub comma_before : Bool → Place → Token → List ℕ
comma_before is_first place EndArray = []
comma_before is_first place EndObject = []
comma_before is_first place _ = comma_at is_first place

-- the colon behind a name
abbrev pub colon_behind : Place → List ℕ
colon_behind Key = codes ":"
colon_behind _ = []

-- a token by itself: `-0` is written as `0`, and a string with the escapes that it needs alone
abbrev pub token_text : Place → Token → List ℕ
token_text place Null = codes "null"
token_text place (Truth b) = truth_text b
token_text place (Number text) = settled_number text
token_text place (Text raw) = in_quotes (escaped (text_in raw)) ++ colon_behind place
token_text place BeginArray = codes "["
token_text place EndArray = codes "]"
token_text place BeginObject = codes "{"
token_text place EndObject = codes "}"

-- a token in its place, behind its comma
abbrev pub placed_text : Bool → Placed → List ℕ
placed_text is_first placed = comma_before is_first placed.place placed.token ++ token_text placed.place placed.token

-- the tokens, one after another
abbrev pub tokens_text : Bool → List Placed → List ℕ
tokens_text is_first [] = []
tokens_text is_first (placed ∷ tokens) = placed_text is_first placed ++ tokens_text (begins_container placed.token) tokens
