-- The value that tokens are of, read from the last token to the first.
use Rattle.std.specs.Prelude.{ℕ, List, [], ◌∷◌, map}
use Rattle.std.specs.List.{concat}
use Rattle.sval_json.specs.Grammar as json
use Rattle.sval_json.specs.Grammar.{JsonValue, Values, no_values, a_value, Members, no_members, a_member}
use Rattle.sval_json_read.specs.Tokens.{Place, Alone, Item, Key, Value, Token, Null, Truth, Number, Text, BeginArray, EndArray, BeginObject, EndObject, Placed}
use Rattle.sval_json_read.specs.Calls.{piece_bytes, pieces}

-- the text of a string, of which these bytes stand between the quotes
abbrev pub text_in : List ℕ → List ℕ
text_in raw = concat (map piece_bytes (pieces raw))

-- what stands behind a place in the array or object around it: the items, or the pairs
pub record Level : Type 0 where
  pub values : Values
  pub members : Members

-- nothing stands there
abbrev pub empty_level : Level
empty_level = record { values = no_values; members = no_members }

-- the innermost level
abbrev pub innermost_level : List Level → Level
innermost_level [] = empty_level
innermost_level (level ∷ around) = level

-- the levels around the innermost
abbrev pub under : List Level → List Level
under [] = []
under (level ∷ around) = around

-- a value before what stands in the innermost level
abbrev pub puts : JsonValue → List Level → List Level
puts value levels = record { values = a_value value (innermost_level levels).values; members = (innermost_level levels).members } ∷ under levels

-- a key before its value makes a pair
abbrev pub pairs_up : List ℕ → Values → Members → Level
pairs_up text no_values members = record { values = no_values; members = members }
pairs_up text (a_value value values) members = record { values = values; members = a_member text value members }

-- a key before its value in the innermost level
abbrev pub names : List ℕ → List Level → List Level
names text levels = pairs_up text (innermost_level levels).values (innermost_level levels).members ∷ under levels

-- a string in this place: a key, or a value
abbrev pub puts_text : Place → List ℕ → List Level → List Level
puts_text Key text levels = names text levels
puts_text Alone text levels = puts (json.Text text) levels
puts_text Item text levels = puts (json.Text text) levels
puts_text Value text levels = puts (json.Text text) levels

-- a token before these levels
abbrev pub puts_token : Place → Token → List Level → List Level
puts_token place Null levels = puts json.Null levels
puts_token place (Truth b) levels = puts (json.Truth b) levels
puts_token place (Number text) levels = puts (json.Number text) levels
puts_token place (Text raw) levels = puts_text place (text_in raw) levels
puts_token place EndArray levels = empty_level ∷ levels
puts_token place BeginArray levels = puts (json.Array (innermost_level levels).values) (under levels)
puts_token place EndObject levels = empty_level ∷ levels
puts_token place BeginObject levels = puts (json.Object (innermost_level levels).members) (under levels)

-- what stands in the levels that the tokens leave
abbrev pub levels_of : List Placed → List Level
levels_of [] = []
levels_of (placed ∷ tokens) = puts_token placed.place placed.token (levels_of tokens)

-- the first of some values
abbrev pub first_value : Values → JsonValue
first_value no_values = json.Null
first_value (a_value value _) = value

-- the values that tokens are of, as the items of an array
abbrev pub values_in : List Placed → Values
values_in tokens = (innermost_level (levels_of tokens)).values

-- the pairs that tokens are of, as those of an object
abbrev pub members_in : List Placed → Members
members_in tokens = (innermost_level (levels_of tokens)).members

-- the value that tokens are of
abbrev pub value_in : List Placed → JsonValue
value_in tokens = first_value (values_in tokens)
