-- The canonical script of tokens, one after another.
use Rattle.std.specs.Prelude.{ℕ, if◌then◌else◌, List, [], ◌++◌, codes, decimal, length, flat_map}
use Rattle.std.specs.Fmt.{signed_decimal}
use Rattle.hex.specs.Hex.{encode_lower}
use Rattle.sval_label.specs.Texts.{truth_text}
use Rattle.sval_json_read.specs.SeenValues.{text_in}
use Rattle.sval_json_read.specs.Tokens.{Place, Alone, Item, Key, Value, Token, Null, Truth, Number, Text, BeginArray, EndArray, BeginObject, EndObject, Placed}
use Rattle.sval_json_read.specs.Trees.{fits_i64, whole_value}

-- the line before a value in this place
abbrev pub line_before : Place → List ℕ
line_before Alone = []
line_before Item = codes "seq_value_begin\n"
line_before Key = codes "map_key_begin\n"
line_before Value = codes "map_value_begin\n"

-- the line behind a value in this place
abbrev pub line_behind : Place → List ℕ
line_behind Alone = []
line_behind Item = codes "seq_value_end\n"
line_behind Key = codes "map_key_end\n"
line_behind Value = codes "map_value_end\n"

-- the lines of a text in one fragment
abbrev pub text_lines : List ℕ → List ℕ
text_lines text = codes "text_begin " ++ (decimal (length text) ++ (codes "\ntext_fragment =" ++ (encode_lower text ++ codes "\ntext_end\n")))

-- the line of a whole number
abbrev pub whole_line : List ℕ → List ℕ
whole_line text = codes "i64 " ++ (signed_decimal (whole_value text) ++ codes "\n")

-- the lines of a number's text under the tag `NUMBER`
abbrev pub number_text_lines : List ℕ → List ℕ
number_text_lines text = codes "tagged_begin NUMBER - -\n" ++ (text_lines text ++ codes "tagged_end NUMBER - -\n")

-- the lines of a number: an `i64` where it has no fraction and no exponent and fits
abbrev pub number_lines : List ℕ → List ℕ
number_lines text = if fits_i64 text then whole_line text else number_text_lines text

-- the lines of a token in this place
abbrev pub token_lines : Place → Token → List ℕ
token_lines place Null = line_before place ++ (codes "null\n" ++ line_behind place)
token_lines place (Truth b) = line_before place ++ ((codes "bool " ++ (truth_text b ++ codes "\n")) ++ line_behind place)
token_lines place (Number text) = line_before place ++ (number_lines text ++ line_behind place)
token_lines place (Text raw) = line_before place ++ (text_lines (text_in raw) ++ line_behind place)
token_lines place BeginArray = line_before place ++ codes "seq_begin -\n"
token_lines place EndArray = codes "seq_end\n" ++ line_behind place
token_lines place BeginObject = line_before place ++ codes "map_begin -\n"
token_lines place EndObject = codes "map_end\n" ++ line_behind place

-- the same of a token with its place
abbrev pub placed_lines : Placed → List ℕ
placed_lines placed = token_lines placed.place placed.token

-- the lines of the tokens, one token after the other
abbrev pub tokens_script : List Placed → List ℕ
tokens_script tokens = flat_map placed_lines tokens
