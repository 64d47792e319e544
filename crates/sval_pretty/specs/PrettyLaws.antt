-- What holds of pretty text, law by law.
use Rattle.std.specs.Prelude.{◌≡◌, ℕ, List, IsUtf8}
use Rattle.sval_json.specs.Grammar.{JsonValue, Denotes}
use Rattle.sval_json.specs.Json.{Json, compact}
use Rattle.sval_pretty.specs.Layout.{pretty, unspaced}
use Rattle.sval_pretty.specs.PrettyJson.{pretty_json, HasLeaves}

-- the compact text of JSON is laid out as its pretty text
abbrev pub CompactIsLaidOut : Type 0
CompactIsLaidOut = (json : Json) → HasLeaves json → pretty (compact json) ≡ pretty_json 0 json

-- but for white space outside strings, the layout is the text
abbrev pub KeepsAllButSpace : Type 0
KeepsAllButSpace = (text : List ℕ) → unspaced (pretty text) ≡ unspaced text

-- but for white space outside strings, pretty JSON is compact JSON
abbrev pub PrettyIsCompact : Type 0
PrettyIsCompact = (json : Json) → HasLeaves json → unspaced (pretty_json 0 json) ≡ compact json

-- the layout of UTF-8 is UTF-8
abbrev pub StaysUtf8 : Type 0
StaysUtf8 = (text : List ℕ) → IsUtf8 text → IsUtf8 (pretty text)

-- the layout denotes what the text denotes
abbrev pub DenotesTheSame : Type 0
DenotesTheSame = (text : List ℕ) (value : JsonValue) → Denotes text value → Denotes (pretty text) value

-- pretty JSON denotes what compact JSON denotes
abbrev pub PrettyDenotesTheSame : Type 0
PrettyDenotesTheSame = (json : Json) (value : JsonValue) → HasLeaves json → Denotes (compact json) value → Denotes (pretty_json 0 json) value
