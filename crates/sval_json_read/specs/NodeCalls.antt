-- The calls of a node in three parts: what begins before its own calls, these, and what ends behind them.
use Rattle.std.specs.Prelude.{List, [], ◌∷◌, None}
use Rattle.sval_label.specs.Calls.{Call, Head}
use Rattle.sval_json_read.specs.Tokens.{Place, Token, Null, Truth, Number, Text, BeginArray, EndArray, BeginObject, EndObject}
use Rattle.sval_json_read.specs.Nodes as nodes
use Rattle.sval_json_read.specs.Calls.{place_begins, place_ends, number_calls, string_value_calls}

-- the begin of the part that a node stands in, where it is no end of an array or object
abbrev pub begins_before : nodes.Kept → Place → List Call
begins_before nodes.EndArray place = []
begins_before nodes.EndObject place = []
begins_before kept place = place_begins place

-- a token's own calls, wherever it stands
abbrev pub token_own_calls : Token → List Call
token_own_calls Null = Call.Null ∷ []
token_own_calls (Truth b) = Call.Truth b ∷ []
token_own_calls (Number text) = number_calls text
token_own_calls (Text bytes) = string_value_calls bytes
token_own_calls BeginArray = Call.Begin Head.Seq None ∷ []
token_own_calls EndArray = Call.End Head.Seq ∷ []
token_own_calls BeginObject = Call.Begin Head.Map None ∷ []
token_own_calls EndObject = Call.End Head.Map ∷ []

-- the end of the part that a node stands in, where it is no begin of an array or object
abbrev pub ends_behind : nodes.Kept → Place → List Call
ends_behind nodes.BeginArray place = []
ends_behind nodes.BeginObject place = []
ends_behind kept place = place_ends place
