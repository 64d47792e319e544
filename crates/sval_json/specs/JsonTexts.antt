-- Texts that are the JSON of a value.
use Rattle.std.specs.Prelude.{ℕ, true, List, [], ◌∷◌, ◌++◌, codes}
use Rattle.sval_label.specs.Calls.{Tag, Call}
use Rattle.sval_core.specs.Names.{tag_alone}
use Rattle.sval_core.specs.ValueCalls.{text_calls}
use Rattle.sval_core.specs.Trees.{Tree, Text, Tagged}
use Rattle.sval_json.specs.declared.json_str.JsonStr.{JsonStr}

-- its text
abbrev pub json_text : JsonStr → List ℕ
json_text json = json.json.now

-- the tag of a text that is the JSON of a value
abbrev pub json_value_tag : Tag
json_value_tag = codes "JSON_VALUE"

-- a text under the tag that says that it is the JSON of a value
abbrev pub json_calls : List ℕ → List Call
json_calls text = Call.TaggedBegin (tag_alone json_value_tag) ∷ (text_calls true text ++ Call.TaggedEnd (tag_alone json_value_tag) ∷ [])

-- what these calls spell
abbrev pub json_tree : List ℕ → Tree
json_tree text = Tagged (tag_alone json_value_tag) (Text text)
