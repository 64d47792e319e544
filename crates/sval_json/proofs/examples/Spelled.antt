-- Lists of calls that spell a tree, with what is written of them.
use Rattle.std.specs.Prelude.{◌≡◌, ℕ, ℤ, true, false, List, [], ◌∷◌, ◌++◌, codes, map, Option, Some, None, Ok, Err}
use Rattle.sval_label.specs.Calls.{Call, Head, Slot, Name, Label, Index, Tag}
use Rattle.sval_core.specs.Trees.{Tree, Null, Truth, Text, Tagged, Enum, Container, none, part}
use Rattle.sval_core.specs.Spells.{Spells}
use Rattle.sval_json.specs.Json.{compact}
use Rattle.sval_json.specs.Number.{Refusal}
use Rattle.sval_json.specs.declared.style.Variants.{Variants}
use Rattle.sval_json.specs.Shape.{map_ok, json_in}
use Rattle.sval_json.specs.Steps.{written_in}

-- in this style the tree's JSON has this text, and the steps write it
pub record ExampleText (style : Variants) (calls : List Call) (tree : Tree) (text : List ℕ) : Type 0 where
  pub spells : Spells calls tree
  pub json : map_ok compact (json_in style tree) ≡ Ok text
  pub written : (written_in style calls).written ≡ text
  pub refusal : (written_in style calls).refusal ≡ None

-- in this style the tree has no JSON, and the steps refuse it so after these bytes
pub record ExampleRefusal (style : Variants) (calls : List Call) (tree : Tree) (why : Refusal) (bytes : List ℕ) : Type 0 where
  pub spells : Spells calls tree
  pub json : map_ok compact (json_in style tree) ≡ Err why
  pub written : (written_in style calls).written ≡ bytes
  pub refusal : (written_in style calls).refusal ≡ Some why

-- ---- names

-- a label that is not static
abbrev pub label : List ℕ → Option Tag → Label
label text tag = record { text = text; tag = tag; is_static = false }

-- an index with its tag
abbrev pub index : ℤ → Option Tag → Index
index number tag = record { number = number; tag = tag }

-- a name of these parts
abbrev pub name : Option Tag → Option Label → Option Index → Name
name tag label index = record { tag = tag; label = label; index = index }

-- a name of no parts
abbrev pub unnamed : Name
unnamed = name None None None

-- a label alone
abbrev pub named : List ℕ → Name
named text = name None (Some (label text None)) None

-- an index alone
abbrev pub numbered : ℤ → Name
numbered number = name None None (Some (index number None))

-- a tag alone
abbrev pub tagged_as : Tag → Name
tagged_as tag = name (Some tag) None None

-- a record's field
abbrev pub field : List ℕ → Slot
field text = Slot.Field None (label text None)

-- a record tuple's field, as derived values give it
abbrev pub field_place : List ℕ → ℤ → Slot
field_place text number = Slot.FieldPlace None (label text (Some (codes "VALUE_IDENT"))) (index number (Some (codes "VALUE_OFFSET")))

-- ---- calls around others

-- a text under a tag, in these pieces
abbrev pub tagged_calls : Tag → List (List ℕ) → List Call
tagged_calls tag pieces = Call.TaggedBegin (tagged_as tag) ∷ Call.TextBegin None ∷ map (Call.TextFragment true) pieces ++ Call.TextEnd ∷ Call.TaggedEnd (tagged_as tag) ∷ []

-- its tree
abbrev pub tagged_tree : Tag → List ℕ → Tree
tagged_tree tag text = Tagged (tagged_as tag) (Text text)

-- a map with this key, whose value is null
abbrev pub key_calls : List Call → List Call
key_calls inner = Call.Begin Head.Map None ∷ Call.PartBegin Slot.Key ∷ inner ++ Call.PartEnd Slot.Key ∷ Call.PartBegin Slot.Value ∷ Call.Null ∷ Call.PartEnd Slot.Value ∷ Call.End Head.Map ∷ []

-- its tree
abbrev pub key_tree : Tree → Tree
key_tree tree = Container Head.Map (part Slot.Key tree (part Slot.Value Null none))

-- truth in an enum, under this name
abbrev pub truth_in_enum_calls : Name → List Call
truth_in_enum_calls name = Call.EnumBegin (named (codes "E")) ∷ Call.TaggedBegin name ∷ Call.Truth true ∷ Call.TaggedEnd name ∷ Call.EnumEnd (named (codes "E")) ∷ []

-- its tree
abbrev pub truth_in_enum_tree : Name → Tree
truth_in_enum_tree name = Enum (named (codes "E")) (Tagged name (Truth true))
