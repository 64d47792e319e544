-- What the tags and names of calls are seen as.
use Rattle.std.specs.Prelude.{ℕ, List, Option, option_map}
use Rattle.std.specs.Borrow.{Bor}
use Rattle.sval_label.specs.declared.index.Index as program_index
use Rattle.sval_label.specs.declared.label.Label as program_label
use Rattle.sval_label.specs.Calls.{Index}
use Rattle.sval_label.specs.SeenIndex.{seen_index}
use Rattle.sval_core.specs.Trees.{TextKind, Ordinary, Number, JsonValue, JsonText, JsonNumber}
use Rattle.sval_json.specs.declared.marks.TextKind as program_kind
use Rattle.sval_json.specs.declared.marks.TextKind.TheVariants as kind
use Rattle.sval_json.specs.Shape.{handle_of}

-- a kind of text
abbrev pub seen_kind : program_kind.TextKind → TextKind
seen_kind kind.Ordinary = Ordinary
seen_kind kind.Number = Number
seen_kind kind.JsonValue = JsonValue
seen_kind kind.JsonText = JsonText
seen_kind kind.JsonNumber = JsonNumber

-- the index that is given, if one is
abbrev pub seen_option_index : Option (Bor program_index.Index) → Option Index
seen_option_index index = option_map (λ index. seen_index index.now) index

-- what stands for a name of this label and this index in front of a value
abbrev pub seen_handle : Option (Bor program_label.Label) → Option (Bor program_index.Index) → Option (List ℕ)
seen_handle label index = handle_of (option_map (λ label. label.now) label) (seen_option_index index)
