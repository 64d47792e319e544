-- What a name of the program is seen as.
use Rattle.std.specs.Prelude.{Option, option_map}
use Rattle.std.specs.Borrow.{Bor}
use Rattle.sval_label.specs.declared.tag.Tag as program_tag
use Rattle.sval_label.specs.declared.label.Label as program_label
use Rattle.sval_label.specs.declared.index.Index as program_index
use Rattle.sval_label.specs.declared.name.Name as program
use Rattle.sval_label.specs.Calls as calls
use Rattle.sval_label.specs.SeenTags.{seen_ref_tag}
use Rattle.sval_label.specs.SeenIndex.{seen_index}

-- the tag, where one is given
abbrev pub seen_option_tag : Option (Bor program_tag.Tag) → Option calls.Tag
seen_option_tag tag = option_map seen_ref_tag tag

-- a name by its three parts, each where it is given
abbrev pub name_of : Option (Bor program_tag.Tag) → Option (Bor program_label.Label) → Option (Bor program_index.Index) → calls.Name
name_of tag label index = record { tag = seen_option_tag tag; label = option_map (λ label. label.now) label; index = option_map (λ index. seen_index index.now) index }

-- its tag, its label and its index, each where it is given
abbrev pub seen_name : program.Name → calls.Name
seen_name name = name_of name.tag name.label name.index
