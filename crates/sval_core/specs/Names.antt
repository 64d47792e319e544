-- The tags that values of the standard library give, and their names.
use Rattle.std.specs.Prelude.{ℕ, Bool, true, false, List, pos, codes, Option, Some, None}
use Rattle.std.specs.Str.{bytes_eq}
use Rattle.sval_label.specs.Calls.{Tag, Label, Index, Name}

-- the tag of an optional value that is there
abbrev pub option_some_tag : Tag
option_some_tag = codes "RUST_OPTION_SOME"

-- the tag of an optional value that isn't there
abbrev pub option_none_tag : Tag
option_none_tag = codes "RUST_OPTION_NONE"

-- the tag of the value of a type that has one value
abbrev pub unit_tag : Tag
unit_tag = codes "RUST_UNIT"

-- the tag of a text that is a number
abbrev pub number_tag : Tag
number_tag = codes "NUMBER"

-- the tag of what has a size that its type fixes
abbrev pub constant_size_tag : Tag
constant_size_tag = codes "CONSTANT_SIZE"

-- the tag of a label that stands in the program's text as a name
abbrev pub ident_tag : Tag
ident_tag = codes "VALUE_IDENT"

-- the tag of an index that is a place in an order
abbrev pub offset_tag : Tag
offset_tag = codes "VALUE_OFFSET"

-- the tag says that there is no value
abbrev pub says_none : Option Tag → Bool
says_none None = false
says_none (Some tag) = bytes_eq tag option_none_tag

-- the name that gives neither a tag nor a label nor an index
abbrev pub no_name : Name
no_name = record { tag = None; label = None; index = None }

-- a name that is a tag alone
abbrev pub tag_alone : Tag → Name
tag_alone tag = record { tag = Some tag; label = None; index = None }

-- an index that says nothing but its number
abbrev pub untagged_offset : ℕ → Index
untagged_offset n = record { number = pos n; tag = None }

-- the index of a part in its order
abbrev pub offset : ℕ → Index
offset n = record { number = pos n; tag = Some offset_tag }

-- the label of a part that is named in the program's text
abbrev pub ident : List ℕ → Label
ident text = record { text = text; tag = Some ident_tag; is_static = true }

-- the name of `Some`, which is the variant 1 of an option
abbrev pub some_name : Name
some_name = record { tag = Some option_some_tag; label = Some (ident (codes "Some")); index = Some (offset 1) }

-- the name of `None`, which is the variant 0 of an option
abbrev pub none_name : Name
none_name = record { tag = Some option_none_tag; label = Some (ident (codes "None")); index = Some (offset 0) }
