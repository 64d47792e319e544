-- The tags that fields name: what each is, and where its text stands in the table.
use Rattle.std.specs.Prelude.{ℕ, ◌+◌, ◌-◌, ◌*◌, ◌%◌, List, [], Option, Some, None, codes, get_or, map, length}
use Rattle.std.specs.Borrow.{Bor}
use Rattle.sval_label.specs.Calls.{Tag}
use Rattle.sval_script.specs.declared.tag.TagField.{TagField}
use Rattle.sval_script.specs.declared.tag.TagField.TheVariants.{Absent, RustOptionSome, RustOptionNone, RustUnit, Number, ConstantSize, ValueIdent, ValueOffset, JsonValue, JsonText, JsonNumber}
use Rattle.sval_script.specs.declared.tag.TheConstants.{TAGS}

-- the tag's name; no tag is an empty text
abbrev pub tag_text : TagField → Tag
tag_text Absent = []
tag_text RustOptionSome = codes "RUST_OPTION_SOME"
tag_text RustOptionNone = codes "RUST_OPTION_NONE"
tag_text RustUnit = codes "RUST_UNIT"
tag_text Number = codes "NUMBER"
tag_text ConstantSize = codes "CONSTANT_SIZE"
tag_text ValueIdent = codes "VALUE_IDENT"
tag_text ValueOffset = codes "VALUE_OFFSET"
tag_text JsonValue = codes "JSON_VALUE"
tag_text JsonText = codes "JSON_TEXT"
tag_text JsonNumber = codes "JSON_NUMBER"

-- the tag, if there is one
abbrev pub tag_of : TagField → Option Tag
tag_of Absent = None
tag_of tag = Some (tag_text tag)

-- a table of tags and their texts, whose references are read
abbrev pub texts_and_tags : List (Bor (List ℕ) × TagField) → List (List ℕ × TagField)
texts_and_tags = map (λ row. (row.0.now, row.1))

-- the code's table, whose references are read
abbrev pub tag_table : List (List ℕ × TagField)
tag_table = map (λ row. (row.0.now, row.1)) TAGS

-- the place of a text, by its last byte but one and its length
abbrev pub tag_place : List ℕ → ℕ
tag_place text = (2 * get_or text (length text - 2) 0 + length text % 32) % 16

-- the text of the tag at a place
abbrev pub tag_text_at : ℕ → List ℕ
tag_text_at place = get_or (map (λ row. row.0) tag_table) place []
