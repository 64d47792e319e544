-- What is read of a line's fields, and what it leaves in the store of bytes.
use Rattle.std.specs.Prelude.{◌≡◌, ℕ, ℤ, pos, ⊤, false, List, [], ◌∷◌, ◌++◌, Option, Some, None, option_map, Ok, length}
use Rattle.std.specs.Borrow.{Bor}
use Rattle.std.specs.Int.{w64, cast_signed}
use Rattle.std.specs.Str.{IsUtf8}
use Rattle.hex.specs.Hex.{decode_of}
use Rattle.sval_label.specs.Calls.{Tag, Label, Index}
use Rattle.sval_script.specs.Lines as script
use Rattle.sval_script.specs.Tags.{tag_of}
use Rattle.sval_script.specs.declared.tag.TagField.{TagField}
use Rattle.sval_script.specs.declared.field.Sign.{Sign}
use Rattle.sval_script.specs.declared.field.Sign.TheVariants as sign
use Rattle.sval_script.specs.declared.field.LabelRead.{LabelRead}
use Rattle.sval_script.specs.declared.field.LabelField.{LabelField}
use Rattle.sval_script.specs.declared.field.LabelField.TheVariants as label_field
use Rattle.sval_script.specs.declared.field.IndexRead.{IndexRead}
use Rattle.sval_script.specs.declared.field.IndexField.{IndexField}
use Rattle.sval_script.specs.declared.field.IndexField.TheVariants as index_field

-- the parts of a field: one, or one and a tag
abbrev pub parts_of : List (List ℕ) → Option (List ℕ × Option Tag)
parts_of [] = None
parts_of (part ∷ []) = Some (part, None)
parts_of (part ∷ name ∷ []) = option_map (λ t. (part, Some t)) (script.tag_named name)
parts_of (part ∷ name ∷ other ∷ more) = None

-- what stands before the tag, and the tag, whose references are read
abbrev pub part_and_tag : Bor (List ℕ) × TagField → List ℕ × Option Tag
part_and_tag read = (read.0.now, tag_of read.1)

-- ---- indexes

-- the number that 64 bits keep
abbrev pub kept_number : Sign → ℕ → ℤ
kept_number sign.Natural n = pos n
kept_number sign.Signed n = cast_signed w64 n

-- the number of a sign and 64 bits
abbrev pub index_number : Sign × ℕ → ℤ
index_number read = kept_number read.0 read.1

-- the index with this number and tag
abbrev pub made_index : Sign → TagField → ℕ → Index
made_index sign tag n = record { number = kept_number sign n; tag = tag_of tag }

-- the index that was read
abbrev pub index_of : IndexRead → Index
index_of read = made_index read.sign read.tag read.number

-- the index with this number, if there is one
abbrev pub index_from : IndexField → ℕ → Option Index
index_from index_field.Absent n = None
index_from (index_field.Present sign tag) n = Some (made_index sign tag n)

-- the index that was read, if there is one
abbrev pub index_field_of : IndexField × ℕ → Option Index
index_field_of read = index_from read.0 read.1

-- ---- labels

-- the label with this tag and text, which is not static
abbrev pub made_label : TagField → List ℕ → Label
made_label tag text = record { text = text; tag = tag_of tag; is_static = false }

-- the label with this text, if there is one
abbrev pub label_from : LabelField → List ℕ → Option Label
label_from label_field.Absent text = None
label_from (label_field.Present tag) text = Some (made_label tag text)

-- the text of a label is UTF-8, and that of none is empty
abbrev pub IsLabelText : LabelField → List ℕ → Type 0
IsLabelText label_field.Absent text = text ≡ []
IsLabelText (label_field.Present tag) text = IsUtf8 text

-- ---- the store

-- the digits spell bytes, which were put behind those before them
pub record Decodes (digits old new : List ℕ) : Type 0 where
  pub bytes : List ℕ
  pub spells : decode_of digits ≡ Ok bytes
  pub stored : new ≡ old ++ bytes

-- what a field says is made of bytes that were put behind those before them
pub record Stores {A : Type 0} (said : Option A) (make : List ℕ → A) (IsGood : List ℕ → Type 0) (old new : List ℕ) (len : ℕ) : Type 0 where
  pub bytes : List ℕ
  pub spells : said ≡ Some (make bytes)
  pub is_good : IsGood bytes
  pub stored : new ≡ old ++ bytes
  pub has_len : length bytes ≡ len

-- the field spells a text, which was put behind what stood before it
abbrev pub StoresText : List ℕ → List ℕ → List ℕ → ℕ → Type 0
StoresText field old new len = Stores (script.text field) (λ text. text) IsUtf8 old new len

-- the field spells bytes, which were put behind what stood before them
abbrev pub StoresBytes : List ℕ → List ℕ → List ℕ → ℕ → Type 0
StoresBytes field old new len = Stores (script.bytes field) (λ bytes. bytes) (λ bytes. ⊤) old new len

-- the field spells a label, whose text was put behind what stood before it
abbrev pub StoresLabel : List ℕ → List ℕ → List ℕ → LabelRead → Type 0
StoresLabel field old new label = Stores (script.label field) (made_label label.tag) IsUtf8 old new label.len

-- the same, or the field is `-` and nothing was put there
abbrev pub StoresLabelField : List ℕ → List ℕ → List ℕ → LabelField → ℕ → Type 0
StoresLabelField field old new label len = Stores (script.or_dash script.label field) (label_from label) (IsLabelText label) old new len
