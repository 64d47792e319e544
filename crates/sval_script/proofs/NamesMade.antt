-- Names that were put into the store.
use Rattle.std.specs.Prelude.{◌≡◌, ℕ, ◌+◌, List, [], ◌∷◌, ◌++◌, Option, length, get_or, refl}
use Rattle.std.specs.Str.{IsUtf8}
use Rattle.std.proofs.Common.{◌∙◌, ap, sym, append_assoc}
use Rattle.std.proofs.lemmas.List.{length-append}
use Rattle.std.proofs.lemmas.Str.{IsUtf8-nil}
use Rattle.sval_label.specs.Calls.{Name, Index}
use Rattle.sval_script.specs.Tags.{tag_of}
use Rattle.sval_script.specs.declared.field.LabelField.{LabelField}
use Rattle.sval_script.specs.declared.field.LabelField.TheVariants as label_field
use Rattle.sval_script.specs.declared.field.IndexField.{IndexField}
use Rattle.sval_script.specs.declared.field.IndexField.TheVariants as index_field
use Rattle.sval_script.specs.declared.fields.NameRead.{NameRead}
use Rattle.sval_script.specs.FieldValues.{IsLabelText, label_from, index_from}
use Rattle.sval_script.specs.NextFields.{name_from}
use Rattle.sval_script.specs.LineCalls.{Stored, own_len, own_count, IsUtf8Line}
use Rattle.sval_script.specs.MadeLines.{Puts}
use Rattle.sval_script.specs.declared.line.Line.{Line}
use Rattle.sval_script.specs.NameNumbers.{label_numbers, index_numbers, name_numbers, label_count, index_count, name_count, label_len, name_with}

pub is_text : (label : LabelField) (text : List ℕ) → IsLabelText label text → IsUtf8 text
is_text label_field.Absent text t = rw t IsUtf8-nil
is_text (label_field.Present tag) text t = t

count : (label : LabelField) (index : IndexField) (len n : ℕ) → length (label_numbers label len ++ index_numbers index n) ≡ label_count label + index_count index
count label_field.Absent index_field.Absent len n = refl
count label_field.Absent (index_field.Present sign tag) len n = refl
count (label_field.Present t) index_field.Absent len n = refl
count (label_field.Present t) (index_field.Present sign tag) len n = refl

-- a name has as many numbers as were put there
pub has_count : (name : NameRead) → length (name_numbers name) ≡ name_count name.parts
has_count name = count name.parts.label name.parts.index name.len name.number

-- the first number is the label's length
pub has_len : (name : NameRead) (text more : List ℕ) → IsLabelText name.parts.label text → length text ≡ name.len → length text ≡ label_len name.parts.label (name_numbers name ++ more)
has_len name text more t e = by_label name.parts.label t
  where
    by_label : (label : LabelField) → IsLabelText label text → length text ≡ label_len label (label_numbers label name.len ++ index_numbers name.parts.index name.number ++ more)
    by_label label_field.Absent t = rw t refl
    by_label (label_field.Present tag) t = e

-- the number behind it is the index's
pub has_name : (name : NameRead) (text more : List ℕ) → name_with name.parts text (name_numbers name ++ more) ≡ name_from name.parts text name.number
has_name name text more = ap (λ (i : Option Index). let n : Name = record { tag = tag_of name.parts.tag; label = label_from name.parts.label text; index = i } in n) (by_both name.parts.label name.parts.index)
  where
    by_both : (label : LabelField) (index : IndexField) → index_from index (get_or (label_numbers label name.len ++ index_numbers index name.number ++ more) (label_count label) 0) ≡ index_from index name.number
    by_both label index_field.Absent = refl
    by_both label_field.Absent (index_field.Present sign tag) = refl
    by_both (label_field.Present t) (index_field.Present sign tag) = refl

-- the number behind those of a name
pub behind_name : (name : NameRead) (n : ℕ) → get_or (name_numbers name ++ (n ∷ [])) (name_count name.parts) 0 ≡ n
behind_name name n = by_both name.parts.label name.parts.index
  where
    by_both : (label : LabelField) (index : IndexField) → get_or (label_numbers label name.len ++ index_numbers index name.number ++ (n ∷ [])) (label_count label + index_count index) 0 ≡ n
    by_both label_field.Absent index_field.Absent = refl
    by_both label_field.Absent (index_field.Present sign tag) = refl
    by_both (label_field.Present t) index_field.Absent = refl
    by_both (label_field.Present t) (index_field.Present sign tag) = refl

-- a line with a name, whose numbers are the name's and these
pub name_put : (name : NameRead) (text more : List ℕ) (old new : Stored) (line : Line) → IsLabelText name.parts.label text → length text ≡ name.len → new.bytes ≡ old.bytes ++ text → new.numbers ≡ old.numbers ++ name_numbers name ++ more
    → ((numbers : List ℕ) → own_len line numbers ≡ label_len name.parts.label numbers) → own_count line ≡ name_count name.parts + length more → (IsUtf8 text → IsUtf8Line line text)
    → Puts text (name_numbers name ++ more) old new line
name_put name text more old new line t len bytes numbers own_len_is own_count_is has_text = record {
  has_text = has_text (is_text name.parts.label text t);
  bytes_stored = bytes;
  numbers_stored = numbers ∙ append_assoc old.numbers (name_numbers name) more;
  has_len = has_len name text more t len ∙ sym (own_len_is (name_numbers name ++ more));
  has_count = length-append (name_numbers name) more ∙ ap (λ n. n + length more) (has_count name) ∙ sym own_count_is;
}
