-- The numbers of a name, as they stand in the store: its label's length and its index's number, if it has them.
use Rattle.std.specs.Prelude.{ℕ, ◌+◌, List, [], ◌∷◌, ◌++◌, take, get_or}
use Rattle.sval_label.specs.Calls.{Name}
use Rattle.sval_script.specs.NextFields.{name_from}
use Rattle.sval_script.specs.declared.field.LabelField.{LabelField}
use Rattle.sval_script.specs.declared.field.LabelField.TheVariants as label_field
use Rattle.sval_script.specs.declared.field.IndexField.{IndexField}
use Rattle.sval_script.specs.declared.field.IndexField.TheVariants as index_field
use Rattle.sval_script.specs.declared.fields.NameRead.{NameRead}
use Rattle.sval_script.specs.declared.fields.NameFields.{NameFields}

-- the length of a label's text, if there is a label
abbrev pub label_numbers : LabelField → ℕ → List ℕ
label_numbers label_field.Absent len = []
label_numbers (label_field.Present tag) len = len ∷ []

-- the number of an index, if there is one
abbrev pub index_numbers : IndexField → ℕ → List ℕ
index_numbers index_field.Absent n = []
index_numbers (index_field.Present sign tag) n = n ∷ []

-- the numbers of a name that was read
abbrev pub name_numbers : NameRead → List ℕ
name_numbers name = label_numbers name.parts.label name.len ++ index_numbers name.parts.index name.number

-- how many numbers a label has
abbrev pub label_count : LabelField → ℕ
label_count label_field.Absent = 0
label_count (label_field.Present tag) = 1

-- how many numbers an index has
abbrev pub index_count : IndexField → ℕ
index_count index_field.Absent = 0
index_count (index_field.Present sign tag) = 1

-- how many numbers a name has
abbrev pub name_count : NameFields → ℕ
name_count parts = label_count parts.label + index_count parts.index

-- how many bytes a label's text has, where the first of these numbers is its length
abbrev pub label_len : LabelField → List ℕ → ℕ
label_len label_field.Absent numbers = 0
label_len (label_field.Present tag) numbers = get_or numbers 0 0

-- the same of a name whose numbers stand at the front of these
abbrev pub next_label_len : NameFields → List ℕ → ℕ
next_label_len parts numbers = label_len parts.label (take (name_count parts) numbers)

-- the name with this label's text and these numbers
abbrev pub name_with : NameFields → List ℕ → List ℕ → Name
name_with parts text numbers = name_from parts text (get_or numbers (label_count parts.label) 0)
