-- What the next field of a line says, seen by whatever follows it.
use Rattle.std.specs.Prelude.{◌≡◌, ℕ, ⊤, List, [], ◌∷◌, ◌++◌, Option, Some, None, MatchOption, length, option_map}
use Rattle.std.specs.Borrow.{Bor}
use Rattle.std.specs.Str.{IsUtf8}
use Rattle.sval_label.specs.Calls.{Call, Name}
use Rattle.sval_script.specs.Lines as script
use Rattle.sval_script.specs.Lines.{LineForm, field_then, complete, call_of_fields}
use Rattle.sval_script.specs.Tags.{tag_of}
use Rattle.sval_script.specs.FieldValues.{Decodes, made_label, label_from, index_from, IsLabelText}
use Rattle.sval_script.specs.declared.field.LabelRead.{LabelRead}
use Rattle.sval_script.specs.declared.field.LabelField.{LabelField}
use Rattle.sval_script.specs.declared.fields.NameRead.{NameRead}
use Rattle.sval_script.specs.declared.fields.NameFields.{NameFields}
use Rattle.sval_script.specs.Fields.{LineLeft, line_ahead}
use Rattle.sval_script.specs.Words.{form_of_word}
use Rattle.sval_script.specs.declared.word.Word.{Word}

-- the line has this field before its others
abbrev pub with_field : List ℕ → LineLeft → LineLeft
with_field first = option_map (λ line. (first ∷ line.0, line.1))

-- no line feed ends the line, or no field is left of it
abbrev pub NoField : LineLeft → Type 0
NoField line = MatchOption line ⊤ (λ found. found.0 ≡ [])

-- the call that a line's fields spell, and what stands behind the line
abbrev pub call_before : LineForm → LineLeft → Option (Call × List ℕ)
call_before form None = None
call_before form (Some (fields, behind)) = option_map (λ call. (call, behind)) (form fields)

-- the call of the line that a script begins with, and what stands behind the line
abbrev pub first_call : List ℕ → Option (Call × List ℕ)
first_call bytes = call_before call_of_fields (line_ahead bytes)

-- what stands behind a line without fields
abbrev pub HasNoFieldsLeft : LineLeft → Option (Bor (List ℕ)) → Type 0
HasNoFieldsLeft line behind = (call : Call) → call_before (complete call) line ≡ option_map (λ rest. (call, rest.now)) behind

-- the next field says x, and this is left
abbrev pub NextIs : {A : Type 0} → (List ℕ → Option A) → LineLeft → LineLeft → A → Type 0
NextIs {A = A} read line rest x = (next : A → LineForm) → call_before (field_then read next) line ≡ call_before (next x) rest

-- there is no next field, or it says nothing
abbrev pub NoNext : {A : Type 0} → (List ℕ → Option A) → LineLeft → Type 0
NoNext {A = A} read line = (next : A → LineForm) → call_before (field_then read next) line ≡ None

-- what was read of the next field
abbrev pub ReadsNext : {A : Type 0} → (List ℕ → Option A) → LineLeft → LineLeft → Option A → Type 0
ReadsNext read line rest made = MatchOption made (NoNext read line) (λ x. NextIs read line rest x)

-- the same, where what was read is seen as what the field says
abbrev pub ReadsAs : {A B : Type 0} → (List ℕ → Option A) → (B → A) → LineLeft → LineLeft → Option B → Type 0
ReadsAs read seen line rest made = MatchOption made (NoNext read line) (λ x. NextIs read line rest (seen x))

-- what was read of the first field, a word
abbrev pub ReadsWord : LineLeft → LineLeft → Option Word → Type 0
ReadsWord line rest made =
    MatchOption made (call_before call_of_fields line ≡ None) (λ word. call_before call_of_fields line ≡ call_before (form_of_word word) rest)

-- the next field is `=` and digits, and the bytes that they spell were put behind those before them
pub record DecodesNext (line rest : LineLeft) (old new : List ℕ) : Type 0 where
  pub digits : List ℕ
  pub first : line ≡ with_field (61 ∷ digits) rest
  pub decodes : Decodes digits old new

-- nothing was read, and nothing was put behind the bytes
pub record LeavesNext (line rest : LineLeft) (old new : List ℕ) : Type 0 where
  pub unread : rest ≡ line
  pub unchanged : new ≡ old

-- what the next field says is made of bytes that were put behind those before them
pub record StoresNext {A : Type 0} (read : List ℕ → Option A) (make : List ℕ → A) (IsGood : List ℕ → Type 0) (line rest : LineLeft) (old new : List ℕ) (len : ℕ) : Type 0 where
  pub bytes : List ℕ
  pub spells : NextIs read line rest (make bytes)
  pub is_good : IsGood bytes
  pub stored : new ≡ old ++ bytes
  pub has_len : length bytes ≡ len

-- the next field is a text, which was put behind what stood before it
abbrev pub StoresNextText : LineLeft → LineLeft → List ℕ → List ℕ → ℕ → Type 0
StoresNextText line rest old new len = StoresNext script.text (λ text. text) IsUtf8 line rest old new len

-- the next field is bytes, which were put behind what stood before them
abbrev pub StoresNextBytes : LineLeft → LineLeft → List ℕ → List ℕ → ℕ → Type 0
StoresNextBytes line rest old new len = StoresNext script.bytes (λ bytes. bytes) (λ bytes. ⊤) line rest old new len

-- the next field is a label, whose text was put behind what stood before it
abbrev pub StoresNextLabel : LineLeft → LineLeft → List ℕ → List ℕ → LabelRead → Type 0
StoresNextLabel line rest old new label = StoresNext script.label (made_label label.tag) IsUtf8 line rest old new label.len

-- the same, or the next field is `-` and nothing was put there
abbrev pub StoresNextLabelField : LineLeft → LineLeft → List ℕ → List ℕ → LabelField → ℕ → Type 0
StoresNextLabelField line rest old new label len = StoresNext (script.or_dash script.label) (label_from label) (IsLabelText label) line rest old new len

-- the name of these fields, with this label's text and this index's number
abbrev pub name_from : NameFields → List ℕ → ℕ → Name
name_from parts text number = record { tag = tag_of parts.tag; label = label_from parts.label text; index = index_from parts.index number }

-- the next three fields are a name, whose label's text was put behind what stood before it
pub record ReadsName (line rest : LineLeft) (old new : List ℕ) (name : NameRead) : Type 0 where
  pub text : List ℕ
  pub spells : (next : Name → LineForm) → call_before (script.name next) line ≡ call_before (next (name_from name.parts text name.number)) rest
  pub is_text : IsLabelText name.parts.label text
  pub stored : new ≡ old ++ text
  pub has_len : length text ≡ name.len
