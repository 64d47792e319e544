-- What a field says, seen by whatever follows it.
use Rattle.std.specs.Prelude.{◌≡◌, ℕ, List, [], ◌∷◌, ◌++◌, Option, Some, None, IfSome, Ok, Err, option_map, refl}
use Rattle.std.specs.Option.{ok_or}
use Rattle.std.specs.Borrow.{Bor}
use Rattle.std.proofs.Common.{◌∙◌, sym, ap, subst}
use Rattle.std.proofs.lemmas.List.{append-nil}
use Rattle.sval_label.specs.Calls.{Call, Name, Label, Index, Tag}
use Rattle.sval_script.specs.Lines as script
use Rattle.sval_script.specs.Lines.{LineForm, forms, find_form, call_of_fields}
use Rattle.sval_script.specs.Fields.{LineLeft, line_ahead}
use Rattle.sval_script.specs.NextFields.{with_field, NoField, call_before, first_call, HasNoFieldsLeft, NextIs, NoNext, ReadsNext, ReadsAs, ReadsWord}
use Rattle.sval_script.specs.NextFields.{StoresNextLabelField}
use Rattle.sval_script.specs.Tags.{tag_of}
use Rattle.sval_script.specs.FieldValues.{index_field_of}
use Rattle.sval_script.specs.declared.tag.TagField.TheVariants as tag_field
use Rattle.sval_script.specs.declared.field.LabelField.TheVariants as label_field
use Rattle.sval_script.specs.declared.field.IndexField.TheVariants as index_field
use Rattle.sval_script.specs.Words.{form_of_word}
use Rattle.sval_script.specs.LineCalls.{Stored, call_with}
use Rattle.sval_script.specs.MadeLines.{MakesLine, IsMade}
use Rattle.sval_script.specs.declared.field.LineError.{LineError}
use Rattle.sval_script.specs.declared.word.Word.{Word}
use Rattle.sval_script.specs.declared.line.Line.{Line}

pub none_read : {A : Type 0} (read : List ℕ → Option A) (line : LineLeft) → NoField line → NoNext read line
none_read read None none = λ next. refl
none_read read (Some found) none = λ next. rw none refl

pub no_word_read : (line : LineLeft) → NoField line → call_before call_of_fields line ≡ None
no_word_read None none = refl
no_word_read (Some found) none = rw none refl

pub field_is : {A : Type 0} (read : List ℕ → Option A) (first : List ℕ) (line rest : LineLeft) (x : A) → line ≡ with_field first rest → read first ≡ Some x → NextIs read line rest x
field_is read first line None x is said = λ next. rw is refl
field_is read first line (Some left) x is said = λ next. rw (is, said) refl

pub field_is_none : {A : Type 0} (read : List ℕ → Option A) (first : List ℕ) (line rest : LineLeft) → line ≡ with_field first rest → read first ≡ None → NoNext read line
field_is_none read first line None is said = λ next. rw is refl
field_is_none read first line (Some left) is said = λ next. rw (is, said) refl

pub field_read : {A : Type 0} (read : List ℕ → Option A) (first : List ℕ) (line rest : LineLeft) (made : Option A) → line ≡ with_field first rest → made ≡ read first
    → ReadsNext read line rest made
field_read read first line rest None is said = field_is_none read first line rest is (sym said)
field_read read first line rest (Some x) is said = field_is read first line rest x is (sym said)

pub read_as : {A B : Type 0} (read : List ℕ → Option A) (seen : B → A) (first : List ℕ) (line rest : LineLeft) (made : Option B) → line ≡ with_field first rest → option_map seen made ≡ read first
    → ReadsAs read seen line rest made
read_as read seen first line rest None is said = field_is_none read first line rest is (sym said)
read_as read seen first line rest (Some x) is said = field_is read first line rest (seen x) is (sym said)

-- the next field is `-`, and says that there is no size, no tag, no index or no label
pub dash_size_read : (line rest : LineLeft) → line ≡ with_field (45 ∷ []) rest → ReadsNext script.size line rest (Some None)
dash_size_read line rest is = field_is script.size (45 ∷ []) line rest None is refl

pub dash_tag_read : (line rest : LineLeft) → line ≡ with_field (45 ∷ []) rest → ReadsAs (script.or_dash script.tag_named) tag_of line rest (Some tag_field.Absent)
dash_tag_read line rest is = field_is (script.or_dash script.tag_named) (45 ∷ []) line rest None is refl

pub dash_index_read : (line rest : LineLeft) → line ≡ with_field (45 ∷ []) rest → ReadsAs (script.or_dash script.index) index_field_of line rest (Some (index_field.Absent, 0))
dash_index_read line rest is = field_is (script.or_dash script.index) (45 ∷ []) line rest None is refl

pub dash_label_stored : (line rest : LineLeft) (old : List ℕ) → line ≡ with_field (45 ∷ []) rest → StoresNextLabelField line rest old old label_field.Absent 0
dash_label_stored line rest old is = record {
  bytes = [];
  spells = field_is (script.or_dash script.label) (45 ∷ []) line rest None is refl;
  is_good = refl;
  stored = sym (append-nil old);
  has_len = refl;
}

pub word_read : (first : List ℕ) (line rest : LineLeft) (made : Option Word) → line ≡ with_field first rest → option_map form_of_word made ≡ find_form first forms
    → ReadsWord line rest made
word_read first line None None is said = rw is refl
word_read first line (Some left) None is said = rw (is, ← said) refl
word_read first line None (Some word) is said = rw is refl
word_read first line (Some left) (Some word) is said = rw (is, ← said) refl

-- where nothing was read, whatever follows, no call is spelled
pub not_read : {A B : Type 0} (read : List ℕ → Option A) (seen : B → A) (line rest : LineLeft) (made : Option B) (why error : LineError) → ReadsAs read seen line rest made → Err error ≡ ok_or made why → NoNext read line
not_read read seen line rest None why error reads is = reads
not_read read seen line rest (Some x) why error reads is = cc is

-- where something was read, it is what the next field says
pub is_read : {A B : Type 0} (read : List ℕ → Option A) (seen : B → A) (line rest : LineLeft) {x : B} (made : Option B) (why : LineError) → ReadsAs read seen line rest made → Ok x ≡ ok_or made why
    → NextIs read line rest (seen x)
is_read read seen line rest None why reads is = cc is
is_read read seen line rest {x = x} (Some other) why reads is =
    let same : other ≡ x = cc is in
    subst (λ y. NextIs read line rest (seen y)) same reads

-- what holds of whatever was read holds of this
pub holds_read : {B : Type 0} (P : B → Type 0) {x : B} (made : Option B) (why : LineError) → IfSome made P → Ok x ≡ ok_or made why → P x
holds_read P None why holds is = cc is
holds_read P {x = x} (Some other) why holds is =
    let same : other ≡ x = cc is in
    subst P same holds

pub is_made : (script : List ℕ) {old new : Stored} {made : Line} (word : Word) (line rest : LineLeft) (read : Option Word) (end : Option (Bor (List ℕ))) (why : LineError) (left : Bor (List ℕ))
    → ReadsWord (line_ahead script) line read → Ok word ≡ ok_or read why → MakesLine (form_of_word word) line rest old new made → HasNoFieldsLeft rest end → Ok left ≡ ok_or end why
    → IsMade (first_call script) left.now old new made
is_made script word line rest None end why left reads is m ends found = cc is
is_made script word line rest (Some other) None why left reads is m ends found = cc found
is_made script {made = made} word line rest (Some other) (Some behind) why left reads is m ends found =
    let same : other ≡ word = cc is in
    let here : behind ≡ left = cc found in
    record {
      bytes = m.bytes;
      numbers = m.numbers;
      spells = reads ∙ ap (λ w. call_before (form_of_word w) line) same ∙ m.spells ∙ ends (call_with m.bytes m.numbers made) ∙ ap (λ (r : Bor (List ℕ)). let pair : Option (Call × List ℕ) = Some (call_with m.bytes m.numbers made, r.now) in pair) here;
      puts = m.puts;
    }

pub is_not_made : (script : List ℕ) {old new : Stored} {made : Line} (word : Word) (line rest : LineLeft) (read : Option Word) (end : Option (Bor (List ℕ))) (why error : LineError)
    → ReadsWord (line_ahead script) line read → Ok word ≡ ok_or read why → MakesLine (form_of_word word) line rest old new made → HasNoFieldsLeft rest end → Err error ≡ ok_or end why
    → first_call script ≡ None
is_not_made script word line rest None end why error reads is m ends found = cc is
is_not_made script word line rest (Some other) (Some behind) why error reads is m ends found = cc found
is_not_made script {made = made} word line rest (Some other) None why error reads is m ends found =
    let same : other ≡ word = cc is in
    reads ∙ ap (λ w. call_before (form_of_word w) line) same ∙ m.spells ∙ ends (call_with m.bytes m.numbers made)

-- ---- names

module _ (line at_label : LineLeft) (t : Option Tag) (tagged : NextIs (script.or_dash script.tag_named) line at_label t) (next : Name → LineForm) where
  pub no_label : NoNext (script.or_dash script.label) at_label → call_before (script.name next) line ≡ None
  no_label none = tagged (λ t. script.field_then (script.or_dash script.label) (λ l. script.field_then (script.or_dash script.index) (λ i. next (record { tag = t; label = l; index = i })))) ∙ none _

  pub no_index : (at_index : LineLeft) (l : Option Label) → NextIs (script.or_dash script.label) at_label at_index l → NoNext (script.or_dash script.index) at_index → call_before (script.name next) line ≡ None
  no_index at_index l labelled none =
      tagged (λ t. script.field_then (script.or_dash script.label) (λ l. script.field_then (script.or_dash script.index) (λ i. next (record { tag = t; label = l; index = i }))))
      ∙ labelled (λ l. script.field_then (script.or_dash script.index) (λ i. next (record { tag = t; label = l; index = i }))) ∙ none _

  pub name_says : (at_index rest : LineLeft) (l : Option Label) (i : Option Index) → NextIs (script.or_dash script.label) at_label at_index l → NextIs (script.or_dash script.index) at_index rest i
      → call_before (script.name next) line ≡ call_before (next (record { tag = t; label = l; index = i })) rest
  name_says at_index rest l i labelled indexed =
      tagged (λ t. script.field_then (script.or_dash script.label) (λ l. script.field_then (script.or_dash script.index) (λ i. next (record { tag = t; label = l; index = i }))))
      ∙ labelled (λ l. script.field_then (script.or_dash script.index) (λ i. next (record { tag = t; label = l; index = i })))
      ∙ indexed (λ i. next (record { tag = t; label = l; index = i }))
