-- The table of tags has the tags of the definition, and its places find each of them.
use Rattle.std.specs.Prelude.{◌≡◌, ℕ, ◌<◌, Bool, true, false, ◌&&◌, List, [], ◌∷◌, length, get_or, map, Some, None, bytes_eq, refl}
use Rattle.std.specs.List.{list_any, list_all}
use Rattle.std.specs.Borrow.{Bor}
use Rattle.std.proofs.Common.{arith, sym, ◌∙◌}
use Rattle.std.proofs.lemmas.Bool.{and_parts}
use Rattle.std.proofs.lemmas.List.{get_or-map}
use Rattle.std.proofs.lemmas.Slice.Eq.{bytes_eq-Decides}
use Rattle.sval_script.proofs.Cut.{is_not}
use Rattle.sval_label.specs.Tags.{tag_names, is_tag_name}
use Rattle.sval_script.specs.Lines as line
use Rattle.sval_script.specs.declared.tag.TagField.{TagField}
use Rattle.sval_script.specs.declared.tag.TagField.TheVariants.{Absent}
use Rattle.sval_script.specs.Tags.{tag_of, tag_text, tag_table, texts_and_tags, tag_place, tag_text_at}
use Rattle.sval_script.proofs.Tables.{same_at, row_at, absent}

-- each row's text is a tag's name, and the row's tag has it
names_of_texts : map (λ row. line.tag_named row.0) tag_table ≡ map (λ row. Some (tag_text row.1)) tag_table
names_of_texts = refl

tags_of_names : map (λ row. tag_of row.1) tag_table ≡ map (λ row. Some (tag_text row.1)) tag_table
tags_of_names = refl

texts_at_places : map (λ text. tag_text_at (tag_place text)) tag_names ≡ tag_names
texts_at_places = refl

none : List ℕ × TagField
none = ([], Absent)

pub named_at : (rows : List (Bor (List ℕ) × TagField)) (k : ℕ) (row : Bor (List ℕ) × TagField) → texts_and_tags rows ≡ tag_table → k < 16
    → line.tag_named (get_or rows k row).0.now ≡ Some (tag_text (get_or rows k row).1)
named_at rows k row e h =
    let (text, tag) = row_at rows tag_table k row none e h in
    rw (text, tag) (same_at (λ (r : List ℕ × TagField). line.tag_named r.0) (λ (r : List ℕ × TagField). Some (tag_text r.1)) tag_table k none names_of_texts h)

pub tag_at : (rows : List (Bor (List ℕ) × TagField)) (k : ℕ) (row : Bor (List ℕ) × TagField) → texts_and_tags rows ≡ tag_table → k < 16
    → tag_of (get_or rows k row).1 ≡ Some (tag_text (get_or rows k row).1)
tag_at rows k row e h =
    let (text, tag) = row_at rows tag_table k row none e h in
    rw tag (same_at (λ (r : List ℕ × TagField). tag_of r.1) (λ (r : List ℕ × TagField). Some (tag_text r.1)) tag_table k none tags_of_names h)

pub text_at : (rows : List (Bor (List ℕ) × TagField)) (k : ℕ) (row : Bor (List ℕ) × TagField) → texts_and_tags rows ≡ tag_table → k < 16
    → (get_or rows k row).0.now ≡ tag_text_at k
text_at rows k row e h =
    let (text, tag) = row_at rows tag_table k row none e h in
    text ∙ sym (get_or-map (λ (r : List ℕ × TagField). r.0) tag_table k none [] h)

pub no_tag : (field text : List ℕ) → text ≡ tag_text_at (tag_place field) → bytes_eq text field ≡ false → line.tag_named field ≡ None
no_tag field text is other =
    let none : is_tag_name field ≡ false = absent (λ t. tag_text_at (tag_place t)) tag_names field texts_at_places (rw is at other) in
    rw none refl

and_false : (b : Bool) → (b && false) ≡ false
and_false true = refl
and_false false = refl

-- no tag has so few bytes
pub short : (field : List ℕ) → length field < 2 → line.tag_named field ≡ None
short [] h = refl
short (byte ∷ []) h = rw one refl
  where
    one : is_tag_name (byte ∷ []) ≡ false
    one = simp and_false
short (byte ∷ next ∷ field) h = absurd (omega arith)

-- ---- no tag has `:`

clean : list_all (λ name. list_all (is_not 58) name) tag_names ≡ true
clean = refl

in_clean : (field : List ℕ) (names : List (List ℕ)) → list_all (λ name. list_all (is_not 58) name) names ≡ true → list_any (bytes_eq field) names ≡ true → list_all (is_not 58) field ≡ true
in_clean field [] h any = cc any
in_clean field (name ∷ names) h any = by_test (bytes_eq field name) refl (in_clean field names (and_parts _ _ h).1)
  where
    by_test : (b : Bool) → bytes_eq field name ≡ b → (list_any (bytes_eq field) names ≡ true → list_all (is_not 58) field ≡ true) → list_all (is_not 58) field ≡ true
    by_test true is later = rw ((bytes_eq-Decides field name).0 is) (and_parts _ _ h).0
    by_test false is later = later (rw is at any)

pub tag-clean : (field : List ℕ) → is_tag_name field ≡ true → list_all (is_not 58) field ≡ true
tag-clean field is = in_clean field tag_names clean is
