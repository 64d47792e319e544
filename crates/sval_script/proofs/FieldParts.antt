-- The parts of a field, and what is read of them.
use Rattle.std.specs.Prelude.{◌≡◌, ℕ, Bool, true, false, List, [], ◌∷◌, Option, Some, None, option_map, option_and_then, Ok, Err, ℤ, refl}
use Rattle.std.specs.List.{list_all}
use Rattle.std.specs.Borrow.{Bor}
use Rattle.std.specs.Option.{ok_or}
use Rattle.std.proofs.Common.{ap, sym, ◌∙◌}
use Rattle.std.proofs.lemmas.Bool.{false_from_ne_true}
use Rattle.sval_label.specs.Calls as call
use Rattle.sval_label.specs.Tags.{is_tag_name}
use Rattle.sval_label.specs.Ranges.{is_index}
use Rattle.sval_script.specs.Lines.{cut_at, keep, signed_integer, tag_named, tagged_parts}
use Rattle.sval_script.specs.Tags.{tag_of}
use Rattle.sval_script.specs.FieldValues.{parts_of, part_and_tag}
use Rattle.sval_script.specs.declared.tag.TagField.{TagField}
use Rattle.sval_script.proofs.Cut.{is_not, cut_none}
use Rattle.sval_script.proofs.FieldCuts.{two_parts}
use Rattle.sval_script.proofs.TagTable.{tag-clean}

-- what was read, where an error didn't take its place
pub some_from : {A E : Type 0} {x : A} (made : Option A) (why : E) → Ok x ≡ ok_or made why → made ≡ Some x
some_from None why is = cc is
some_from {x = x} (Some other) why is =
    let same : other ≡ x = cc is in
    ap Some same

-- nothing was read where an error took its place
pub none_from : {A E : Type 0} {error : E} (made : Option A) (why : E) → Err error ≡ ok_or made why → made ≡ None
none_from None why is = refl
none_from (Some x) why is = cc is

abbrev Parts : Type 0
Parts = Option (List ℕ × Option call.Tag)

abbrev with_tag : List ℕ → call.Tag → List ℕ × Option call.Tag
with_tag part t = (part, Some t)

-- what stands behind the first `:` is the tag
pub parts_behind : (part rest : List ℕ) → parts_of (part ∷ cut_at 58 rest) ≡ option_map (with_tag part) (tag_named rest)
parts_behind part rest = by_clean (list_all (is_not 58) rest) refl
  where
    by_clean : (clean : Bool) → list_all (is_not 58) rest ≡ clean → parts_of (part ∷ cut_at 58 rest) ≡ option_map (with_tag part) (tag_named rest)
    by_clean true is = rw (cut_none 58 rest is) refl
    by_clean false is =
        let (a, b, more, e) = two_parts 58 rest is in
        let none : is_tag_name rest ≡ false = false_from_ne_true (is_tag_name rest) (λ yes. let clean = tag-clean rest yes in cc (sym clean, is)) in
        rw (e, none) refl

pub none_behind : (part : List ℕ) (o : Option call.Tag) → None ≡ option_map (λ t. Some t) o → None ≡ option_map (with_tag part) o
none_behind part None e = refl
none_behind part (Some t) e = cc e

pub some_behind : (part : List ℕ) (made : Option call.Tag) (o : Option call.Tag) → Some made ≡ option_map (λ t. Some t) o → Some (part, made) ≡ option_map (with_tag part) o
some_behind part made None e = cc e
some_behind part made (Some t) e = let same : made ≡ Some t = cc e in rw same refl

-- ---- what is read of the parts

abbrev of_parts : {A B : Type 0} → (List ℕ → Option A) → (A → Option call.Tag → B) → Parts → Option B
of_parts read make parts = option_and_then (λ p. option_map (λ x. make x p.1) (read p.0)) parts

swap : {A B : Type 0} (make : A → Option call.Tag → B) (part : List ℕ) (o : Option A) (t : Option call.Tag) (read : List ℕ → Option A) → read part ≡ o
    → option_and_then (λ x. option_map (λ t. make x (Some t)) t) o ≡ of_parts read make (option_map (with_tag part) t)
swap make part None None read e = refl
swap make part (Some x) None read e = refl
swap make part None (Some t) read e = rw e refl
swap make part (Some x) (Some t) read e = rw e refl

tagged_parts_of : {A B : Type 0} (read : List ℕ → Option A) (make : A → Option call.Tag → B) (parts : List (List ℕ)) → tagged_parts read make parts ≡ of_parts read make (parts_of parts)
tagged_parts_of read make [] = refl
tagged_parts_of read make (part ∷ []) = refl
tagged_parts_of read make (part ∷ name ∷ []) = swap make part (read part) (tag_named name) read refl
tagged_parts_of read make (part ∷ name ∷ other ∷ more) = refl

pub tagged_none : {A B : Type 0} (read : List ℕ → Option A) (make : A → Option call.Tag → B) (parts : List (List ℕ)) (r : Option (Bor (List ℕ) × TagField))
    → option_map part_and_tag r ≡ parts_of parts → r ≡ None → tagged_parts read make parts ≡ None
tagged_none read make parts r e is = tagged_parts_of read make parts ∙ ap (of_parts read make) (sym e) ∙ ap (λ w. of_parts read make (option_map part_and_tag w)) is

pub tagged_some : {A B : Type 0} (read : List ℕ → Option A) (make : A → Option call.Tag → B) (parts : List (List ℕ)) (r : Option (Bor (List ℕ) × TagField)) (found : Bor (List ℕ) × TagField)
    → option_map part_and_tag r ≡ parts_of parts → r ≡ Some found → tagged_parts read make parts ≡ option_map (λ x. make x (tag_of found.1)) (read found.0.now)
tagged_some read make parts r found e is = tagged_parts_of read make parts ∙ ap (of_parts read make) (sym e) ∙ ap (λ w. of_parts read make (option_map part_and_tag w)) is

abbrev pub index_text : List ℕ → Option ℤ
index_text part = option_and_then (keep is_index) (signed_integer part)

abbrev pub indexed : ℤ → Option call.Tag → call.Index
indexed z hint = record { number = z; tag = hint }

abbrev pub labelled : List ℕ → Option call.Tag → call.Label
labelled t hint = record { text = t; tag = hint; is_static = false }
