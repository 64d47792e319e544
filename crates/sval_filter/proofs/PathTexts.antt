-- Words between dots, and the last path of a list.
use Rattle.std.specs.Prelude.{◌≡◌, ℕ, zero, suc, ◌+◌, ◌-◌, ◌<◌, ◌==◌, nat_lt, Bool, true, false, List, [], ◌∷◌, ◌++◌, length, map, slice_set, Option, Some, None, is_some, option_map, Result, Ok, Err, refl}
use Rattle.std.specs.Bool.{MatchBool}
use Rattle.std.specs.List.{list_any, HoldsAt, AllWithin}
use Rattle.std.proofs.Common.{get_or, sym, ap, subst, ◌∙◌, arith, rules}
use Rattle.std.proofs.lemmas.List.{length-map}
use Rattle.std.proofs.lemmas.List.Folds.{list_any_none, list_any_at}
use Rattle.sval_label.specs.Texts.{is_empty}
use Rattle.sval_filter.specs.Paths.{Path, with_label}
use Rattle.sval_filter.specs.PathErrors.{AddsLabel}
use Rattle.sval_filter.specs.declared.paths.PathError.{PathError}
use Rattle.sval_filter.specs.declared.paths.PathError.TheVariants.{NoMemory}

empty_by_length : (bytes : List ℕ) → is_empty bytes ≡ (length bytes == 0)
empty_by_length [] = refl
empty_by_length (byte ∷ bytes) = grind arith

-- some piece is empty, by what was found of them
pub some_empty : (found : Bool) (pieces : List (List ℕ))
    → MatchBool found ((k : ℕ) × (k < length pieces) × HoldsAt (λ piece. true ≡ (length piece == 0)) pieces k) (AllWithin (λ piece. false ≡ (length piece == 0)) pieces 0 (length pieces))
    → found ≡ list_any is_empty pieces
some_empty true pieces at = sym (list_any_at is_empty pieces at.0 [] at.1 (empty_by_length _ ∙ sym (at.2 [])))
some_empty false pieces none = sym (list_any_none is_empty pieces (λ k d low. empty_by_length _ ∙ sym (none k d (omega arith) low)))

-- ---- the last path

-- it has a label more
extended : {X : Type 0} (labels : X → Path) (xs : List X) (i : ℕ) (last x : X) (label : List ℕ) → i + 1 ≡ length xs → last ≡ get_or xs i last → labels x ≡ labels last ++ (label ∷ [])
    → with_label (map labels xs) label ≡ Some (map labels (slice_set xs i x))
extended labels [] i last x label at is e = absurd (omega (arith, at))
extended labels (y ∷ []) zero last x label at is e = ap (λ path. Some (path ∷ [])) (ap (λ z. labels z ++ (label ∷ [])) (sym is) ∙ sym e)
extended labels (y ∷ []) (suc i) last x label at is e = absurd (omega (arith, at))
extended labels (y ∷ z ∷ ys) zero last x label at is e = absurd (omega (arith, at))
extended labels (y ∷ z ∷ ys) (suc i) last x label at is e =
    ap (λ rest. option_map (λ paths. labels y ∷ paths) rest) (extended labels (z ∷ ys) i last x label (omega (arith, at)) is e)

-- it is as it was
unchanged : {X : Type 0} (labels : X → Path) (xs : List X) (i : ℕ) (last x : X) → last ≡ get_or xs i last → labels x ≡ labels last → map labels (slice_set xs i x) ≡ map labels xs
unchanged labels [] i last x is e = refl
unchanged labels (y ∷ ys) zero last x is e = ap (λ path. path ∷ map labels ys) (e ∙ ap labels is)
unchanged labels (y ∷ ys) (suc i) last x is e = ap (λ paths. labels y ∷ paths) (unchanged labels ys i last x is e)

some_last : (paths : List Path) (label : List ℕ) → 0 < length paths → is_some (with_label paths label) ≡ true
some_last [] label some = absurd (omega (arith, some))
some_last (path ∷ []) label some = refl
some_last (path ∷ next ∷ paths) label some = by_rest (with_label (next ∷ paths) label) (some_last (next ∷ paths) label (omega arith))
  where
    by_rest : (rest : Option (List Path)) → is_some rest ≡ true → is_some (option_map (λ paths. path ∷ paths) rest) ≡ true
    by_rest (Some rest) e = refl
    by_rest None e = cc e

module _ {X : Type 0} (labels : X → Path) (xs : List X) (last x : X) (label : List ℕ) (n : ℕ) (counts : n ≡ length xs) (some : true ≡ nat_lt 0 (length xs)) (is : last ≡ get_or xs (n - 1) last) where
  there : 0 < length xs
  there = search (rules, some)

  pub label_added : {old : List Path} {result : Result (Unit {0}) PathError} → map labels xs ≡ old → result ≡ Ok tt → labels x ≡ labels last ++ (label ∷ []) → AddsLabel old label result (map labels (slice_set xs (n - 1) x))
  label_added {old} {result} view ok e =
      subst (λ (r : Result (Unit {0}) PathError). AddsLabel old label r (map labels (slice_set xs (n - 1) x))) (sym ok)
      (subst (λ (paths : List Path). with_label paths label ≡ Some (map labels (slice_set xs (n - 1) x))) view (extended labels xs (n - 1) last x label (omega (arith, there, counts)) is e))

  pub label_wanting : {old : List Path} {result : Result (Unit {0}) PathError} → map labels xs ≡ old → result ≡ Err NoMemory → labels x ≡ labels last → AddsLabel old label result (map labels (slice_set xs (n - 1) x))
  label_wanting {old} {result} view wanting e =
      subst (λ (r : Result (Unit {0}) PathError). AddsLabel old label r (map labels (slice_set xs (n - 1) x))) (sym wanting) (
        subst (λ (paths : List Path). is_some (with_label paths label) ≡ true) view (some_last (map labels xs) label (subst (λ m. 0 < m) (sym (length-map xs labels)) there)),
        unchanged labels xs (n - 1) last x is e ∙ view,
      )
