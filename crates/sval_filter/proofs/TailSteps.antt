-- Rests of paths behind a label, found one after another.
use Rattle.std.specs.Prelude.{◌≡◌, ℕ, zero, suc, ◌+◌, ◌<◌, ◌==◌, Bool, true, false, ◌||◌, List, [], ◌∷◌, ◌++◌, length, drop, map, slice_get, Option, Some, None, option_map, refl}
use Rattle.std.specs.Option.{option_and_then, option_to_list}
use Rattle.std.specs.List.{cons_option}
use Rattle.std.proofs.Common.{sym, ap, ◌∙◌, arith, add-one}
use Rattle.std.proofs.lemmas.List.{append_assoc, map-append}
use Rattle.sval_filter.specs.Paths.{Path, tail_of, tails, has_end}

-- the rests from one place on are that of the path there, if it has one, and those behind
step : (label : List ℕ) (paths : List Path) (i : ℕ) → i < length paths
    → tails label (drop i paths) ≡ cons_option (option_and_then (tail_of label) (slice_get paths i)) (tails label (drop (i + 1) paths))
step label paths i low = rw add-one (at_suc paths i low)
  where
    at_suc : (paths : List Path) (i : ℕ) → i < length paths → tails label (drop i paths) ≡ cons_option (option_and_then (tail_of label) (slice_get paths i)) (tails label (drop (suc i) paths))
    at_suc [] i low = absurd (omega (arith, low))
    at_suc (path ∷ paths) zero low = refl
    at_suc (path ∷ paths) (suc i) low = at_suc paths i (omega (arith, low))

-- one of the rests from one place on is none, if that of the path there is, or one of those behind
pub end_step : (label : List ℕ) (paths : List Path) (i : ℕ) → i < length paths
    → has_end (tails label (drop i paths)) ≡ (has_end (option_to_list (option_and_then (tail_of label) (slice_get paths i))) || has_end (tails label (drop (i + 1) paths)))
end_step label paths i low = ap has_end (step label paths i low) ∙ by_found (option_and_then (tail_of label) (slice_get paths i))
  where
    by_found : (found : Option Path) → has_end (cons_option found (tails label (drop (i + 1) paths))) ≡ (has_end (option_to_list found) || has_end (tails label (drop (i + 1) paths)))
    by_found None = refl
    by_found (Some rest) = by_length (length rest == 0)
      where
        by_length : (b : Bool) → (b || has_end (tails label (drop (i + 1) paths))) ≡ ((b || false) || has_end (tails label (drop (i + 1) paths)))
        by_length true = refl
        by_length false = refl

-- ---- the rests that were found so far, and those that are left

module _ {X : Type 0} (labels : X → Path) (label : List ℕ) (paths : List Path) (i : ℕ) (low : i < length paths) (items : List X)
    (all : map labels items ++ tails label (drop i paths) ≡ tails label paths) where
  pub none_more : (found : Option X) → option_map labels found ≡ option_and_then (tail_of label) (slice_get paths i) → found ≡ None
      → map labels items ++ tails label (drop (i + 1) paths) ≡ tails label paths
  none_more None is e = ap (λ rests. map labels items ++ rests) (sym (step label paths i low ∙ ap (λ o. cons_option o (tails label (drop (i + 1) paths))) (sym is))) ∙ all
  none_more (Some x) is e = cc e

  pub one_more : (found : Option X) (x : X) (now : List X) → option_map labels found ≡ option_and_then (tail_of label) (slice_get paths i) → found ≡ Some x → now ≡ items ++ (x ∷ [])
      → map labels now ++ tails label (drop (i + 1) paths) ≡ tails label paths
  one_more None x now is e pushed = cc e
  one_more (Some y) x now is e pushed =
      let there = step label paths i low ∙ ap (λ o. cons_option o (tails label (drop (i + 1) paths))) (sym is) ∙ ap (λ o. cons_option (option_map labels o) (tails label (drop (i + 1) paths))) e in
      ap (λ xs. map labels xs ++ tails label (drop (i + 1) paths)) pushed ∙ ap (λ xs. xs ++ tails label (drop (i + 1) paths)) (map-append labels items (x ∷ []))
      ∙ append_assoc (map labels items) (labels x ∷ []) (tails label (drop (i + 1) paths)) ∙ ap (λ rests. map labels items ++ rests) (sym there) ∙ all
