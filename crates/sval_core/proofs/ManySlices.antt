-- The calls between the ends of trees spell the trees.
use Rattle.std.specs.Prelude.{◌≡◌, ℕ, ◌+◌, ◌-◌, List, [], ◌∷◌, ◌++◌, length, take, drop, refl}
use Rattle.std.proofs.Common.{sym, ap, ◌∙◌, subst, arith, append_assoc, length-append}
use Rattle.std.proofs.Math.Seq.{take-append_seam, drop-append_seam}
use Rattle.sval_label.specs.Calls.{Call}
use Rattle.sval_core.specs.Trees.{Tree}
use Rattle.sval_core.specs.Spells.{Spells}
use Rattle.sval_core.specs.Many.{EndAfter, AreEnds, slice, SlicesSpell}

-- calls in the middle
slice_is : (before middle rest : List Call) (from to : ℕ) → from ≡ length before → to ≡ from + length middle → slice from to (before ++ (middle ++ rest)) ≡ middle
slice_is before middle rest from to e f =
    let n : to - from ≡ length middle = omega (arith, f) in
    ap (λ x. take x (drop from (before ++ (middle ++ rest)))) n ∙ ap (λ x. take (length middle) (drop x (before ++ (middle ++ rest)))) e
    ∙ ap (take (length middle)) (drop-append_seam before (middle ++ rest)) ∙ take-append_seam middle rest

slices : (trees : List Tree) (before calls whole : List Call) (from : ℕ) (ends : List ℕ) → whole ≡ before ++ calls → from ≡ length before → EndAfter from calls trees ends → SlicesSpell from ends whole trees
slices [] before calls whole from ends e n h = subst (λ x. SlicesSpell from x whole []) (sym h.1) tt
slices (t ∷ ts) before calls whole from ends e n h =
    let tree_calls = h.0 ++ (h.1 ∷ []) in
    let to = from + length h.0 + 1 in
    let long : length tree_calls ≡ length h.0 + 1 = length-append h.0 (h.1 ∷ []) in
    let split : calls ≡ tree_calls ++ h.2 = h.4 ∙ sym (append_assoc h.0 (h.1 ∷ []) h.2) in
    let whole_is : whole ≡ before ++ (tree_calls ++ h.2) = e ∙ ap (λ x. before ++ x) split in
    let far : to ≡ from + length tree_calls = omega (arith, long) in
    let this : slice from to whole ≡ tree_calls = ap (slice from to) whole_is ∙ slice_is before tree_calls h.2 from to n far in
    let next : to ≡ length (before ++ tree_calls) = far ∙ ap (λ x. x + length tree_calls) n ∙ sym (length-append before tree_calls) in
    let later = slices ts (before ++ tree_calls) h.2 whole to h.3 (whole_is ∙ sym (append_assoc before tree_calls h.2)) next h.8 in
    subst (λ x. SlicesSpell from x whole (t ∷ ts)) (sym h.7) (subst (λ x. Spells x t) (sym this) h.6, later)

pub ends_cut_trees : (calls : List Call) (trees : List Tree) (ends : List ℕ) → AreEnds calls trees ends → SlicesSpell 0 ends calls trees
ends_cut_trees calls trees ends h = slices trees [] calls calls 0 ends refl refl h
