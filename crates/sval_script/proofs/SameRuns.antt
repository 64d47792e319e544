-- When two runs of bytes are the same.
use Rattle.std.specs.Prelude.{◌≡◌, ◌↔◌, ℕ, suc, ◌+◌, ◌-◌, ◌/◌, ◌%◌, ◌^◌, ◌<◌, ◌≤◌, Bool, true, false, not, ◌==◌, nat_eq, cond, List, [], ◌∷◌, length, get_or, map, IsTrue, bytes_eq, refl}
use Rattle.std.specs.Simd.Lanes.{chunk, mask_l, top, zip2}
use Rattle.std.proofs.Common.{arith, sym, ap, subst, ◌∙◌, w8, inl, inr}
use Rattle.std.proofs.lemmas.Bool.{cases_lt, eqb-true, eq-eqb, not-false, not_from_true}
use Rattle.std.proofs.lemmas.Bool.Decides.{Decides-eqb, Decides-like, same_from_decides}
use Rattle.std.proofs.lemmas.List.{ext_get_or}
use Rattle.std.proofs.lemmas.Nat.Bits.{bit_at-zero}
use Rattle.std.proofs.lemmas.Simd.{bit_mask_l, mask_l-mod, tops_compared, length-zip2, get_or-zip2, length-chunk, get_or-chunk}
use Rattle.std.proofs.lemmas.Slice.Eq.{bytes_eq-Decides}
use Rattle.sval_script.specs.Runs.{SameFrom}

-- ---- by lanes

-- what a comparison of two bytes leaves in their lane
abbrev pub apart : ℕ → ℕ → ℕ
apart x y = cond (not (x == y)) 255 0

-- a mask without bits stands for tests that all fail
all_fail : (tests : List Bool) → mask_l tests ≡ 0 → (k : ℕ) → get_or tests k false ≡ false
all_fail tests none k = by_test (get_or tests k false) (sym (bit_mask_l tests k) ∙ ap (λ mask. mask / 2 ^ k % 2) none ∙ bit_at-zero k)
  where
    by_test : (b : Bool) → cond {A = ℕ} b 1 0 ≡ 0 → b ≡ false
    by_test true h = absurd (omega arith)
    by_test false h = refl

no_mask : (tests : List Bool) → ((k : ℕ) → k < length tests → get_or tests k false ≡ false) → mask_l tests ≡ 0
no_mask [] fail = refl
no_mask (test ∷ tests) fail =
    let later = no_mask tests (λ k below. fail (suc k) (omega arith)) in
    rw (fail 0 (omega arith), later) refl

-- no lane differs where the bytes are the same
pub same_lanes : (from n : ℕ) (xs ys : List ℕ) → from + n ≤ length xs → from + n ≤ length ys → n ≤ 64
    → IsTrue (nat_eq (mask_l (map (top 7) (zip2 apart (chunk from n xs) (chunk from n ys))) % 2 ^ 64) 0) ↔ SameFrom from n xs ys
same_lanes from n xs ys in_xs in_ys small =
    let us = chunk from n xs in
    let vs = chunk from n ys in
    let differ = λ (x y : ℕ). not (x == y) in
    let tests = zip2 differ us vs in
    let long : length tests ≡ n = length-zip2 differ us vs (length-chunk from n xs in_xs ∙ sym (length-chunk from n ys in_ys)) ∙ length-chunk from n xs in_xs in
    let mask : mask_l (map (top 7) (zip2 apart us vs)) % 2 ^ 64 ≡ mask_l tests =
    ap (λ ms. mask_l ms % 2 ^ 64) (tops_compared w8 differ us vs) ∙ mask_l-mod tests 64 (omega arith) in
    let at = λ (k : ℕ) (below : k < n).
    get_or-zip2 differ us vs k 0 0 false (omega (arith, length-chunk from n xs in_xs)) (omega (arith, length-chunk from n ys in_ys))
    ∙ (λ i. differ (get_or-chunk from n xs k 0 below i) (get_or-chunk from n ys k 0 below i)) in
    Decides-like _
    (λ none k low high.
    let place : from + (k - from) ≡ k = omega arith in
    let same = not-false _ (sym (at (k - from) (omega arith)) ∙ all_fail tests (sym mask ∙ none) (k - from)) in
    subst (λ j. get_or xs j 0 ≡ get_or ys j 0) place (eqb-true _ _ same))
    (λ same. mask ∙ no_mask tests (λ k below.
    let here : k < n = omega arith in
    at k here ∙ not_from_true _ (eq-eqb _ _ (same (from + k) (omega arith) (omega arith)))))
    (Decides-eqb _ 0)

-- ---- the whole

by_bytes : (xs ys : List ℕ) → xs ≡ ys → (n from : ℕ) → SameFrom from n xs ys
by_bytes xs ys e n from k low high = ap (λ zs. get_or zs k 0) e

-- two runs of one length
pub same_whole : (xs ys : List ℕ) → length xs ≡ length ys → (r : Bool) → (IsTrue r ↔ SameFrom 0 (length xs) xs ys) → r ≡ bytes_eq xs ys
same_whole xs ys long r tells =
    same_from_decides r (bytes_eq xs ys)
    (Decides-like r (λ same. ext_get_or 0 xs ys long (λ k below. same k (omega arith) (omega arith))) (λ e. by_bytes xs ys e (length xs) 0) tells)
    (bytes_eq-Decides xs ys)

-- two runs whose first n bytes are the same, and whose last n bytes are compared, where these are all
pub same_halves : (n : ℕ) (xs ys : List ℕ) → length xs ≡ length ys → n ≤ length xs → length xs ≤ n + n → SameFrom 0 n xs ys
    → (r : Bool) → (IsTrue r ↔ SameFrom (length xs - n) n xs ys) → r ≡ bytes_eq xs ys
same_halves n xs ys long room short front r tells =
    same_whole xs ys long r
    (Decides-like r
    (λ back k low high. elim (cases_lt k n) [ inl near ↦ front k low (omega arith) | inr far ↦ back k (omega arith) (omega arith) ])
    (λ same k low high. same k (omega arith) (omega arith))
    tells)
