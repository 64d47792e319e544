-- Where a line is cut at its spaces.
use Rattle.std.specs.Prelude.{◌≡◌, ℕ, zero, suc, ◌+◌, ◌-◌, ◌<◌, Bool, true, false, ◌==◌, List, [], ◌∷◌, length, take, drop, get_or, Some, None, refl}
use Rattle.std.specs.List.{list_all}
use Rattle.std.proofs.Common.{arith, add-one}
use Rattle.std.proofs.lemmas.Bool.{false_from_ne_true}
use Rattle.std.proofs.lemmas.List.{take_rest}
use Rattle.memchr.specs.Find.{IsFirstByte, is_byte}
use Rattle.sval_script.specs.Lines.{cut_at}
use Rattle.sval_script.proofs.Cut.{is_not, cut-some}

cut_at_place : (cut : ℕ) (s : List ℕ) (k : ℕ) → k < length s → ((j : ℕ) → j < k → (get_or s j 0 == cut) ≡ false) → (get_or s k 0 == cut) ≡ true
    → cut_at cut s ≡ take k s ∷ cut_at cut (drop (suc k) s)
cut_at_place cut [] k h before here = absurd (omega arith)
cut_at_place cut (x ∷ xs) zero h before here = rw here refl
cut_at_place cut (x ∷ xs) (suc k) h before here =
    rw (before 0 (omega arith), cut_at_place cut xs k (omega arith) (λ j below. before (suc j) (omega arith)) here) refl

no_cut : (cut : ℕ) (s : List ℕ) → ((j : ℕ) → j < length s → (get_or s j 0 == cut) ≡ false) → cut_at cut s ≡ s ∷ []
no_cut cut [] none = refl
no_cut cut (x ∷ xs) none = rw (none 0 (omega arith), no_cut cut xs (λ j below. none (suc j) (omega arith))) refl

-- bytes without the cut are one part
pub one_part : (cut : ℕ) (s : List ℕ) → IsFirstByte (is_byte cut) s None → cut_at cut s ≡ s ∷ []
one_part cut s none = no_cut cut s (λ j below. false_from_ne_true _ (none j (omega arith) below))

-- the first cut ends the first part
pub first_part : (cut : ℕ) (s : List ℕ) (k : ℕ) → IsFirstByte (is_byte cut) s (Some k)
    → cut_at cut s ≡ take k s ∷ cut_at cut (take (length s - (k + 1)) (drop (k + 1) s))
first_part cut s k found =
    let e = cut_at_place cut s k found.0.high (λ j below. false_from_ne_true _ (found.0.before j (omega arith) below)) found.1 in
    rw (take_rest s (k + 1), add-one) e

abbrev pub TwoParts : ℕ → List ℕ → Type 0
TwoParts cut s = (a b : List ℕ) × (more : List (List ℕ)) × (cut_at cut s ≡ a ∷ b ∷ more)

pub two_parts : (cut : ℕ) (s : List ℕ) → list_all (is_not cut) s ≡ false → TwoParts cut s
two_parts cut [] h = cc
two_parts cut (x ∷ xs) h = by_first (x == cut) refl (two_parts cut xs)
  where
    by_first : (here : Bool) → (x == cut) ≡ here → (list_all (is_not cut) xs ≡ false → TwoParts cut xs) → TwoParts cut (x ∷ xs)
    by_first true is parts = let (first, rest, e) = cut-some cut xs in ([], first, rest, rw (is, e) refl)
    by_first false is parts =
        let later : list_all (is_not cut) xs ≡ false = rw is at h in
        let (a, b, more, e) = parts later in (x ∷ a, b, more, rw (is, e) refl)
