-- Empty lines that are passed over.
use Rattle.std.specs.Prelude.{◌≡◌, ℕ, zero, suc, ◌+◌, Bool, true, List, [], ◌∷◌, ◌++◌, Option, Some, None, IfSome, refl}
use Rattle.std.proofs.Common.{ap, ◌∙◌, subst, arith}
use Rattle.sval_lines.specs.SourceLines.{EndsBefore, by_feed, by_end, TakesLine, TakesOrEnds, TakesPart, empty_lines, TakesNext, TakesNextPart, number_behind}

-- so many line feeds were taken, and the others are left
pub record AreSkipped (all : List ℕ) (now : Option (List ℕ)) (before after : ℕ) : Type 0 where
  pub skipped : ℕ
  pub others : List ℕ
  pub same : all ≡ empty_lines skipped ++ others
  pub left : now ≡ Some others
  pub number : after ≡ before + skipped

abbrev pub IsSkipped : Option (List ℕ) → Option (List ℕ) → ℕ → ℕ → Type 0
IsSkipped start now before after = IfSome start (λ all. AreSkipped all now before after)

pub skips_none : (start : Option (List ℕ)) (number : ℕ) → IsSkipped start start number number
skips_none None number = tt
skips_none (Some all) number = record { skipped = 0; others = all; same = refl; left = refl; number = omega arith }

feeds_more : (count : ℕ) (rest : List ℕ) → empty_lines count ++ (10 ∷ rest) ≡ empty_lines (suc count) ++ rest
feeds_more zero rest = refl
feeds_more (suc count) rest = ap (λ x. 10 ∷ x) (feeds_more count rest)

empty_ends : {others line rest : List ℕ} → EndsBefore others line rest → line ≡ [] → others ≡ 10 ∷ rest
empty_ends (by_feed {rest = rest}) e = ap (λ x. x ++ (10 ∷ rest)) e
empty_ends (by_end n) e = absurd (n e)

-- one more empty line
pub skips_on : (start now next : Option (List ℕ)) (line : List ℕ) (before after number : ℕ) → IsSkipped start now before after
    → IfSome now (λ all. TakesOrEnds true all line next) → line ≡ [] → number ≡ number_behind true after → IsSkipped start next before number
skips_on None now next line before after number s t e n = tt
skips_on (Some all) now next line before after number s t e n =
    let l : TakesLine s.others line next = subst (λ o. IfSome o (λ a. TakesLine a line next)) s.left t in
    let k = s.number in
    record {
      skipped = suc s.skipped;
      others = l.rest;
      same = s.same ∙ ap (λ x. empty_lines s.skipped ++ x) (empty_ends l.ends e) ∙ feeds_more s.skipped l.rest;
      left = l.left;
      number = omega (arith, k, n);
    }

pub skips_next : (start now next : Option (List ℕ)) (found : Bool) (line : List ℕ) (before after number : ℕ) → IsSkipped start now before after
    → IfSome now (λ all. TakesOrEnds found all line next) → number ≡ number_behind found after → IfSome start (λ all. TakesNext found all line next before number)
skips_next None now next found line before after number s t n = tt
skips_next (Some all) now next found line before after number s t n = record {
  skipped = s.skipped;
  others = s.others;
  same = s.same;
  taken = subst (λ o. IfSome o (λ a. TakesOrEnds found a line next)) s.left t;
  number = n ∙ ap (number_behind found) s.number;
}

pub skips_part : (start now next : Option (List ℕ)) (line : List ℕ) (before after number : ℕ) → IsSkipped start now before after
    → IfSome now (λ all. TakesPart all line next) → number ≡ after → IfSome start (λ all. TakesNextPart all line next before number)
skips_part None now next line before after number s t n = tt
skips_part (Some all) now next line before after number s t n = record {
  skipped = s.skipped;
  others = s.others;
  same = s.same;
  taken = subst (λ o. IfSome o (λ a. TakesPart a line next)) s.left t;
  number = n ∙ s.number;
}
