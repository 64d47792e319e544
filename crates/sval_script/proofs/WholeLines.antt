-- Bytes that end with a line feed, and bytes that have none.
use Rattle.std.specs.Prelude.{◌≡◌, ℕ, zero, suc, ◌+◌, ◌<◌, Bool, true, false, ◌==◌, if◌then◌else◌, List, [], ◌∷◌, ◌++◌, Option, Some, None, option_map, take, drop, get_or, length, refl}
use Rattle.std.proofs.Common.{arith, add-one}
use Rattle.std.proofs.lemmas.Bool.{false_from_ne_true}
use Rattle.std.proofs.lemmas.Bool.Decides.{nat_tests}
use Rattle.memchr.specs.Find.{IsFirstByte, IsLastByte, is_byte}
use Rattle.sval_script.specs.Fields.{cut_line}
use Rattle.sval_script.specs.ReadLines.{EndsLine}

ends-at : (s : List ℕ) (k : ℕ) → k < length s → (get_or s k 0 == 10) ≡ true → EndsLine (take (suc k) s)
ends-at [] k h here = absurd (omega arith)
ends-at (x ∷ xs) zero h here = grind (arith, nat_tests)
ends-at (x ∷ []) (suc k) h here = absurd (omega arith)
ends-at (x ∷ y ∷ ys) (suc k) h here = ends-at (y ∷ ys) k (omega arith) here

pub ends-drop : (s : List ℕ) (n : ℕ) → EndsLine s → EndsLine (drop n s)
ends-drop s zero whole = whole
ends-drop [] (suc n) whole = whole
ends-drop (x ∷ []) (suc n) whole = ends-drop [] n tt
ends-drop (x ∷ y ∷ ys) (suc n) whole = ends-drop (y ∷ ys) n whole

pub ends-more : (a b : List ℕ) → EndsLine b → 0 < length b → EndsLine (a ++ b)
ends-more [] b whole some = whole
ends-more (x ∷ []) [] whole some = absurd (omega arith)
ends-more (x ∷ []) (y ∷ ys) whole some = whole
ends-more (x ∷ y ∷ a) b whole some = ends-more (y ∷ a) b whole some

no-feed : (s : List ℕ) → ((j : ℕ) → j < length s → (get_or s j 0 == 10) ≡ false) → cut_line s ≡ None
no-feed [] none = refl
no-feed (x ∷ xs) none = rw (none 0 (omega arith), no-feed xs (λ j below. none (suc j) (omega arith))) refl

no-feed-behind : (s : List ℕ) (k : ℕ) → ((j : ℕ) → k < j → j < length s → (get_or s j 0 == 10) ≡ false) → cut_line (drop (suc k) s) ≡ None
no-feed-behind [] k none = refl
no-feed-behind (x ∷ xs) zero none = no-feed xs (λ j below. none (suc j) (omega arith) (omega arith))
no-feed-behind (x ∷ xs) (suc k) none = no-feed-behind xs k (λ j past below. none (suc j) (omega arith) (omega arith))

-- bytes up to a line feed are whole lines
pub up_to_feed : (s : List ℕ) (k : ℕ) → k < length s → (get_or s k 0 == 10) ≡ true → EndsLine (take (k + 1) s) × (0 < length (take (k + 1) s))
up_to_feed s k below feed = rw add-one (ends-at s k below feed, some s below)
  where
    some : (s : List ℕ) → k < length s → 0 < length (take (suc k) s)
    some [] below = absurd (omega arith)
    some (x ∷ xs) below = omega arith

-- no line ends behind the last line feed
pub behind_last : (s : List ℕ) (k : ℕ) → IsLastByte (is_byte 10) s (Some k) → cut_line (drop (k + 1) s) ≡ None
behind_last s k found = rw add-one (no-feed-behind s k (λ j past below. false_from_ne_true _ (found.0.after j (omega arith) below)))

pub without_feed : (s : List ℕ) → IsLastByte (is_byte 10) s None → cut_line s ≡ None
without_feed s none = no-feed s (λ j below. false_from_ne_true _ (none j (omega arith) below))

-- whole lines have a line feed
pub has_feed : (s : List ℕ) → EndsLine s → 0 < length s → ¬ IsFirstByte (is_byte 10) s None
has_feed s whole some none = last s whole some (λ j below. none j (omega arith) below)
  where
    last : (s : List ℕ) → EndsLine s → 0 < length s → ((j : ℕ) → j < length s → ¬ ((get_or s j 0 == 10) ≡ true)) → ⊥
    last [] whole some none = absurd (omega arith)
    last (x ∷ []) whole some none = none 0 (omega arith) (rw whole refl)
    last (x ∷ y ∷ ys) whole some none = last (y ∷ ys) whole (omega arith) (λ j below. none (suc j) (omega arith))

-- what is begun goes on
pub begun-more : (a b : List ℕ) → cut_line a ≡ None → cut_line b ≡ None → cut_line (a ++ b) ≡ None
begun-more [] b none more = more
begun-more (x ∷ a) b none more = by_feed (x == 10) (cut_line a) refl refl none (λ e. begun-more a b e more)
  where
    by_feed : (feed : Bool) (line : Option (List ℕ × List ℕ)) → (x == 10) ≡ feed → cut_line a ≡ line
        → (if feed then Some ([], a) else option_map (λ (l : List ℕ × List ℕ). let pair : List ℕ × List ℕ = (x ∷ l.0, l.1) in pair) line) ≡ None
        → (cut_line a ≡ None → cut_line (a ++ b) ≡ None) → cut_line (x ∷ (a ++ b)) ≡ None
    by_feed true line is same e later = cc e
    by_feed false None is same e later = rw (is, later same) refl
    by_feed false (Some l) is same e later = cc e
