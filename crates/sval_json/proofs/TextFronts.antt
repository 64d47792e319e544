-- A text that begins with another, and texts that are told apart part by part.
use Rattle.std.specs.Prelude.{◌≡◌, ℕ, ◌==◌, Bool, true, false, List, [], ◌∷◌, ◌++◌, length, take, drop, refl}
use Rattle.std.specs.Str.{bytes_eq}
use Rattle.std.proofs.Common.{sym, ap, ◌∙◌, arith, take-append-drop}
use Rattle.std.proofs.lemmas.Bool.Decides.{nat_tests}
use Rattle.std.proofs.lemmas.Slice.Eq.{bytes_eq-Decides}

front_is : (text more : List ℕ) → take (length text) (text ++ more) ≡ text
front_is [] more = refl
front_is (byte ∷ text) more = ap (λ row. byte ∷ row) (front_is text more)

pub begins_with : (text bytes more : List ℕ) → bytes_eq (take (length text) bytes) text ≡ true → more ≡ drop (length text) bytes → bytes ≡ text ++ more
begins_with text bytes more e d = sym (take-append-drop (length text) bytes) ∙ ap (λ front. front ++ drop (length text) bytes) ((bytes_eq-Decides (take (length text) bytes) text).0 e) ∙ ap (λ row. text ++ row) (sym d)

pub begins_otherwise : (text bytes more : List ℕ) → bytes_eq (take (length text) bytes) text ≡ false → bytes ≡ text ++ more → ⊥
begins_otherwise text bytes more e b = let t = (bytes_eq-Decides (take (length text) bytes) text).1 (ap (take (length text)) b ∙ front_is text more) in absurd (cc (sym e ∙ t))

equal_tests : (a b c d : List ℕ) → (a ≡ b → c ≡ d) → (c ≡ d → a ≡ b) → bytes_eq a b ≡ bytes_eq c d
equal_tests a b c d f g = go (bytes_eq a b) (bytes_eq c d) refl refl
  where
    go : (x y : Bool) → bytes_eq a b ≡ x → bytes_eq c d ≡ y → x ≡ y
    go true true e h = refl
    go true false e h = absurd (cc (sym h ∙ (bytes_eq-Decides c d).1 (f ((bytes_eq-Decides a b).0 e))))
    go false true e h = absurd (cc (sym e ∙ (bytes_eq-Decides a b).1 (g ((bytes_eq-Decides c d).0 h))))
    go false false e h = refl

pub same_rest : (front a b : List ℕ) → front ++ a ≡ front ++ b → a ≡ b
same_rest [] a b e = e
same_rest (byte ∷ front) a b e = same_rest front a b (ap (drop 1) e)

-- behind the same front texts are equal where all are
pub behind_front : (front a b : List ℕ) → bytes_eq (front ++ a) (front ++ b) ≡ bytes_eq a b
behind_front front a b = equal_tests (front ++ a) (front ++ b) a b (same_rest front a b) (ap (λ row. front ++ row))

pub other_front : (front a b : List ℕ) → ((more : List ℕ) → b ≡ front ++ more → ⊥) → bytes_eq (front ++ a) b ≡ false
other_front front a b n = go (bytes_eq (front ++ a) b) refl
  where
    go : (x : Bool) → bytes_eq (front ++ a) b ≡ x → x ≡ false
    go true e = absurd (n a (sym ((bytes_eq-Decides (front ++ a) b).0 e)))
    go false e = refl

pub nothing_left : (b : List ℕ) → bytes_eq [] b ≡ (length b == 0)
nothing_left [] = refl
nothing_left (byte ∷ b) = grind (arith, nat_tests)
