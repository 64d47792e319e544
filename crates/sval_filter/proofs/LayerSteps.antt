-- A stack as a list whose last is the innermost.
use Rattle.std.specs.Prelude.{◌≡◌, ℕ, ◌-◌, zero, suc, List, [], ◌∷◌, ◌++◌, length, reverse, map, take, refl}
use Rattle.std.proofs.Common.{sym, ap, ◌∙◌, arith, length-append}
use Rattle.std.proofs.lemmas.List.{reverse-append, reverse-reverse, take-append-le, take-map, length-map}
use Rattle.sval_core.specs.Stacks.{below}

take_all : {A : Type 0} (xs : List A) → take (length xs) xs ≡ xs
take_all [] = refl
take_all (x ∷ xs) = ap (λ ys. x ∷ ys) (take_all xs)

none_left : {A : Type 0} (n : ℕ) (xs : List A) → xs ≡ [] → reverse (take n xs) ≡ []
none_left zero xs e = refl
none_left (suc n) [] e = refl
none_left (suc n) (x ∷ xs) e = absurd (cc e)

all_but_last : {A : Type 0} (xs ys : List A) (n : ℕ) → n ≡ length xs - 1 → reverse xs ≡ ys → reverse (take n xs) ≡ below ys
all_but_last xs [] n e h = none_left n xs (sym (reverse-reverse xs) ∙ ap (λ zs. reverse zs) h)
all_but_last xs (y ∷ ys) n e h =
    let front : xs ≡ reverse ys ++ (y ∷ []) = sym (reverse-reverse xs) ∙ ap (λ zs. reverse zs) h ∙ reverse-append (y ∷ []) ys in
    let counts : n ≡ length (reverse ys) = e ∙ ap (λ zs. length zs - 1) front ∙ ap (λ m. m - 1) (length-append (reverse ys) (y ∷ [])) ∙ omega arith in
    ap (λ zs. reverse (take n zs)) front ∙ ap (λ m. reverse (take m (reverse ys ++ (y ∷ [])))) counts
    ∙ ap (λ zs. reverse zs) (take-append-le (length (reverse ys)) (reverse ys) (y ∷ []) (omega arith) ∙ take_all (reverse ys)) ∙ reverse-reverse ys

-- what is around the innermost of rows
pub around_rows : {A B : Type 0} (f : A → B) (xs part : List A) (n : ℕ) → n ≡ length xs - 1 → part ≡ take n xs → reverse (map f part) ≡ below (reverse (map f xs))
around_rows f xs part n e is =
    ap (λ ys. reverse (map f ys)) is ∙ ap (λ zs. reverse zs) (sym (take-map f n xs)) ∙ all_but_last (map f xs) (reverse (map f xs)) n (e ∙ ap (λ m. m - 1) (sym (length-map xs f))) refl
