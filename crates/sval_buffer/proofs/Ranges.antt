-- Bytes at the front and at the end of a list.
use Rattle.std.specs.Prelude.{◌≡◌, ℕ, zero, suc, ◌-◌, ◌≤◌, List, [], ◌∷◌, ◌++◌, length, take, drop, refl}
use Rattle.std.proofs.Common.{ap, arith}

pub drop-front : (xs ys : List ℕ) (a : ℕ) → a ≤ length xs → drop a (xs ++ ys) ≡ drop a xs ++ ys
drop-front xs ys zero h = refl
drop-front [] ys (suc a) h = absurd (omega arith)
drop-front (x ∷ xs) ys (suc a) h = drop-front xs ys a (omega arith)

pub take-all : (xs : List ℕ) → take (length xs) xs ≡ xs
take-all [] = refl
take-all (x ∷ xs) = ap (λ zs. x ∷ zs) (take-all xs)

pub length-dropped : (xs : List ℕ) (a : ℕ) → length (drop a xs) ≡ length xs - a
length-dropped xs zero = omega arith
length-dropped [] (suc a) = omega arith
length-dropped (x ∷ xs) (suc a) = let n = length-dropped xs a in omega arith
