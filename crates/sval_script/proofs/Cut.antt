-- Bytes that are cut at a byte.
use Rattle.std.specs.Prelude.{◌≡◌, ℕ, ◌+◌, Bool, true, false, not, ◌==◌, cond, List, [], ◌∷◌, ◌++◌, Option, refl}
use Rattle.std.specs.List.{list_all, onto_first}
use Rattle.std.proofs.Common.{arith}
use Rattle.std.proofs.lemmas.Bool.{and_parts}
use Rattle.std.proofs.lemmas.Bool.Decides.{nat_tests}
use Rattle.sval_label.specs.Calls.{Call}
use Rattle.sval_script.specs.Lines.{cut_at, with_call, lines_from}

pub not_true : (b : Bool) → not b ≡ true → b ≡ false
not_true true h = cc h
not_true false h = refl

abbrev pub is_not : ℕ → ℕ → Bool
is_not cut byte = not (byte == cut)

pub cut_none : (cut : ℕ) (xs : List ℕ) → list_all (is_not cut) xs ≡ true → cut_at cut xs ≡ xs ∷ []
cut_none cut [] h = refl
cut_none cut (x ∷ xs) h =
    let (a, b) = and_parts (is_not cut x) (list_all (is_not cut) xs) h in
    rw (not_true (x == cut) a, cut_none cut xs b) refl

pub cut_first : (cut : ℕ) (xs ys : List ℕ) → list_all (is_not cut) xs ≡ true → cut_at cut (xs ++ (cut ∷ ys)) ≡ xs ∷ cut_at cut ys
cut_first cut [] ys h = let e : (cut == cut) ≡ true = grind (arith, nat_tests) in rw e refl
cut_first cut (x ∷ xs) ys h =
    let (a, b) = and_parts (is_not cut x) (list_all (is_not cut) xs) h in
    rw (not_true (x == cut) a, cut_first cut xs ys b) refl

pub cut-some : (cut : ℕ) (xs : List ℕ) → (first : List ℕ) × (rest : List (List ℕ)) × (cut_at cut xs ≡ first ∷ rest)
cut-some cut [] = ([], [], refl)
cut-some cut (x ∷ xs) = go (x == cut) (cut_at cut xs)
  where
    go : (b : Bool) (parts : List (List ℕ)) → (first : List ℕ) × (rest : List (List ℕ)) × (cond b ([] ∷ parts) (onto_first x parts) ≡ first ∷ rest)
    go true parts = ([], parts, refl)
    go false [] = (x ∷ [], [], refl)
    go false (part ∷ parts) = (x ∷ part, parts, refl)

-- a first line, where more stands after its line feed
pub lines-first : (read : List ℕ → Option Call) (n : ℕ) (first next : List ℕ) (parts more : List (List ℕ)) → parts ≡ next ∷ more
    → lines_from read n (first ∷ parts) ≡ with_call n (read first) (lines_from read (n + 1) parts)
lines-first read n first next parts more e = rw e refl
