-- A big number is one piece.
use Rattle.std.specs.Prelude.{◌≡◌, ℕ, suc, ◌+◌, ◌*◌, ◌<◌, ◌≤◌, true, nat_lt, List, [], ◌∷◌, ◌++◌, take, length, refl}
use Rattle.std.proofs.Common.{sym, ap, ◌∙◌, arith}
use Rattle.std.proofs.lemmas.Bool.Decides.{nat_tests}
use Rattle.std.proofs.lemmas.List.{take-append-le, take_all}
use Rattle.sval_cbor.specs.Cbor.{head_bytes, short_bytes, bignum}

-- a head of one byte
pub small_head : (major n : ℕ) → n < 24 → head_bytes major n ≡ (32 * major + n) ∷ []
unfolding head_bytes
small_head major n small = let less : nat_lt n 24 ≡ true = grind (arith, nat_tests) in rw less refl

front_taken : (a b : ℕ) (xs more : List ℕ) → take (2 + length xs) (a ∷ b ∷ (xs ++ more)) ≡ a ∷ b ∷ xs
front_taken a b xs more =
    let two : 2 + length xs ≡ suc (suc (length xs)) = omega arith in
    ap (λ n. take n (a ∷ b ∷ (xs ++ more))) two
    ∙ ap (λ ys. a ∷ b ∷ ys) (take-append-le (length xs) xs more (omega arith) ∙ take_all (length xs) xs (omega arith))

pub bignum_taken : (tag n : ℕ) (short copied more : List ℕ) → tag < 24 → short ≡ short_bytes n → length short ≤ 16 → copied ≡ short
    → take (2 + length short) ((192 + tag) ∷ (64 + length short) ∷ (copied ++ more)) ≡ bignum tag n
bignum_taken tag n short copied more small is few same =
    ap (λ xs. take (2 + length short) ((192 + tag) ∷ (64 + length short) ∷ (xs ++ more))) same
    ∙ front_taken (192 + tag) (64 + length short) short more
    ∙ ap (λ hs. hs ++ ((64 + length short) ∷ short)) (sym (small_head 6 tag small))
    ∙ ap (λ hs. head_bytes 6 tag ++ (hs ++ short)) (sym (small_head 2 (length short) (omega arith)))
    ∙ ap (λ xs. head_bytes 6 tag ++ (head_bytes 2 (length xs) ++ xs)) is
