-- A piece of bytes, with what stands before it and behind it.
use Rattle.std.specs.Prelude.{◌≡◌, ℕ, ◌+◌, ◌-◌, ◌≤◌, ◌==◌, true, List, ◌++◌, length, drop, take, refl}
use Rattle.std.specs.List.{between, starts_with, ends_with}
use Rattle.std.proofs.Common.{sym, ap, ◌∙◌, append_assoc, arith}
use Rattle.std.proofs.lemmas.Bool.Decides.{Decides-eqb}
use Rattle.std.proofs.lemmas.List.{length-append, length-take-le, drop_at, take_at}
use Rattle.std.proofs.lemmas.List.Edits.{length-between, split_between}
use Rattle.std.proofs.lemmas.Slice.{between_to_end}
use Rattle.std.proofs.lemmas.Slice.Eq.{starts_is, ends_is}

-- what stands between two others is cut out at their lengths
pub cut_out : (bytes front part rest : List ℕ) (start end : ℕ) → bytes ≡ front ++ (part ++ rest) → length front ≡ start → length part ≡ end - start → between start end bytes ≡ part
cut_out bytes front part rest start end whole begins ends =
    ap (λ row. between start end row) whole
    ∙ ap (take (end - start)) (drop_at front (part ++ rest) start begins)
    ∙ take_at part rest (end - start) ends

-- a part, with what stands before it and behind it, is one part
pub extended_piece : (before bytes behind front rest : List ℕ) (from to : ℕ) → from ≤ to → to ≤ length bytes
    → take from bytes ≡ front ++ before → drop to bytes ≡ behind ++ rest
    → between (from - length before) (to + length behind) bytes ≡ before ++ (between from to bytes ++ behind)
extended_piece before bytes behind front rest from to order within f r =
    let part = between from to bytes in
    let whole : bytes ≡ front ++ ((before ++ (part ++ behind)) ++ rest) =
    split_between bytes from to order
    ∙ ap (λ row. row ++ (part ++ drop to bytes)) f
    ∙ ap (λ row. (front ++ before) ++ (part ++ row)) r
    ∙ append_assoc front before (part ++ (behind ++ rest))
    ∙ ap (λ row. front ++ (before ++ row)) (sym (append_assoc part behind rest))
    ∙ ap (λ row. front ++ row) (sym (append_assoc before (part ++ behind) rest)) in
    let begins : length front + length before ≡ from = sym (length-append front before) ∙ ap length (sym f) ∙ length-take-le from bytes (omega arith) in
    let middle : length part ≡ to - from = length-between bytes from to within in
    let size : length (before ++ (part ++ behind)) ≡ length before + (length part + length behind) =
    length-append before (part ++ behind) ∙ ap (λ n. length before + n) (length-append part behind) in
    cut_out bytes front (before ++ (part ++ behind)) rest (from - length before) (to + length behind) whole (omega arith) (omega arith)

-- the same where the code tests for what stands before and behind
pub extended_by_tests : (before bytes behind : List ℕ) (from to : ℕ) → from ≤ to → to ≤ length bytes
    → true ≡ ends_with ◌==◌ (take from bytes) before → true ≡ starts_with ◌==◌ (between to (length bytes) bytes) behind
    → between (from - length before) (to + length behind) bytes ≡ before ++ (between from to bytes ++ behind)
extended_by_tests before bytes behind from to order within f r =
    let front = take (length (take from bytes) - length before) (take from bytes) in
    let rest = drop (length behind) (between to (length bytes) bytes) in
    extended_piece before bytes behind front rest from to order within
    ((ends_is Decides-eqb (take from bytes) before true f).0 refl)
    (sym (between_to_end bytes to (length bytes) (omega arith)) ∙ (starts_is Decides-eqb (between to (length bytes) bytes) behind true r).0 refl)
