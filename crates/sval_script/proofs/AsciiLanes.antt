-- Bytes that are looked at together, to see whether all are ASCII.
use Rattle.std.specs.Prelude.{◌≡◌, ℕ, ◌+◌, ◌<◌, ◌≤◌, ◌%◌, ◌^◌, nat_le, cond, List, ◌++◌, map, take, drop, length, get_or}
use Rattle.std.specs.Simd.Lanes.{mask_l, top, zip2}
use Rattle.std.specs.Str.{IsAscii}
use Rattle.std.proofs.Common.{ap, sym, ◌∙◌, subst, arith, replicate, w8}
use Rattle.std.proofs.lemmas.Bool.{leb-false}
use Rattle.std.proofs.lemmas.List.{length-map, length-take-le, get_or-take, take-take, drop-take, take-append-drop, take_all}
use Rattle.std.proofs.lemmas.List.Elements.{All-from_get_or}
use Rattle.std.proofs.lemmas.Simd.{mask_l-mod, tops_compared, zip2_splat_left, none_from_empty_mask}
use Rattle.std.proofs.lemmas.Str.{IsAscii-take, IsAscii-append}
use Rattle.std.proofs.lemmas.Str.Ascii.{IsAscii-from_all}

-- what is compared with 128 in each lane
lanes_compared : (bytes : List ℕ) (n : ℕ) → length bytes ≡ n → map (top 7) (zip2 (λ a b. cond (nat_le a b) 255 0) (replicate n 128) bytes) ≡ map (nat_le 128) bytes
lanes_compared bytes n long = tops_compared w8 nat_le (replicate n 128) bytes ∙ zip2_splat_left nat_le 128 n bytes long

-- where no lane is 128 or more, the bytes are ASCII
pub ascii_lanes : (n : ℕ) (bytes : List ℕ) → n ≤ length bytes → n ≤ 64
    → mask_l (map (top 7) (zip2 (λ a b. cond (nat_le a b) 255 0) (replicate n 128) (take n bytes))) % 2 ^ 64 ≡ 0 → IsAscii (take n bytes)
ascii_lanes n bytes room few none =
    let long : length (take n bytes) ≡ n = length-take-le n bytes room in
    let empty : mask_l (map (nat_le 128) (take n bytes)) ≡ 0 =
    sym (mask_l-mod (map (nat_le 128) (take n bytes)) 64 (omega (arith, length-map (take n bytes) (nat_le 128), long, few)))
    ∙ ap (λ ms. mask_l ms % 2 ^ 64) (sym (lanes_compared (take n bytes) n long)) ∙ none in
    IsAscii-from_all (take n bytes) (All-from_get_or (λ byte. byte < 128) (take n bytes) 0 (λ k below.
    let near : k < n = omega (arith, below, long) in
    subst (λ byte. byte < 128) (sym (get_or-take n bytes k 0 near))
    (leb-false 128 (get_or bytes k 0) (none_from_empty_mask (nat_le 128) bytes 0 n 0 (omega (arith, room)) empty k (omega arith) (omega (arith, near))))))

-- more bytes that are ASCII
pub ascii_on : (bytes rest : List ℕ) (start n : ℕ) → rest ≡ drop start bytes → IsAscii (take start bytes) → IsAscii (take n rest) → IsAscii (take (start + n) bytes)
ascii_on bytes rest start n behind before ahead =
    let more : IsAscii (take n (drop start bytes)) = subst (λ xs. IsAscii (take n xs)) behind ahead in
    let front : take start (take (start + n) bytes) ≡ take start bytes = take-take start (start + n) bytes (omega arith) in
    let joined : take start bytes ++ take n (drop start bytes) ≡ take (start + n) bytes =
    ap (λ xs. xs ++ take n (drop start bytes)) (sym front) ∙ ap (λ ys. take start (take (start + n) bytes) ++ ys) (sym (drop-take start n bytes)) ∙ take-append-drop start (take (start + n) bytes) in
    subst IsAscii joined (IsAscii-append (take start bytes) (take n (drop start bytes)) before more)

-- the last of them, some of which were looked at before
pub ascii_whole : (bytes rest : List ℕ) (last n start : ℕ) → rest ≡ drop last bytes → last + n ≡ length bytes → last ≤ start → IsAscii (take start bytes) → IsAscii (take n rest) → IsAscii bytes
ascii_whole bytes rest last n start behind end earlier before ahead =
    let front : IsAscii (take last bytes) = subst IsAscii (take-take last start bytes earlier) (IsAscii-take (take start bytes) last before) in
    subst IsAscii (take_all (last + n) bytes (omega (arith, end))) (ascii_on bytes rest last n behind front ahead)
