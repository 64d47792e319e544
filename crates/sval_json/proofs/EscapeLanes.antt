-- Bytes that are looked at together, to find the first that is escaped.
use Rattle.std.specs.Prelude.{◌≡◌, ℕ, ◌+◌, ◌<◌, ◌≤◌, ◌%◌, ◌^◌, Bool, true, false, not, ◌||◌, ◌==◌, nat_lt, cond, List, map, bit_or, take, length, get_or, slice_index, refl}
use Rattle.std.specs.Int.{trailing_zeros}
use Rattle.std.specs.List.{AllPass, prefix_len}
use Rattle.std.specs.Simd.Lanes.{mask_l, top, zip2}
use Rattle.std.proofs.Common.{ap, ◌∙◌, subst, arith, replicate, w64}
use Rattle.std.proofs.lemmas.List.{length-map, length-take-le, get_or-take, take-take}
use Rattle.std.proofs.lemmas.List.Elements.{All-take}
use Rattle.std.proofs.lemmas.Simd.{mask_l-mod, trailing_mask_l, run_in_chunk_le, run_in_chunk_fails, run_in_chunk_stops, zip2_splat, zip2_of_maps, map-map}
use Rattle.sval_json.specs.Escape.{is_escaped, is_plain}

-- what a comparison leaves in its lane
abbrev pub lane : Bool → ℕ
lane b = cond b 255 0

any_top : (a b c : Bool) → top 7 (bit_or (bit_or (lane a) (lane b)) (lane c)) ≡ (a || b || c)
any_top true true true = refl
any_top true true false = refl
any_top true false true = refl
any_top true false false = refl
any_top false true true = refl
any_top false true false = refl
any_top false false true = refl
any_top false false false = refl

-- the tops of lanes that were compared with the space, the quote and the backslash
escape_tops : (run : List ℕ) (n : ℕ) → length run ≡ n
    → map (top 7) (zip2 bit_or (zip2 bit_or (zip2 (λ x y. lane (nat_lt x y)) run (replicate n 32)) (zip2 (λ x y. lane (x == y)) run (replicate n 34))) (zip2 (λ x y. lane (x == y)) run (replicate n 92)))
    ≡ map is_escaped run
escape_tops run n long =
    let low = zip2_splat (λ (x y : ℕ). lane (nat_lt x y)) run n 32 long in
    let same = λ (byte : ℕ). zip2_splat (λ (x y : ℕ). lane (x == y)) run n byte long in
    let two = zip2_of_maps bit_or (λ x. lane (nat_lt x 32)) (λ x. lane (x == 34)) run low (same 34) in
    let three = zip2_of_maps bit_or (λ x. bit_or (lane (nat_lt x 32)) (lane (x == 34))) (λ x. lane (x == 92)) run two (same 92) in
    ap (map (top 7)) three
    ∙ map-map (top 7) (λ x. bit_or (bit_or (lane (nat_lt x 32)) (lane (x == 34))) (lane (x == 92))) run
    ∙ (λ i. map (λ x. any_top (nat_lt x 32) (x == 34) (x == 92) i) run)

-- the mask of these lanes
pub escape_mask : (n : ℕ) (bytes : List ℕ) → n ≤ length bytes → n ≤ 64
    → mask_l (map (top 7) (zip2 bit_or (zip2 bit_or (zip2 (λ x y. lane (nat_lt x y)) (take n bytes) (replicate n 32)) (zip2 (λ x y. lane (x == y)) (take n bytes) (replicate n 34))) (zip2 (λ x y. lane (x == y)) (take n bytes) (replicate n 92)))) % 2 ^ 64
    ≡ mask_l (map is_escaped (take n bytes))
escape_mask n bytes room few =
    let long : length (take n bytes) ≡ n = length-take-le n bytes room in
    ap (λ ms. mask_l ms % 2 ^ 64) (escape_tops (take n bytes) n long)
    ∙ mask_l-mod (map is_escaped (take n bytes)) 64 (omega (arith, length-map (take n bytes) is_escaped, long, few))

-- bytes none of which is escaped
pub plain_run : (bytes : List ℕ) (run : ℕ) → ((d k : ℕ) → k < run → is_escaped (get_or bytes k d) ≡ false) → run ≤ length bytes → AllPass is_plain (take run bytes)
plain_run bytes run none room = λ k d below.
    let near : k < run = omega (arith, below, length-take-le run bytes room) in
    ap is_plain (get_or-take run bytes k d near) ∙ ap not (none d k near)

-- what is plain up to a place is plain up to an earlier one
pub plain_until : (bytes : List ℕ) (place start : ℕ) → place ≤ start → AllPass is_plain (take start bytes) → AllPass is_plain (take place bytes)
plain_until bytes place start earlier plain =
    subst (AllPass is_plain) (take-take place start bytes earlier) (All-take (λ byte. is_plain byte ≡ true) place (take start bytes) plain)

-- the lowest bit of a mask that isn't empty tells how many come before the first that is escaped
pub lowest_escape : (n : ℕ) (bytes : List ℕ) (mask : ℕ) → n ≤ length bytes → n ≤ 64 → mask ≡ mask_l (map is_escaped (take n bytes)) → (mask ≡ 0 → ⊥)
    → trailing_zeros w64 mask ≡ prefix_len (λ byte. not (is_escaped byte)) (take n bytes)
lowest_escape n bytes mask room few e some =
    let long : length (take n bytes) ≡ n = length-take-le n bytes room in
    let any : 0 < mask = omega (arith, some) in
    ap (trailing_zeros w64) e ∙ trailing_mask_l is_escaped 64 (take n bytes) (omega (arith, long, few)) (subst (λ n. 0 < n) e any)

-- so many bytes come before the first of these that is escaped
abbrev IsCounted : ℕ → List ℕ → ℕ → Type 0
IsCounted n bytes run = run ≡ prefix_len (λ byte. not (is_escaped byte)) (take n bytes)

pub counted_within : (n : ℕ) (bytes : List ℕ) (run : ℕ) → n ≤ length bytes → IsCounted n bytes run → run ≤ n
counted_within n bytes run room counted = run_in_chunk_le is_escaped bytes 0 n run 0 (omega (arith, room)) counted

pub counted_plain : (n : ℕ) (bytes : List ℕ) (run : ℕ) → n ≤ length bytes → IsCounted n bytes run → AllPass is_plain (take run bytes)
counted_plain n bytes run room counted =
    let near = counted_within n bytes run room counted in
    plain_run bytes run (λ d k before. run_in_chunk_fails is_escaped bytes 0 n run d (omega (arith, room)) counted k (omega arith) (omega (arith, before))) (omega (arith, near, room))

pub counted_found : (n : ℕ) (bytes : List ℕ) (run : ℕ) → n ≤ length bytes → IsCounted n bytes run → run < n → is_escaped (slice_index bytes run) ≡ true
counted_found n bytes run room counted more =
    let at : run ≡ 0 + run = omega arith in
    ap (λ place. is_escaped (slice_index bytes place)) at ∙ run_in_chunk_stops is_escaped bytes 0 n run 0 (omega (arith, room)) counted more
