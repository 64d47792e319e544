-- The first 32 bytes, looked at together to see how many come before one that isn't ASCII.
use Rattle.std.specs.Prelude.{◌≡◌, ℕ, ◌<◌, ◌≤◌, ◌%◌, ◌^◌, not, nat_le, cond, false, List, map, take, length, get_or}
use Rattle.std.specs.Int.{trailing_zeros}
use Rattle.std.specs.List.{prefix_len}
use Rattle.std.specs.Simd.Lanes.{mask_l, top, zip2}
use Rattle.std.specs.Str.{IsAscii}
use Rattle.std.proofs.Common.{ap, sym, ◌∙◌, subst, arith, replicate, w8, w64}
use Rattle.std.proofs.lemmas.Bool.{leb-false}
use Rattle.std.proofs.lemmas.List.{length-map, length-take-le, get_or-take}
use Rattle.std.proofs.lemmas.List.Elements.{All-from_get_or}
use Rattle.std.proofs.lemmas.Simd.{mask_l-mod, tops_compared, zip2_splat_left, none_from_empty_mask, trailing_mask_l, run_in_chunk_le, run_in_chunk_fails}
use Rattle.std.proofs.lemmas.Str.Ascii.{IsAscii-from_all}

-- the mask of lanes that hold 128 or more
pub high_mask : (bytes : List ℕ) → 32 ≤ length bytes
    → mask_l (map (top 7) (zip2 (λ a b. cond (nat_le a b) 255 0) (replicate 32 128) (take 32 bytes))) % 2 ^ 64 ≡ mask_l (map (nat_le 128) (take 32 bytes))
high_mask bytes room =
    let long : length (take 32 bytes) ≡ 32 = length-take-le 32 bytes room in
    ap (λ ms. mask_l ms % 2 ^ 64) (tops_compared w8 nat_le (replicate 32 128) (take 32 bytes) ∙ zip2_splat_left nat_le 128 32 (take 32 bytes) long)
    ∙ mask_l-mod (map (nat_le 128) (take 32 bytes)) 64 (omega (arith, length-map (take 32 bytes) (nat_le 128), long))

-- bytes below 128
ascii_run : (bytes : List ℕ) (run : ℕ) → run ≤ length bytes → ((k : ℕ) → k < run → nat_le 128 (get_or bytes k 0) ≡ false) → IsAscii (take run bytes)
ascii_run bytes run room low =
    IsAscii-from_all (take run bytes) (All-from_get_or (λ byte. byte < 128) (take run bytes) 0 (λ k below.
    let near : k < run = omega (arith, below, length-take-le run bytes room) in
    subst (λ byte. byte < 128) (sym (get_or-take run bytes k 0 near)) (leb-false 128 (get_or bytes k 0) (low k near))))

module _ (bytes : List ℕ) (mask : ℕ) (room : 32 ≤ length bytes) (is : mask ≡ mask_l (map (nat_le 128) (take 32 bytes))) where
  -- an empty mask
  pub all_ascii : mask ≡ 0 → IsAscii (take 32 bytes)
  all_ascii none = ascii_run bytes 32 room (λ k near. none_from_empty_mask (nat_le 128) bytes 0 32 0 (omega (arith, room)) (sym is ∙ none) k (omega arith) (omega (arith, near)))

  module _ (some : mask ≡ 0 → ⊥) where
    -- the lowest bit of one that isn't
    lowest : trailing_zeros w64 mask ≡ prefix_len (λ byte. not (nat_le 128 byte)) (take 32 bytes)
    lowest =
        let long : length (take 32 bytes) ≡ 32 = length-take-le 32 bytes room in
        let any : 0 < mask = omega (arith, some) in
        ap (trailing_zeros w64) is ∙ trailing_mask_l (nat_le 128) 64 (take 32 bytes) (omega (arith, long)) (subst (λ n. 0 < n) is any)

    pub front_within : trailing_zeros w64 mask ≤ 32
    front_within = run_in_chunk_le (nat_le 128) bytes 0 32 (trailing_zeros w64 mask) 0 (omega (arith, room)) lowest

    pub front_ascii : IsAscii (take (trailing_zeros w64 mask) bytes)
    front_ascii =
        let near = front_within in
        ascii_run bytes (trailing_zeros w64 mask) (omega (arith, near, room))
        (λ k before. run_in_chunk_fails (nat_le 128) bytes 0 32 (trailing_zeros w64 mask) 0 (omega (arith, room)) lowest k (omega arith) (omega (arith, before)))
