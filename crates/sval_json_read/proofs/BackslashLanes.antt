-- Bytes that are looked at together, to find the first backslash.
use Rattle.std.specs.Prelude.{◌≡◌, ℕ, ◌+◌, ◌*◌, ◌<◌, ◌≤◌, ◌%◌, ◌^◌, Bool, true, false, not, ◌==◌, cond, List, [], ◌∷◌, map, take, length, get_or, refl}
use Rattle.std.specs.Int.{trailing_zeros}
use Rattle.std.specs.List.{list_all, prefix_len}
use Rattle.std.specs.Simd.Lanes.{mask_l, top, zip2}
use Rattle.std.proofs.Common.{ap, ◌∙◌, subst, arith, replicate, w8, w64}
use Rattle.std.proofs.lemmas.List.{length-take-le, get_or-take}
use Rattle.std.proofs.lemmas.List.Sums.{list_all-from_AllPass}
use Rattle.std.proofs.lemmas.Simd.{trailing_mask_l, run_in_chunk_fails, run_in_chunk_stops, bitmask_splat}
use Rattle.memchr.specs.Find.{is_byte}
use Rattle.sval_json_read.specs.RawStrings.{is_no_backslash}

-- the mask of lanes that were compared with a backslash
pub backslash_mask : (bytes : List ℕ) → 16 ≤ length bytes
    → mask_l (map (top 7) (zip2 (λ x y. cond (x == y) 255 0) (take 16 bytes) (replicate 16 92))) % 2 ^ 64 ≡ mask_l (map (is_byte 92) (take 16 bytes))
backslash_mask bytes room = bitmask_splat w8 (λ (x y : ℕ). x == y) (take 16 bytes) 16 92 (length-take-le 16 bytes room) (omega arith)

-- where a bit is set, some lane passes
some_lane : (test : ℕ → Bool) (xs : List ℕ) → 0 < mask_l (map test xs) → prefix_len (λ x. not (test x)) xs < length xs
some_lane test [] some = absurd (omega arith)
some_lane test (x ∷ xs) some = go (test x) refl (some_lane test xs)
  where
    go : (b : Bool) → test x ≡ b → (0 < mask_l (map test xs) → prefix_len (λ y. not (test y)) xs < length xs) → prefix_len (λ y. not (test y)) (x ∷ xs) < length (x ∷ xs)
    go true e rest = rw e (omega arith)
    go false e rest =
        let more : 0 < cond false 1 0 + 2 * mask_l (map test xs) = subst (λ b. 0 < cond b 1 0 + 2 * mask_l (map test xs)) e some in
        let l = rest (omega (arith, more)) in
        rw e (omega (arith, l))

-- then the lowest bit tells how many bytes come before the first backslash
module _ (bytes : List ℕ) (mask : ℕ) (room : 16 ≤ length bytes) (e : mask ≡ mask_l (map (is_byte 92) (take 16 bytes))) (some : mask ≡ 0 → ⊥) where
  abbrev run : ℕ
  run = trailing_zeros w64 mask

  long : length (take 16 bytes) ≡ 16
  long = length-take-le 16 bytes room

  any : 0 < mask_l (map (is_byte 92) (take 16 bytes))
  any = subst (λ n. 0 < n) e (let h : 0 < mask = omega (arith, some) in h)

  counted : run ≡ prefix_len (λ byte. not (is_byte 92 byte)) (take 16 bytes)
  counted = ap (trailing_zeros w64) e ∙ trailing_mask_l (is_byte 92) 64 (take 16 bytes) (omega (arith, long)) any

  near : run < 16
  near = let l = some_lane (is_byte 92) (take 16 bytes) any in omega (arith, counted, l, long)

  pub lowest_within : run ≤ length bytes
  lowest_within = omega (arith, near, room)

  pub lowest_before : list_all is_no_backslash (take run bytes) ≡ true
  lowest_before = list_all-from_AllPass is_no_backslash (take run bytes) (λ k d below.
      let l : k < run = omega (arith, below, length-take-le run bytes lowest_within) in
      ap is_no_backslash (get_or-take run bytes k d l) ∙ ap not (run_in_chunk_fails (is_byte 92) bytes 0 16 run d (omega (arith, room)) counted k (omega arith) (omega (arith, l))))

  pub lowest_found : is_byte 92 (get_or bytes run 0) ≡ true
  lowest_found = subst (λ k. is_byte 92 (get_or bytes k 0) ≡ true) (let n : 0 + run ≡ run = omega arith in n) (run_in_chunk_stops (is_byte 92) bytes 0 16 run 0 (omega (arith, room)) counted near)
