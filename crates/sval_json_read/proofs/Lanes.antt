-- Bytes that are looked at together, to find the first that is no digit, no white space, or escaped.
use Rattle.std.specs.Prelude.{◌≡◌, ℕ, ◌<◌, ◌≤◌, ◌%◌, ◌^◌, Bool, true, false, not, ◌&&◌, ◌||◌, ◌==◌, nat_lt, nat_le, cond, List, map, bit_and, bit_or, take, length, get_or, refl}
use Rattle.std.specs.Char.{is_ascii_digit}
use Rattle.std.specs.Int.{trailing_zeros}
use Rattle.std.specs.List.{AllPass, prefix_len}
use Rattle.std.specs.Simd.Lanes.{mask_l, top, zip2}
use Rattle.std.proofs.Common.{ap, ◌∙◌, subst, arith, replicate, w64}
use Rattle.std.proofs.lemmas.Bool.{ltb-true, ltb-false, leb-true, leb-false}
use Rattle.std.proofs.lemmas.List.{length-map, length-take-le, get_or-take}
use Rattle.std.proofs.lemmas.Simd.{mask_l-mod, trailing_mask_l, run_in_chunk_le, run_in_chunk_fails, zip2_splat, zip2_splat_left, zip2_of_maps, map-map}
use Rattle.sval_json.specs.Escape.{is_plain}
use Rattle.sval_json.specs.Grammar.{is_space}

-- what a comparison leaves in its lane
abbrev pub lane : Bool → ℕ
lane b = cond b 255 0

either_top : (a b : Bool) → top 7 (bit_or (lane (not a)) (lane (not b))) ≡ not (a && b)
either_top true true = refl
either_top true false = refl
either_top false true = refl
either_top false false = refl

none_top : (a b c d : Bool) → top 7 (bit_and (bit_and (lane (not a)) (lane (not b))) (bit_and (lane (not c)) (lane (not d)))) ≡ not (a || b || c || d)
none_top true true true true = refl
none_top true true true false = refl
none_top true true false true = refl
none_top true true false false = refl
none_top true false true true = refl
none_top true false true false = refl
none_top true false false true = refl
none_top true false false false = refl
none_top false true true true = refl
none_top false true true false = refl
none_top false true false true = refl
none_top false true false false = refl
none_top false false true true = refl
none_top false false true false = refl
none_top false false false true = refl
none_top false false false false = refl

any_top : (a b c : Bool) → top 7 (bit_or (bit_or (lane a) (lane b)) (lane c)) ≡ not (not (a || b || c))
any_top true true true = refl
any_top true true false = refl
any_top true false true = refl
any_top true false false = refl
any_top false true true = refl
any_top false true false = refl
any_top false false true = refl
any_top false false false = refl

less_is_not_more : (x y : ℕ) → nat_lt x y ≡ not (nat_le y x)
less_is_not_more x y = go (nat_lt x y) (nat_le y x) refl refl
  where
    go : (a b : Bool) → nat_lt x y ≡ a → nat_le y x ≡ b → a ≡ not b
    go true true e f = absurd (let l = ltb-true x y e in let m = leb-true y x f in omega (arith, l, m))
    go true false e f = refl
    go false true e f = refl
    go false false e f = absurd (let l = ltb-false x y e in let m = leb-false y x f in omega (arith, l, m))

digit_top : (x : ℕ) → top 7 (bit_or (lane (nat_lt x 48)) (lane (nat_lt 57 x))) ≡ not (is_ascii_digit x)
digit_top x =
    ap (λ b. top 7 (bit_or (lane b) (lane (nat_lt 57 x)))) (less_is_not_more x 48) ∙ ap (λ b. top 7 (bit_or (lane (not (nat_le 48 x))) (lane b))) (less_is_not_more 57 x)
    ∙ either_top (nat_le 48 x) (nat_le x 57)

-- a mask of as many lanes as there are bits
cut_mask : (test : ℕ → Bool) (bytes : List ℕ) → 16 ≤ length bytes → mask_l (map test (take 16 bytes)) % 2 ^ 64 ≡ mask_l (map test (take 16 bytes))
cut_mask test bytes room =
    let long : length (take 16 bytes) ≡ 16 = length-take-le 16 bytes room in
    mask_l-mod (map test (take 16 bytes)) 64 (omega (arith, length-map (take 16 bytes) test, long))

module _ (bytes : List ℕ) (room : 16 ≤ length bytes) where
  abbrev ahead : List ℕ
  ahead = take 16 bytes

  long : length ahead ≡ 16
  long = length-take-le 16 bytes room

  pub digit_mask : mask_l (map (top 7) (zip2 bit_or (zip2 (λ x y. lane (nat_lt x y)) ahead (replicate 16 48)) (zip2 (λ x y. lane (nat_lt x y)) (replicate 16 57) ahead))) % 2 ^ 64
      ≡ mask_l (map (λ byte. not (is_ascii_digit byte)) ahead)
  digit_mask =
      let below = zip2_splat (λ (x y : ℕ). lane (nat_lt x y)) ahead 16 48 long in
      let above = zip2_splat_left (λ (x y : ℕ). lane (nat_lt x y)) 57 16 ahead long in
      ap (λ ms. mask_l (map (top 7) ms) % 2 ^ 64) (zip2_of_maps bit_or (λ x. lane (nat_lt x 48)) (λ x. lane (nat_lt 57 x)) ahead below above)
      ∙ ap (λ ms. mask_l ms % 2 ^ 64) (map-map (top 7) (λ x. bit_or (lane (nat_lt x 48)) (lane (nat_lt 57 x))) ahead ∙ (λ i. map (λ x. digit_top x i) ahead))
      ∙ cut_mask (λ byte. not (is_ascii_digit byte)) bytes room

  pub space_mask : mask_l (map (top 7) (zip2 bit_and (zip2 bit_and (zip2 (λ x y. lane (not (x == y))) ahead (replicate 16 32)) (zip2 (λ x y. lane (not (x == y))) ahead (replicate 16 9)))
      (zip2 bit_and (zip2 (λ x y. lane (not (x == y))) ahead (replicate 16 10)) (zip2 (λ x y. lane (not (x == y))) ahead (replicate 16 13))))) % 2 ^ 64
      ≡ mask_l (map (λ byte. not (is_space byte)) ahead)
  space_mask =
      let no = λ (byte : ℕ). zip2_splat (λ (x y : ℕ). lane (not (x == y))) ahead 16 byte long in
      let blank = zip2_of_maps bit_and (λ x. lane (not (x == 32))) (λ x. lane (not (x == 9))) ahead (no 32) (no 9) in
      let break = zip2_of_maps bit_and (λ x. lane (not (x == 10))) (λ x. lane (not (x == 13))) ahead (no 10) (no 13) in
      ap (λ ms. mask_l (map (top 7) ms) % 2 ^ 64)
      (zip2_of_maps bit_and (λ x. bit_and (lane (not (x == 32))) (lane (not (x == 9)))) (λ x. bit_and (lane (not (x == 10))) (lane (not (x == 13)))) ahead blank break)
      ∙ ap (λ ms. mask_l ms % 2 ^ 64)
      (map-map (top 7) (λ x. bit_and (bit_and (lane (not (x == 32))) (lane (not (x == 9)))) (bit_and (lane (not (x == 10))) (lane (not (x == 13))))) ahead
      ∙ (λ i. map (λ x. none_top (x == 32) (x == 9) (x == 10) (x == 13) i) ahead))
      ∙ cut_mask (λ byte. not (is_space byte)) bytes room

  pub plain_mask : mask_l (map (top 7) (zip2 bit_or (zip2 bit_or (zip2 (λ x y. lane (nat_lt x y)) ahead (replicate 16 32)) (zip2 (λ x y. lane (x == y)) ahead (replicate 16 34)))
      (zip2 (λ x y. lane (x == y)) ahead (replicate 16 92)))) % 2 ^ 64
      ≡ mask_l (map (λ byte. not (is_plain byte)) ahead)
  plain_mask =
      let low = zip2_splat (λ (x y : ℕ). lane (nat_lt x y)) ahead 16 32 long in
      let same = λ (byte : ℕ). zip2_splat (λ (x y : ℕ). lane (x == y)) ahead 16 byte long in
      let two = zip2_of_maps bit_or (λ x. lane (nat_lt x 32)) (λ x. lane (x == 34)) ahead low (same 34) in
      ap (λ ms. mask_l (map (top 7) ms) % 2 ^ 64) (zip2_of_maps bit_or (λ x. bit_or (lane (nat_lt x 32)) (lane (x == 34))) (λ x. lane (x == 92)) ahead two (same 92))
      ∙ ap (λ ms. mask_l ms % 2 ^ 64)
      (map-map (top 7) (λ x. bit_or (bit_or (lane (nat_lt x 32)) (lane (x == 34))) (lane (x == 92))) ahead
      ∙ (λ i. map (λ x. any_top (nat_lt x 32) (x == 34) (x == 92) i) ahead))
      ∙ cut_mask (λ byte. not (is_plain byte)) bytes room

-- where some byte of these doesn't pass, the lowest bit of the mask tells how many before it do
module _ (test : ℕ → Bool) (bytes : List ℕ) (mask : ℕ) (room : 16 ≤ length bytes) (e : mask ≡ mask_l (map (λ byte. not (test byte)) (take 16 bytes))) (some : mask ≡ 0 → ⊥) where
  abbrev fails : ℕ → Bool
  fails byte = not (test byte)

  abbrev run : ℕ
  run = trailing_zeros w64 mask

  counted : run ≡ prefix_len (λ byte. not (fails byte)) (take 16 bytes)
  counted =
      let long : length (take 16 bytes) ≡ 16 = length-take-le 16 bytes room in
      let any : 0 < mask = omega (arith, some) in
      ap (trailing_zeros w64) e ∙ trailing_mask_l fails 64 (take 16 bytes) (omega (arith, long)) (subst (λ n. 0 < n) e any)

  pub lowest_within : run ≤ length bytes
  lowest_within =
      let near = run_in_chunk_le fails bytes 0 16 run 0 (omega (arith, room)) counted in
      omega (arith, near, room)

  pub lowest_passes : AllPass test (take run bytes)
  lowest_passes = λ k d below.
      let near : k < run = omega (arith, below, length-take-le run bytes lowest_within) in
      ap test (get_or-take run bytes k d near) ∙ passed (test (get_or bytes k d)) (run_in_chunk_fails fails bytes 0 16 run d (omega (arith, room)) counted k (omega arith) (omega (arith, near)))
    where
      passed : (b : Bool) → not b ≡ false → b ≡ true
      passed true h = refl
      passed false h = cc h
