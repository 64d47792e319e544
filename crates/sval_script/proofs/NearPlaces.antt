-- What a mask of a run's first bytes says of the first place that passes a test.
use Rattle.std.specs.Prelude.{◌≡◌, ℕ, ◌+◌, ◌-◌, ◌%◌, ◌^◌, ◌<◌, ◌≤◌, Bool, true, false, ◌||◌, ◌==◌, nat_eq, cond, List, Option, Some, None, option_map, length, take, drop, get_or, map, bit_or, refl}
use Rattle.std.specs.Int.{bit_at}
use Rattle.std.specs.Simd.Lanes.{mask_l, top, zip2}
use Rattle.std.proofs.Common.{arith, sym, ap, subst, ◌∙◌, replicate, w8, inl, inr}
use Rattle.std.proofs.lemmas.Bool.{cases_lt}
use Rattle.std.proofs.lemmas.List.{length-map, length-take-le, get_or-map, get_or-take, get_or-drop, length-drop, get_or_past, take_rest}
use Rattle.std.proofs.lemmas.Simd.{bit_mask_l, mask_l-mod, tops_compared, zip2_splat, zip2_of_maps, map-map}
use Rattle.memchr.specs.Find.{Nowhere, IsFirstByte, Passes, is_byte, is_byte2}
use Rattle.sval_script.specs.Runs.{MarksFirst}

-- no bit is set
abbrev pub IsEmpty : ℕ → Type 0
IsEmpty mask = Nowhere (λ k. bit_at mask k ≡ 1) 0 64

-- a place behind the first bytes
behind : (test : ℕ → Bool) (bytes : List ℕ) (n j : ℕ) → n ≤ j → Passes test bytes j → Passes test (drop n bytes) (j - n)
behind test bytes n j past passes =
    let at : n + (j - n) ≡ j = omega arith in
    ap test (get_or-drop n bytes (j - n) 0 ∙ ap (λ k. get_or bytes k 0) at) ∙ passes

none_before : {test : ℕ → Bool} {bytes : List ℕ} {n mask : ℕ} → MarksFirst test bytes n mask → n ≤ 64 → IsEmpty mask
    → (m : ℕ) → Nowhere (Passes test (drop n bytes)) 0 m → Nowhere (Passes test bytes) 0 (n + m)
none_before {test} {bytes} {n} marks small none m later j low high passes =
    elim (cases_lt j n) [
      | inl near ↦ none j low (omega arith) (marks.each j near passes)
      | inr past ↦ later (j - n) (omega arith) (omega arith) (behind test bytes n j past passes)
    ]

far_from : {test : ℕ → Bool} {bytes : List ℕ} {n mask : ℕ} → MarksFirst test bytes n mask → n ≤ length bytes → n ≤ 64 → IsEmpty mask
    → (place : Option ℕ) → IsFirstByte test (drop n bytes) place → IsFirstByte test bytes (option_map (λ k. n + k) place)
far_from {bytes = bytes} {n = n} marks room small none None later = λ j low high.
    none_before marks small none (length (drop n bytes)) later j low (omega (arith, length-drop n bytes))
far_from {test} {bytes} {n} marks room small none (Some k) found = (
  record {
    low = omega arith;
    high = omega (arith, length-drop n bytes, found.0.high);
    before = none_before marks small none k found.0.before;
  },
  ap test (sym (get_or-drop n bytes k 0)) ∙ found.1,
)

-- if none of the first bytes passes, the first that does is behind them
pub far_place : {test : ℕ → Bool} {bytes : List ℕ} {n mask : ℕ} → MarksFirst test bytes n mask → n ≤ length bytes → n ≤ 64 → IsEmpty mask
    → (place : Option ℕ) → IsFirstByte test (take (length bytes - n) (drop n bytes)) place → IsFirstByte test bytes (option_map (λ k. n + k) place)
far_place {test} {bytes} {n} marks room small none place found =
    far_from marks room small none place (subst (λ rest. IsFirstByte test rest place) (take_rest bytes n) found)

-- a bit that stands for a test
set_passes : (b : Bool) → cond {A = ℕ} b 1 0 ≡ 1 → b ≡ true
set_passes true h = refl
set_passes false h = absurd (omega arith)

marks_taken : (test : ℕ → Bool) (bytes : List ℕ) (n : ℕ) → n ≤ length bytes → MarksFirst test bytes n (mask_l (map test (take n bytes)))
marks_taken test bytes n room =
    let tests = map test (take n bytes) in
    let long : length (take n bytes) ≡ n = length-take-le n bytes room in
    let at = λ (k : ℕ) (below : k < n). get_or-map test (take n bytes) k 0 false (omega arith) ∙ ap test (get_or-take n bytes k 0 below) in
    record {
      each = λ k below passes. bit_mask_l tests k ∙ ap (λ b. cond b 1 0) (at k below ∙ passes);
      only = λ k set.
          elim (cases_lt k n) [
            | inl below ↦ (below, sym (at k below) ∙ set_passes (get_or tests k false) (sym (bit_mask_l tests k) ∙ set))
            | inr past ↦
                let none : get_or tests k false ≡ false = get_or_past tests k false (omega (arith, length-map (take n bytes) test)) in
                let never : true ≡ false = sym (set_passes (get_or tests k false) (sym (bit_mask_l tests k) ∙ set)) ∙ none in
                cc never
          ];
    }

-- the mask of lanes, each of which tells whether a byte passes
pub marks_first : (test : ℕ → Bool) (bytes lanes : List ℕ) (n : ℕ) → n ≤ length bytes → n ≤ 64
    → map (top 7) lanes ≡ map test (take n bytes) → MarksFirst test bytes n (mask_l (map (top 7) lanes) % 2 ^ 64)
marks_first test bytes lanes n room small tops =
    let tests = map test (take n bytes) in
    let same : mask_l (map (top 7) lanes) % 2 ^ 64 ≡ mask_l tests =
    ap (λ ms. mask_l ms % 2 ^ 64) tops ∙ mask_l-mod tests 64 (omega (arith, length-map (take n bytes) test, length-take-le n bytes room)) in
    subst (MarksFirst test bytes n) (sym same) (marks_taken test bytes n room)

-- what a comparison of a byte leaves in its lane
abbrev pub lane : ℕ → ℕ → ℕ
lane x byte = cond (x == byte) 255 0

-- lanes that were compared with one byte
pub byte_tops : (byte : ℕ) (run : List ℕ) (n : ℕ) → length run ≡ n → map (top 7) (zip2 lane run (replicate n byte)) ≡ map (is_byte byte) run
byte_tops byte run n long = tops_compared w8 nat_eq run (replicate n byte) ∙ zip2_splat nat_eq run n byte long

either_top : (a b : Bool) → top 7 (bit_or (cond a 255 0) (cond b 255 0)) ≡ (a || b)
either_top true true = refl
either_top true false = refl
either_top false true = refl
either_top false false = refl

-- lanes that were compared with either of two bytes
pub either_tops : (one other : ℕ) (run : List ℕ) (n : ℕ) → length run ≡ n
    → map (top 7) (zip2 bit_or (zip2 lane run (replicate n one)) (zip2 lane run (replicate n other))) ≡ map (is_byte2 one other) run
either_tops one other run n long =
    let compared = λ (byte : ℕ). zip2_splat lane run n byte long in
    ap (map (top 7)) (zip2_of_maps bit_or (λ x. lane x one) (λ x. lane x other) run (compared one) (compared other))
    ∙ map-map (top 7) (λ x. bit_or (lane x one) (lane x other)) run
    ∙ (λ i. map (λ x. either_top (x == one) (x == other) i) run)
