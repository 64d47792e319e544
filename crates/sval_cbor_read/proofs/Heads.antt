-- A head that is written is read, and so are the bytes of a number.
use Rattle.std.specs.Prelude.{◌≡◌, ℕ, zero, suc, ◌+◌, ◌*◌, ◌/◌, ◌%◌, ◌^◌, ◌<◌, ◌≤◌, Bool, true, false, ◌==◌, nat_lt, nat_le, if◌then◌else◌, List, [], ◌∷◌, ◌++◌, length, Some, refl}
use Rattle.std.specs.List.{AllByRecursion}
use Rattle.std.specs.Int.{byte_at, bytes_high_first}
use Rattle.std.specs.Int.Digits.{number_from_digits}
use Rattle.std.proofs.Common.{take, drop, get_or, sym, ap, ◌∙◌, arith, length-append}
use Rattle.std.proofs.lemmas.Bool.Decides.{nat_tests}
use Rattle.std.proofs.lemmas.List.{take_at, drop_at}
use Rattle.std.proofs.lemmas.Int.Digits.{number_push, number_lt}
use Rattle.std.proofs.Math.Nat.{pow-suc, pow-succ', pow-le-pow_right, div-div-eq-div-mul}
use Rattle.sval_cbor.specs.Cbor.{head_bytes, without_zero_bytes, short_bytes}
use Rattle.sval_cbor_read.specs.Items.{head, wide_head, head_at_front}

-- ---- the bytes of a number

-- the byte above the lowest is the lowest of the number without that
higher : (i n : ℕ) → byte_at (suc i) n ≡ byte_at i (n / 256)
higher zero n = refl
higher (suc i) n = ap (λ x. n / x % 256) (pow-succ' 256 (suc i)) ∙ ap (λ x. x % 256) (sym (div-div-eq-div-mul n 256 (256 ^ suc i)))

-- the lowest byte stands last
lowest_last : (width n : ℕ) → bytes_high_first (suc width) n ≡ bytes_high_first width (n / 256) ++ ((n % 256) ∷ [])
lowest_last zero n = refl
lowest_last (suc width) n = ap (λ x. x ∷ bytes_high_first (suc width) n) (higher width n) ∙ ap (λ x. byte_at width (n / 256) ∷ x) (lowest_last width n)

pub bytes_length : (width n : ℕ) → length (bytes_high_first width n) ≡ width
bytes_length zero n = refl
bytes_length (suc width) n = omega (arith, bytes_length width n)

pub bytes_value : (width n : ℕ) → n < 256 ^ width → number_from_digits 256 (bytes_high_first width n) ≡ n
bytes_value zero n h = omega arith
bytes_value (suc width) n h =
    let e = pow-suc 256 width in
    let small : n / 256 < 256 ^ width = omega arith in
    ap (number_from_digits 256) (lowest_last width n) ∙ number_push 256 (bytes_high_first width (n / 256)) (n % 256)
    ∙ ap (λ x. x * 256 + n % 256) (bytes_value width (n / 256) small) ∙ omega arith

-- the bytes of a slice are bytes
pub all_bytes : (bytes : List ℕ) → ((i : ℕ) → get_or bytes i 0 < 256) → AllByRecursion (λ byte. byte < 256) bytes
all_bytes [] h = tt
all_bytes (byte ∷ bytes) h = (h 0, all_bytes bytes (λ i. h (suc i)))

pub all_front : (n : ℕ) (bytes : List ℕ) → AllByRecursion (λ byte. byte < 256) bytes → AllByRecursion (λ byte. byte < 256) (take n bytes)
all_front zero bytes h = tt
all_front (suc n) [] h = tt
all_front (suc n) (byte ∷ bytes) h = (h.0, all_front n bytes h.1)

pub all_after : (n : ℕ) (bytes : List ℕ) → AllByRecursion (λ byte. byte < 256) bytes → AllByRecursion (λ byte. byte < 256) (drop n bytes)
all_after zero bytes h = h
all_after (suc n) [] h = tt
all_after (suc n) (byte ∷ bytes) h = all_after n bytes h.1

-- so many bytes are a number below that power
pub bytes_fit : (width : ℕ) (bytes : List ℕ) → AllByRecursion (λ byte. byte < 256) bytes → length bytes ≤ width → number_from_digits 256 bytes < 256 ^ width
bytes_fit width bytes all short =
    let below = number_lt 256 bytes all in
    let more : 256 ^ length bytes ≤ 256 ^ width = pow-le-pow_right (omega arith) short in
    omega arith

without_zeros_length : (bytes : List ℕ) → length (without_zero_bytes bytes) ≤ length bytes
unfolding without_zero_bytes
without_zeros_length [] = omega arith
without_zeros_length (byte ∷ bytes) = elim (byte == 0) as (λ b. length (if b then without_zero_bytes bytes else byte ∷ bytes) ≤ length (byte ∷ bytes)) [ true ↦ omega (arith, without_zeros_length bytes) | false ↦ omega arith ]

without_zeros_value : (bytes : List ℕ) → number_from_digits 256 (without_zero_bytes bytes) ≡ number_from_digits 256 bytes
unfolding without_zero_bytes
without_zeros_value [] = refl
without_zeros_value (byte ∷ bytes) = go (byte == 0) refl (without_zeros_value bytes)
  where
    go : (b : Bool) → (byte == 0) ≡ b → number_from_digits 256 (without_zero_bytes bytes) ≡ number_from_digits 256 bytes
        → number_from_digits 256 (if b then without_zero_bytes bytes else byte ∷ bytes) ≡ number_from_digits 256 (byte ∷ bytes)
    go true e h = let f : byte ≡ 0 = grind (arith, nat_tests) in h ∙ ap (λ x. number_from_digits 256 (x ∷ bytes)) (sym f)
    go false e h = refl

-- the fewest bytes of a number are at most 16, and are the number
pub short_length : (n : ℕ) → length (short_bytes n) ≤ 16
unfolding short_bytes
short_length n = omega (arith, without_zeros_length (bytes_high_first 16 n), bytes_length 16 n)

pub short_value : (n : ℕ) → n < 2 ^ 128 → number_from_digits 256 (short_bytes n) ≡ n
unfolding short_bytes
short_value n h = without_zeros_value (bytes_high_first 16 n) ∙ bytes_value 16 n (omega arith)

-- ---- heads

wide_read : (major width n : ℕ) (rest : List ℕ) → n < 256 ^ width → wide_head major width (bytes_high_first width n ++ rest) ≡ Some (head major n rest)
wide_read major width n rest h =
    let bs = bytes_high_first width n in
    let long : nat_le width (length (bs ++ rest)) ≡ true = let l : width ≤ length (bs ++ rest) = omega (arith, length-append bs rest, bytes_length width n) in grind (arith, nat_tests) in
    rw (long, take_at bs rest width (bytes_length width n), drop_at bs rest width (bytes_length width n), bytes_value width n h) refl

-- the major type and the low bits of a first byte
bits_of : (major low : ℕ) → low < 32 → ((32 * major + low) / 32 ≡ major) × ((32 * major + low) % 32 ≡ low)
bits_of major low h = (omega arith, omega arith)

small_read : (major n : ℕ) (rest : List ℕ) → n < 24 → head_at_front ((32 * major + n) ∷ rest) ≡ Some (head major n rest)
unfolding head_at_front
small_read major n rest h =
    let bits = bits_of major n (omega arith) in
    let g : nat_lt n 24 ≡ true = grind (arith, nat_tests) in
    rw (bits.0, bits.1, g) refl

one_byte : (major : ℕ) (bytes : List ℕ) → head_at_front ((32 * major + 24) ∷ bytes) ≡ wide_head major 1 bytes
unfolding head_at_front
one_byte major bytes = let bits = bits_of major 24 (omega arith) in rw (bits.0, bits.1) refl

two_bytes : (major : ℕ) (bytes : List ℕ) → head_at_front ((32 * major + 25) ∷ bytes) ≡ wide_head major 2 bytes
unfolding head_at_front
two_bytes major bytes = let bits = bits_of major 25 (omega arith) in rw (bits.0, bits.1) refl

four_bytes : (major : ℕ) (bytes : List ℕ) → head_at_front ((32 * major + 26) ∷ bytes) ≡ wide_head major 4 bytes
unfolding head_at_front
four_bytes major bytes = let bits = bits_of major 26 (omega arith) in rw (bits.0, bits.1) refl

eight_bytes : (major : ℕ) (bytes : List ℕ) → head_at_front ((32 * major + 27) ∷ bytes) ≡ wide_head major 8 bytes
unfolding head_at_front
eight_bytes major bytes = let bits = bits_of major 27 (omega arith) in rw (bits.0, bits.1) refl

-- a head of the least width is read
pub head_read : (major n : ℕ) (rest : List ℕ) → n < 2 ^ 64 → head_at_front (head_bytes major n ++ rest) ≡ Some (head major n rest)
unfolding head_bytes
head_read major n rest bound = go (nat_lt n 24) (nat_lt n (2 ^ 8)) (nat_lt n (2 ^ 16)) (nat_lt n (2 ^ 32)) refl refl refl refl
  where
    go : (a b c d : Bool) → nat_lt n 24 ≡ a → nat_lt n (2 ^ 8) ≡ b → nat_lt n (2 ^ 16) ≡ c → nat_lt n (2 ^ 32) ≡ d
        → head_at_front ((if a then (32 * major + n) ∷ [] else if b then (32 * major + 24) ∷ bytes_high_first 1 n else if c then (32 * major + 25) ∷ bytes_high_first 2 n else if d then (32 * major + 26) ∷ bytes_high_first 4 n else (32 * major + 27) ∷ bytes_high_first 8 n) ++ rest) ≡ Some (head major n rest)
    go true b c d e f g h = let less : n < 24 = grind (arith, nat_tests) in small_read major n rest less
    go false true c d e f g h = let less : n < 2 ^ 8 = grind (arith, nat_tests) in one_byte major (bytes_high_first 1 n ++ rest) ∙ wide_read major 1 n rest (omega arith)
    go false false true d e f g h = let less : n < 2 ^ 16 = grind (arith, nat_tests) in two_bytes major (bytes_high_first 2 n ++ rest) ∙ wide_read major 2 n rest (omega arith)
    go false false false true e f g h = let less : n < 2 ^ 32 = grind (arith, nat_tests) in four_bytes major (bytes_high_first 4 n ++ rest) ∙ wide_read major 4 n rest (omega arith)
    go false false false false e f g h = eight_bytes major (bytes_high_first 8 n ++ rest) ∙ wide_read major 8 n rest (omega arith)
