-- No head of a number is shorter than the one that is written.
use Rattle.std.specs.Prelude.{◌≡◌, ℕ, ◌+◌, ◌*◌, ◌/◌, ◌%◌, ◌^◌, ◌<◌, ◌≤◌, Bool, true, false, ◌==◌, nat_lt, nat_le, if◌then◌else◌, List, [], ◌∷◌, length, take, drop, Option, Some, None, ⊤, refl}
use Rattle.std.specs.List.{AllByRecursion}
use Rattle.std.specs.Int.{bytes_high_first}
use Rattle.std.specs.Int.Digits.{number_from_digits}
use Rattle.std.proofs.Common.{ap, subst, arith}
use Rattle.std.proofs.lemmas.Bool.Decides.{nat_tests}
use Rattle.std.proofs.lemmas.List.{length-take-le, length-drop}
use Rattle.std.proofs.lemmas.Int.Digits.{number_lt}
use Rattle.sval_cbor.specs.Cbor.{head_bytes}
use Rattle.sval_cbor_read.specs.Items.{ItemHead, head, wide_head, head_at_front}
use Rattle.sval_cbor_read.proofs.Heads.{bytes_length, all_front}

-- how long a number's head is at most
abbrev IsBounded : ℕ → List ℕ → Type 0
IsBounded n bytes = (n < 24 → length bytes ≤ 1) × (n < 2 ^ 8 → length bytes ≤ 2) × (n < 2 ^ 16 → length bytes ≤ 3) × (n < 2 ^ 32 → length bytes ≤ 5) × (length bytes ≤ 9)

head_length : (major n : ℕ) → IsBounded n (head_bytes major n)
unfolding head_bytes
head_length major n = go (nat_lt n 24) (nat_lt n (2 ^ 8)) (nat_lt n (2 ^ 16)) (nat_lt n (2 ^ 32)) refl refl refl refl
  where
    go : (a b c d : Bool) → nat_lt n 24 ≡ a → nat_lt n (2 ^ 8) ≡ b → nat_lt n (2 ^ 16) ≡ c → nat_lt n (2 ^ 32) ≡ d
        → IsBounded n (if a then (32 * major + n) ∷ [] else if b then (32 * major + 24) ∷ bytes_high_first 1 n else if c then (32 * major + 25) ∷ bytes_high_first 2 n else if d then (32 * major + 26) ∷ bytes_high_first 4 n else (32 * major + 27) ∷ bytes_high_first 8 n)
    go true b c d e f g h = ((λ l. omega arith), (λ l. omega arith), (λ l. omega arith), (λ l. omega arith), omega arith)
    go false true c d e f g h = let s = bytes_length 1 n in let k : 24 ≤ n = grind (arith, nat_tests) in ((λ l. omega arith), (λ l. omega arith), (λ l. omega arith), (λ l. omega arith), omega arith)
    go false false true d e f g h = let s = bytes_length 2 n in let k : 2 ^ 8 ≤ n = grind (arith, nat_tests) in ((λ l. omega arith), (λ l. omega arith), (λ l. omega arith), (λ l. omega arith), omega arith)
    go false false false true e f g h = let s = bytes_length 4 n in let k : 2 ^ 16 ≤ n = grind (arith, nat_tests) in ((λ l. omega arith), (λ l. omega arith), (λ l. omega arith), (λ l. omega arith), omega arith)
    go false false false false e f g h = let s = bytes_length 8 n in let k : 2 ^ 32 ≤ n = grind (arith, nat_tests) in ((λ l. omega arith), (λ l. omega arith), (λ l. omega arith), (λ l. omega arith), omega arith)

wide_length : (m width major n : ℕ) (bytes rest : List ℕ) → AllByRecursion (λ d. d < 256) bytes → wide_head m width bytes ≡ Some (head major n rest)
    → (major ≡ m) × (n < 256 ^ width) × (length rest + width ≡ length bytes)
wide_length m width major n bytes rest all e = go (nat_le width (length bytes)) refl e
  where
    go : (b : Bool) → nat_le width (length bytes) ≡ b → (let o : Option ItemHead = if b then Some (head m (number_from_digits 256 (take width bytes)) (drop width bytes)) else None in o) ≡ Some (head major n rest)
        → (major ≡ m) × (n < 256 ^ width) × (length rest + width ≡ length bytes)
    go true f g =
        let long : width ≤ length bytes = grind (arith, nat_tests) in
        let is : number_from_digits 256 (take width bytes) ≡ n = cc in
        let left : drop width bytes ≡ rest = cc in
        let below = number_lt 256 (take width bytes) (all_front width bytes all) in
        let taken = length-take-le width bytes long in
        (cc, subst (λ x. x < 256 ^ width) is (subst (λ k. number_from_digits 256 (take width bytes) < 256 ^ k) taken below), omega (arith, ap length left, length-drop width bytes))
    go false f g = absurd (cc g)

-- a head that is read is no shorter than the one that is written for its number
pub head_least : (bytes : List ℕ) (major n : ℕ) (rest : List ℕ) → AllByRecursion (λ d. d < 256) bytes → head_at_front bytes ≡ Some (head major n rest) → length (head_bytes major n) + length rest ≤ length bytes
unfolding head_at_front
head_least [] major n rest all e = absurd (cc e)
head_least (first ∷ bytes) major n rest all e = go (nat_lt (first % 32) 24) (first % 32 == 24) (first % 32 == 25) (first % 32 == 26) (first % 32 == 27) refl e
  where
    go : (a b c d f : Bool) → nat_lt (first % 32) 24 ≡ a
        → (let o : Option ItemHead = if a then Some (head (first / 32) (first % 32) bytes) else if b then wide_head (first / 32) 1 bytes else if c then wide_head (first / 32) 2 bytes else if d then wide_head (first / 32) 4 bytes else if f then wide_head (first / 32) 8 bytes else None in o) ≡ Some (head major n rest)
        → length (head_bytes major n) + length rest ≤ length (first ∷ bytes)
    go true b c d f is g =
        let same : first % 32 ≡ n = cc in
        let left : bytes ≡ rest = cc in
        let less : first % 32 < 24 = grind (arith, nat_tests) in
        omega (arith, (head_length major n).0 (omega arith), ap length left)
    go false true c d f is g = let w = wide_length (first / 32) 1 major n bytes rest all.1 g in omega (arith, (head_length major n).1 (omega (arith, w.1)), w.2)
    go false false true d f is g = let w = wide_length (first / 32) 2 major n bytes rest all.1 g in omega (arith, (head_length major n).2 (omega (arith, w.1)), w.2)
    go false false false true f is g = let w = wide_length (first / 32) 4 major n bytes rest all.1 g in omega (arith, (head_length major n).3 (omega (arith, w.1)), w.2)
    go false false false false true is g = let w = wide_length (first / 32) 8 major n bytes rest all.1 g in omega (arith, (head_length major n).4, w.2)
    go false false false false false is g = absurd (cc g)

-- ---- what is read of bytes

-- a head that is read of bytes has a major type below 8, a number of 64 bits, and fewer bytes after it
abbrev pub IsBoundedHead : List ℕ → Option ItemHead → Type 0
IsBoundedHead bytes None = ⊤
IsBoundedHead bytes (Some (head major n after)) = (major < 8) × (n < 2 ^ 64) × (length after < length bytes)

bounded_wide : (first m width : ℕ) (bytes : List ℕ) (o : Option ItemHead) → m < 8 → 256 ^ width ≤ 2 ^ 64 → AllByRecursion (λ d. d < 256) bytes → wide_head m width bytes ≡ o → IsBoundedHead (first ∷ bytes) o
bounded_wide first m width bytes None h k all e = tt
bounded_wide first m width bytes (Some (head major n after)) h k all e =
    let w = wide_length m width major n bytes after all e in (omega (arith, w.0), omega (arith, w.1), omega (arith, w.2))

pub head_bounded : (bytes : List ℕ) → AllByRecursion (λ d. d < 256) bytes → IsBoundedHead bytes (head_at_front bytes)
unfolding head_at_front
head_bounded [] all = tt
head_bounded (first ∷ bytes) all = go (nat_lt (first % 32) 24) (first % 32 == 24) (first % 32 == 25) (first % 32 == 26) (first % 32 == 27) refl
  where
    go : (a b c d f : Bool) → nat_lt (first % 32) 24 ≡ a
        → IsBoundedHead (first ∷ bytes) (if a then Some (head (first / 32) (first % 32) bytes) else if b then wide_head (first / 32) 1 bytes else if c then wide_head (first / 32) 2 bytes else if d then wide_head (first / 32) 4 bytes else if f then wide_head (first / 32) 8 bytes else None)
    go true b c d f is = let less : first % 32 < 24 = grind (arith, nat_tests) in (omega (arith, all.0), omega arith, omega arith)
    go false true c d f is = bounded_wide first (first / 32) 1 bytes (wide_head (first / 32) 1 bytes) (omega (arith, all.0)) (omega arith) all.1 refl
    go false false true d f is = bounded_wide first (first / 32) 2 bytes (wide_head (first / 32) 2 bytes) (omega (arith, all.0)) (omega arith) all.1 refl
    go false false false true f is = bounded_wide first (first / 32) 4 bytes (wide_head (first / 32) 4 bytes) (omega (arith, all.0)) (omega arith) all.1 refl
    go false false false false true is = bounded_wide first (first / 32) 8 bytes (wide_head (first / 32) 8 bytes) (omega (arith, all.0)) (omega arith) all.1 refl
    go false false false false false is = tt
