-- Operands of names and numbers, and the calls with their operands.
use Rattle.std.proofs.Common.{◌≡◌, ℕ, ◌+◌, ◌*◌, ◌/◌, ◌%◌, ◌^◌, ◌<◌, ◌≤◌, Bool, true, false, cond, ltb, eqb, List, ◌++◌, Option, refl, sym, ap, ◌∙◌, arith, lit≤}
use Rattle.std.specs.Prelude.{IfSome, ℤ, pos, negsuc}
use Rattle.std.specs.Str.{is_utf8}
use Rattle.std.proofs.lemmas.Bool.{ltb-true, lt-ltb, eqb-true, eqb-false}
use Rattle.sval_label.specs.Calls.{Tag, Label, Index, Name, IntType, U8, U16, U32, U64, U128, I8, I16, I32, I64, I128}
use Rattle.sval_label.specs.Ranges.{is_unsigned, is_signed, is_of_type, is_index}
use Rattle.sval_label.specs.Tags.{is_tag_name}
use Rattle.sval_tape.specs.Tapes.{leb128, zigzag, block, optional, size_bytes, tag_bytes, label_bytes, index_bytes, name_bytes, int_bytes}
use Rattle.sval_tape.specs.Reading.{seen_at, kept_at, leb128_at, unzigzag, int_at, text_at, size_at, tag_at, tag_option_at, label_of, label_at, index_number_at, index_of_parts, index_at, name_of_parts, label_and_index_at, name_at_front, name_and_size_at, field_at, place_at, label_then_index_at, field_place_at}
use Rattle.sval_tape.specs.Taped.{IsTapedText, IsTapedTag, IsTapedSize, IsTapedLabel, IsTapedIndex, IsTapedName}
use Rattle.sval_tape.proofs.OperandReads.{IsOperand, same_operand, seen_operand, kept_operand, optional_operand, both_operand, leb128_operand, block_operand}

-- ---- numbers with a sign

pub unzigzag-zigzag : (z : ℤ) → unzigzag (zigzag z) ≡ z
unzigzag-zigzag (pos n) =
    let even : 2 * n % 2 ≡ 0 = omega arith in let half : 2 * n / 2 ≡ n = omega arith in
    ap (λ k. cond (eqb k 0) (pos (2 * n / 2)) (negsuc (2 * n / 2))) even ∙ ap pos half
unzigzag-zigzag (negsuc n) =
    let odd : (2 * n + 1) % 2 ≡ 1 = omega arith in let half : (2 * n + 1) / 2 ≡ n = omega arith in
    ap (λ k. cond (eqb k 0) (pos ((2 * n + 1) / 2)) (negsuc ((2 * n + 1) / 2))) odd ∙ ap negsuc half

pub zigzag-unzigzag : (n : ℕ) → zigzag (unzigzag n) ≡ n
zigzag-unzigzag n = by_test (eqb (n % 2) 0) refl
  where
    by_test : (b : Bool) → eqb (n % 2) 0 ≡ b → zigzag (unzigzag n) ≡ n
    by_test true p =
        let even : n % 2 ≡ 0 = eqb-true (n % 2) 0 p in
        let whole : 2 * (n / 2) ≡ n = omega arith in
        ap (λ b. zigzag (cond b (pos (n / 2)) (negsuc (n / 2)))) p ∙ whole
    by_test false p =
        let odd : n % 2 ≡ 1 = let never : n % 2 ≡ 0 → ⊥ = eqb-false (n % 2) 0 p in omega arith in
        let whole : 2 * (n / 2) + 1 ≡ n = omega arith in
        ap (λ b. zigzag (cond b (pos (n / 2)) (negsuc (n / 2)))) p ∙ whole

signed_small : (bits : ℕ) → 2 ^ bits ≤ 2 ^ 127 → (z : ℤ) → is_signed bits z ≡ true → zigzag z < 2 ^ 128
signed_small bits le (pos n) h = let lt : n < 2 ^ bits = ltb-true n (2 ^ bits) h in omega arith
signed_small bits le (negsuc n) h = let lt : n < 2 ^ bits = ltb-true n (2 ^ bits) h in omega arith

index_small : (z : ℤ) → is_index z ≡ true → zigzag z < 2 ^ 128
index_small (pos n) h = let lt : n < 2 ^ 64 = ltb-true n (2 ^ 64) h in omega arith
index_small (negsuc n) h = let lt : n < 2 ^ 63 = ltb-true n (2 ^ 63) h in omega arith

-- a number that stands for another one, which a test keeps
number_operand : (test : ℤ → Bool) (view : ℕ → ℤ) (now : ℤ → List ℕ) → ((z : ℤ) → test z ≡ true → (n : ℕ) × (n < 2 ^ 128) × (view n ≡ z) × (now z ≡ leb128 n))
    → ((n : ℕ) → now (view n) ≡ leb128 n) → IsOperand (λ z. test z ≡ true) now (kept_at test (seen_at view leb128_at))
number_operand test view now back put =
    let Made : ℤ → Type 0 = λ z. (n : ℕ) × (n < 2 ^ 128) × (view n ≡ z) × (now z ≡ leb128 n) in
    let seen : IsOperand Made now (seen_at view leb128_at) = seen_operand leb128_operand Made now view (λ z made. made) (λ n small. ((n, small, refl, put n), put n)) in
    same_operand (kept_operand seen test) (λ z. test z ≡ true) (λ z passed. (back z passed, passed)) (λ z fits. fits.1)

natural_back : (bits : ℕ) → 2 ^ bits ≤ 2 ^ 128 → (now : ℤ → List ℕ) → ((n : ℕ) → now (pos n) ≡ leb128 n) → (z : ℤ) → is_unsigned bits z ≡ true
    → (n : ℕ) × (n < 2 ^ 128) × (pos n ≡ z) × (now z ≡ leb128 n)
natural_back bits le now put (pos n) h = let lt : n < 2 ^ bits = ltb-true n (2 ^ bits) h in (n, omega arith, refl, put n)
natural_back bits le now put (negsuc n) h = absurd (cc h)

natural_operand : (bits : ℕ) → 2 ^ bits ≤ 2 ^ 128 → (now : ℤ → List ℕ) → ((n : ℕ) → now (pos n) ≡ leb128 n) → IsOperand (λ z. is_unsigned bits z ≡ true) now (kept_at (is_unsigned bits) (seen_at pos leb128_at))
natural_operand bits le now put = number_operand (is_unsigned bits) pos now (natural_back bits le now put) put

signed_operand : (bits : ℕ) → 2 ^ bits ≤ 2 ^ 127 → (now : ℤ → List ℕ) → ((z : ℤ) → now z ≡ leb128 (zigzag z)) → IsOperand (λ z. is_signed bits z ≡ true) now (kept_at (is_signed bits) (seen_at unzigzag leb128_at))
signed_operand bits le now put =
    number_operand (is_signed bits) unzigzag now (λ z h. (zigzag z, signed_small bits le z h, unzigzag-zigzag z, put z)) (λ n. put (unzigzag n) ∙ ap leb128 (zigzag-unzigzag n))

pub int_operand : (type : IntType) → IsOperand (λ z. is_of_type type z ≡ true) (int_bytes type) (int_at type)
unfolding int_at
int_operand U8 = natural_operand 8 (lit≤ tt) (int_bytes U8) (λ n. refl)
int_operand U16 = natural_operand 16 (lit≤ tt) (int_bytes U16) (λ n. refl)
int_operand U32 = natural_operand 32 (lit≤ tt) (int_bytes U32) (λ n. refl)
int_operand U64 = natural_operand 64 (lit≤ tt) (int_bytes U64) (λ n. refl)
int_operand U128 = natural_operand 128 (lit≤ tt) (int_bytes U128) (λ n. refl)
int_operand I8 = signed_operand 7 (lit≤ tt) (int_bytes I8) (λ z. refl)
int_operand I16 = signed_operand 15 (lit≤ tt) (int_bytes I16) (λ z. refl)
int_operand I32 = signed_operand 31 (lit≤ tt) (int_bytes I32) (λ z. refl)
int_operand I64 = signed_operand 63 (lit≤ tt) (int_bytes I64) (λ z. refl)
int_operand I128 = signed_operand 127 (lit≤ tt) (int_bytes I128) (λ z. refl)

-- ---- texts and names

pub size_operand : IsOperand IsTapedSize size_bytes size_at
unfolding size_at
size_operand =
    optional_operand (same_operand (kept_operand leb128_operand (λ n. ltb n (2 ^ 64))) (λ n. n < 2 ^ 64) (λ n small. (omega arith, lt-ltb n (2 ^ 64) small)) (λ n fits. ltb-true n (2 ^ 64) fits.1))

pub text_operand : IsOperand IsTapedText block text_at
unfolding text_at
text_operand = kept_operand block_operand is_utf8

pub tag_operand : IsOperand IsTapedTag block tag_at
unfolding tag_at
tag_operand = kept_operand block_operand is_tag_name

tag_option_operand : IsOperand (λ tag. IfSome tag IsTapedTag) tag_bytes tag_option_at
unfolding tag_option_at
tag_option_operand = optional_operand tag_operand

label_operand : IsOperand IsTapedLabel label_bytes label_at
unfolding label_at
label_operand =
    seen_operand (both_operand text_operand tag_option_operand) IsTapedLabel label_bytes label_of
    (λ label fits. ((label.text, label.tag), (fits.text, fits.tag), ap (λ s. let made : Label = record { text = label.text; tag = label.tag; is_static = s } in made) (sym fits.not_static), refl))
    (λ parts fits. (record { text = fits.0; tag = fits.1; not_static = refl }, refl))

index_number_operand : IsOperand (λ z. is_index z ≡ true) (λ z. leb128 (zigzag z)) index_number_at
unfolding index_number_at
index_number_operand =
    number_operand is_index unzigzag (λ z. leb128 (zigzag z)) (λ z h. (zigzag z, index_small z h, unzigzag-zigzag z, refl)) (λ n. ap leb128 (zigzag-unzigzag n))

index_operand : IsOperand IsTapedIndex index_bytes index_at
unfolding index_at
index_operand =
    seen_operand (both_operand index_number_operand tag_option_operand) IsTapedIndex index_bytes index_of_parts
    (λ index fits. ((index.number, index.tag), (fits.number, fits.tag), refl, refl))
    (λ parts fits. (record { number = fits.0; tag = fits.1 }, refl))

label_and_index_operand : IsOperand (λ (p : Option Label × Option Index). IfSome p.0 IsTapedLabel × IfSome p.1 IsTapedIndex) (λ p. optional label_bytes p.0 ++ optional index_bytes p.1) label_and_index_at
unfolding label_and_index_at
label_and_index_operand = both_operand (optional_operand label_operand) (optional_operand index_operand)

pub name_operand : IsOperand IsTapedName name_bytes name_at_front
unfolding name_at_front
name_operand =
    seen_operand (both_operand tag_option_operand label_and_index_operand) IsTapedName name_bytes name_of_parts
    (λ name fits. ((name.tag, (name.label, name.index)), (fits.tag, (fits.label, fits.index)), refl, refl))
    (λ parts fits. (record { tag = fits.0; label = fits.1.0; index = fits.1.1 }, refl))

pub name_and_size_operand : IsOperand (λ (p : Name × Option ℕ). IsTapedName p.0 × IsTapedSize p.1) (λ p. name_bytes p.0 ++ size_bytes p.1) name_and_size_at
unfolding name_and_size_at
name_and_size_operand = both_operand name_operand size_operand

pub field_operand : IsOperand (λ (p : Option Tag × Label). IfSome p.0 IsTapedTag × IsTapedLabel p.1) (λ p. tag_bytes p.0 ++ label_bytes p.1) field_at
unfolding field_at
field_operand = both_operand tag_option_operand label_operand

pub place_operand : IsOperand (λ (p : Option Tag × Index). IfSome p.0 IsTapedTag × IsTapedIndex p.1) (λ p. tag_bytes p.0 ++ index_bytes p.1) place_at
unfolding place_at
place_operand = both_operand tag_option_operand index_operand

label_then_index_operand : IsOperand (λ (p : Label × Index). IsTapedLabel p.0 × IsTapedIndex p.1) (λ p. label_bytes p.0 ++ index_bytes p.1) label_then_index_at
unfolding label_then_index_at
label_then_index_operand = both_operand label_operand index_operand

pub field_place_operand : IsOperand (λ (p : Option Tag × (Label × Index)). IfSome p.0 IsTapedTag × (IsTapedLabel p.1.0 × IsTapedIndex p.1.1)) (λ p. tag_bytes p.0 ++ (label_bytes p.1.0 ++ index_bytes p.1.1)) field_place_at
unfolding field_place_at
field_place_operand = both_operand tag_option_operand label_then_index_operand
