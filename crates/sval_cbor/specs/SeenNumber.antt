-- What the parts of a number in code are.
use Rattle.std.specs.Prelude.{◌≡◌, ℕ, ◌^◌, ◌≤◌, ℤ, pos, neg_ℤ, Bool, true, false, not, ◌&&◌, ◌==◌, List, [], ◌∷◌, ◌++◌, Option, Some, None, ⊤}
use Rattle.std.specs.Str.Parse.{signed_digits_value}
use Rattle.sval_json.specs.Digits.{zero_digit, has_digit, digits_of, after_digits}
use Rattle.sval_json.specs.Number.{sign, without_zeros}
use Rattle.sval_cbor.specs.declared.number.NormalForm as program
use Rattle.sval_cbor.specs.declared.number.NormalForm.TheVariants as normal
use Rattle.sval_cbor.specs.declared.integer.Integer.{Integer}
use Rattle.sval_cbor.specs.Packs.{has_128_bits, is_whole_number}
use Rattle.sval_cbor.specs.SeenWriter.{seen_integer}

-- a zero stands in front of another digit
abbrev pub has_leading_zero : List ℕ → Bool
has_leading_zero [] = false
has_leading_zero (byte ∷ bytes) = (byte == zero_digit) && has_digit bytes

-- what follows the sign of a number, in normal form
abbrev pub unsigned_form : List ℕ → List ℕ
unsigned_form text = without_zeros (digits_of text) ++ after_digits text

-- nothing but a zero
abbrev pub is_lone_zero : List ℕ → Bool
is_lone_zero (byte ∷ []) = byte == zero_digit
is_lone_zero _ = false

-- `-` stands in front of a number, but not of a lone zero
abbrev pub keeps_sign : Bool → List ℕ → Bool
keeps_sign negative unsigned = negative && not (is_lone_zero unsigned)

-- what follows the sign begins with a digit
abbrev pub IsUnsigned : program.NormalForm → Type 0
IsUnsigned (normal.Number negative unsigned) = has_digit unsigned.now ≡ true
IsUnsigned normal.Null = ⊤

-- the number, or none where it needs more than 128 bits
abbrev pub IsMagnitude : ℕ → Option ℕ → Type 0
IsMagnitude value (Some number) = value ≡ number
IsMagnitude value None = 2 ^ 128 ≤ value

-- a number of this size and this sign
abbrev pub with_minus : Bool → ℕ → ℤ
with_minus true number = neg_ℤ (pos number)
with_minus false number = pos number

-- the number, which has 128 bits, or none where it doesn't
abbrev pub IsOf128Bits : ℤ → Option Integer → Type 0
IsOf128Bits z (Some integer) = (has_128_bits z ≡ true) × (seen_integer integer ≡ z)
IsOf128Bits z None = has_128_bits z ≡ false

-- the number that the normal form is where it is whole, or none where it isn't
abbrev pub IsWholeAnswer : Bool → List ℕ → Option Integer → Type 0
IsWholeAnswer negative unsigned (Some integer) = (is_whole_number (sign negative ++ unsigned) ≡ true) × (signed_digits_value 10 (sign negative ++ unsigned) ≡ seen_integer integer)
IsWholeAnswer negative unsigned None = is_whole_number (sign negative ++ unsigned) ≡ false
