-- Escapes that are written again as they are: the writer has each of them for some byte.
use Rattle.std.specs.Prelude.{◌≡◌, ℕ, Bool, true, ◌&&◌, ◌||◌, ◌==◌, nat_le, List, [], ◌∷◌}
use Rattle.sval_json_read.specs.RawStrings.{is_no_backslash}

-- the letter of a short escape that the writer has
abbrev pub is_due_letter : ℕ → Bool
is_due_letter letter = (letter == 34) || (letter == 92) || (letter == 98) || (letter == 102) || (letter == 110) || (letter == 114) || (letter == 116)

-- the last two digits of a long one: it is for a byte below 32 that has no short one
abbrev pub is_due_unit : ℕ → ℕ → Bool
is_due_unit high low =
    ((high == 48) && ((nat_le 48 low && nat_le low 55) || (low == 98) || (low == 101) || (low == 102)))
    || ((high == 49) && ((nat_le 48 low && nat_le low 57) || (nat_le 97 low && nat_le low 102)))

-- from the first byte on, each backslash and what is behind it are such an escape
pub data HasDueEscapes : List ℕ → Type 0 where
  done : HasDueEscapes []
  plain : {byte : ℕ} {bytes : List ℕ} → is_no_backslash byte ≡ true → HasDueEscapes bytes → HasDueEscapes (byte ∷ bytes)
  due : {letter : ℕ} {bytes : List ℕ} → is_due_letter letter ≡ true → HasDueEscapes bytes → HasDueEscapes (92 ∷ letter ∷ bytes)
  unit : {high low : ℕ} {bytes : List ℕ} → is_due_unit high low ≡ true → HasDueEscapes bytes → HasDueEscapes (92 ∷ 117 ∷ 48 ∷ 48 ∷ high ∷ low ∷ bytes)
