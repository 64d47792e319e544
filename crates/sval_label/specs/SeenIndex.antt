-- What an index of the program is seen as.
use Rattle.std.specs.Prelude.{ℕ, ℤ, pos, negsuc, ◌^◌, nat_lt, Option, Some, None, option_map, if◌then◌else◌}
use Rattle.sval_label.specs.declared.index.Index as program
use Rattle.sval_label.specs.Calls as calls
use Rattle.sval_label.specs.Ranges.{is_signed}
use Rattle.sval_label.specs.SeenTags.{seen_tag}

-- its number, and its tag, if it has one
abbrev pub seen_index : program.Index → calls.Index
seen_index index = record { number = index.number; tag = option_map seen_tag index.tag }

-- the index of this number that has no tag
abbrev pub untagged : ℤ → calls.Index
untagged number = record { number = number; tag = None }

-- the number, where it is in the range of an unsigned type of so many bits
abbrev pub in_unsigned : ℕ → ℤ → Option ℕ
in_unsigned bits (pos n) = if nat_lt n (2 ^ bits) then Some n else None
in_unsigned bits (negsuc n) = None

-- the number, where it is in the range of a signed type of so many bits beside its sign
abbrev pub in_signed : ℕ → ℤ → Option ℤ
in_signed bits number = if is_signed bits number then Some number else None
