-- Numbers below 2^48 in three parts of sixteen bits.
use Rattle.std.specs.Prelude.{ℕ, ◌+◌, ◌*◌, ◌/◌, ◌%◌}
use Rattle.sval_json_read.specs.declared.offset.Offset.{Offset}

-- the number
abbrev pub number_of : Offset → ℕ
number_of offset = 4294967296 * offset.high + (65536 * offset.middle + offset.low)

-- its parts
abbrev pub offset_of : ℕ → Offset
offset_of number = record { high = number / 4294967296; middle = number / 65536 % 65536; low = number % 65536 }
