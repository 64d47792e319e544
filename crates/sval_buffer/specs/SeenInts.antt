-- What the whole numbers of 128 bits are that a buffer keeps.
use Rattle.std.specs.Prelude.{ℕ, ◌+◌, ◌*◌, ◌^◌, Bool, true, false}
use Rattle.std.specs.Int.{cast_signed, w128}
use Rattle.sval_label.specs.declared.grouped.Int.{Int}
use Rattle.sval_label.specs.declared.grouped.Int.TheVariants as int
use Rattle.sval_buffer.specs.declared.wide.Wide.{Wide}

-- the number of 128 bits that two halves are
abbrev pub wide_number : Wide → ℕ
wide_number halves = halves.upper * 2 ^ 64 + halves.lower

-- the number with its sign, or without one
abbrev pub wide_int : Bool → Wide → Int
wide_int true halves = int.I128 (cast_signed w128 (wide_number halves))
wide_int false halves = int.U128 (wide_number halves)
