-- What the place is that a part keeps of its holder.
use Rattle.std.specs.Prelude.{ℕ, zero, suc, Option, Some, None}
use Rattle.sval_buffer.specs.declared.holder.Holder.{Holder}

-- the place that one less than this number is, or none of 0
abbrev pub place_before : ℕ → Option ℕ
place_before zero = None
place_before (suc at) = Some at

-- the place that is kept
abbrev pub held_place : Holder → Option ℕ
held_place holder = place_before holder.after
