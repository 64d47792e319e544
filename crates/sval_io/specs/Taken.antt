-- What a sink in memory has taken.
use Rattle.std.specs.Prelude.{ℕ, List, Some, None}
use Rattle.sval_io.specs.Sinks.{Told}

-- the bytes, and how often memory was wanting
pub record Taken : Type 0 where
  pub bytes : List ℕ
  pub wants : ℕ

-- it tells its bytes and holds none back; its room is that of memory, which nobody tells
abbrev pub taken_told : Taken → Told
taken_told taken = record { text = Some taken.bytes; room = None; held = Some 0; faults = 0; wants = taken.wants }
