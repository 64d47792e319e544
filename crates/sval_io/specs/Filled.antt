-- What a sink over a buffer has taken.
use Rattle.std.specs.Prelude.{◌≡◌, ℕ, ◌<◌, List, length, Some}
use Rattle.sval_io.specs.Sinks.{Told}

-- the bytes, what stands in the buffer behind them, and how often it failed
pub record Filled : Type 0 where
  pub bytes : List ℕ
  pub behind : List ℕ
  pub faults : ℕ

-- how many more bytes have place in the buffer
abbrev pub room_of : Filled → ℕ
room_of filled = length filled.behind

-- it tells its bytes and its room, holds none back, and takes no memory
abbrev pub filled_told : Filled → Told
filled_told filled = record { text = Some filled.bytes; room = Some (room_of filled); held = Some 0; faults = filled.faults; wants = 0 }

-- the buffer is full, and the piece isn't empty
abbrev pub IsFullFor : Filled → List ℕ → Type 0
IsFullFor filled piece = (room_of filled ≡ 0) × (0 < length piece)
