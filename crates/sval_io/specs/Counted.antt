-- What a sink that only counts tells.
use Rattle.std.specs.Prelude.{ℕ, ◌+◌, ◌-◌, ◌^◌, min, None, Some}
use Rattle.sval_io.specs.Sinks.{Told}

-- it tells no text and no room, and holds nothing back; it never fails, and takes no memory
abbrev pub counted_told : ℕ → Told
counted_told count = record { text = None; room = None; held = Some 0; faults = 0; wants = 0 }

-- so many more, up to the greatest count
abbrev pub counted : ℕ → ℕ → ℕ
counted count more = min (count + more) (2 ^ 64 - 1)
