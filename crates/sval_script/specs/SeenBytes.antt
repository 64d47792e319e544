-- What bytes with room behind them are seen as.
use Rattle.std.specs.Prelude.{◌≡◌, ℕ, ◌≤◌, List, length, take}

-- the bytes, without the room
pub record SeenBytes : Type 0 where
  pub items : List ℕ

-- the new run is no shorter, and begins with the old one
pub record KeepsFront (old new : List ℕ) : Type 0 where
  pub no_shorter : length old ≤ length new
  pub same : (n : ℕ) → n ≤ length old → take n new ≡ take n old
