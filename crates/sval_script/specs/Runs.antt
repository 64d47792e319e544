-- What a mask says of a run's first bytes, and where two runs are the same.
use Rattle.std.specs.Prelude.{◌≡◌, ℕ, ◌+◌, ◌<◌, ◌≤◌, Bool, List, slice_index}
use Rattle.std.specs.Int.{bit_at}
use Rattle.memchr.specs.Find.{Passes}

-- bit k of mask is set where k is below n and the byte there passes the test, and nowhere else
pub record MarksFirst (test : ℕ → Bool) (bytes : List ℕ) (n mask : ℕ) : Type 0 where
  pub each : (k : ℕ) → k < n → Passes test bytes k → bit_at mask k ≡ 1
  pub only : (k : ℕ) → bit_at mask k ≡ 1 → (k < n) × Passes test bytes k

-- two runs have the same n bytes from a place on
abbrev pub SameFrom : ℕ → ℕ → List ℕ → List ℕ → Type 0
SameFrom from n xs ys = (k : ℕ) → from ≤ k → k < from + n → slice_index xs k ≡ slice_index ys k
