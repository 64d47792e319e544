-- What reading a source to its end makes of it.
use Rattle.std.specs.Prelude.{◌≡◌, ℕ, ◌<◌, ◌^◌, List, take, length, IfSome}
use Rattle.sval_io.specs.Sources.{Supply}
use Rattle.sval_io.specs.WholeInputs.{TakesAll}

-- there is room behind so many first bytes, which are as they were
pub record HasPlaceBehind (filled : ℕ) (old new : List ℕ) : Type 0 where
  pub kept : take filled new ≡ take filled old
  pub room : filled < length new
  pub short : length new < 2 ^ 64

-- these are all bytes that the source had left, where it tells them, and no fault was counted
pub record TakesWhole (old : Supply) (bytes : List ℕ) (new : Supply) : Type 0 where
  pub taken : IfSome old.left (λ all. TakesAll all bytes new.left)
  pub faults : new.faults ≡ old.faults
