-- What reading an input to its end makes of its source.
use Rattle.std.specs.Prelude.{◌≡◌, ◌≢◌, ℕ, ◌+◌, ◌-◌, ◌<◌, ◌≤◌, ◌^◌, List, [], take, drop, length, Option, Some, IfSome}
use Rattle.sval_core.specs.Law.{Rose}
use Rattle.sval_io.specs.declared.input_error.InputError.{InputError}
use Rattle.sval_io.specs.declared.input_error.InputError.TheVariants.{ReadFault, TooLong, NoMemory}
use Rattle.sval_io.specs.Sources.{Supply}

-- an input of at most 16,777,216 bytes, which is kept whole
abbrev pub IsShort : List ℕ → Type 0
IsShort input = length input ≤ 2 ^ 24

-- the bytes are all that was left, and nothing is left now
pub record TakesAll (whole bytes : List ℕ) (rest : Option (List ℕ)) : Type 0 where
  pub all : bytes ≡ whole
  pub left : rest ≡ Some []

-- the input was read whole: these are its bytes, where the source tells them, and no fault was counted
pub record ReadsWhole (old : Supply) (bytes : List ℕ) (new : Supply) : Type 0 where
  pub taken : IfSome old.left (λ all. TakesAll all bytes new.left)
  pub short : IsShort bytes
  pub faults : new.faults ≡ old.faults

-- there is room behind so many first bytes, which are as they were, and none past the limit
pub record HasRoomBehind (filled : ℕ) (old new : List ℕ) : Type 0 where
  pub kept : take filled new ≡ take filled old
  pub room : filled < length new
  pub short : length new ≤ 2 ^ 24

-- there were more than 16,777,216 bytes, and one more than these was taken
pub record TakesOneMore (whole : List ℕ) (rest : Option (List ℕ)) : Type 0 where
  pub long : 2 ^ 24 < length whole
  pub left : rest ≡ Some (drop (2 ^ 24 + 1) whole)

-- it is so, where the source tells what it has left
abbrev pub IsTooLong : Supply → Supply → Type 0
IsTooLong old new = IfSome old.left (λ all. TakesOneMore all new.left)

-- some first bytes were taken, no more than so many, and the others are left
abbrev pub TakesAtMost : ℕ → List ℕ → Option (List ℕ) → Type 0
TakesAtMost most whole rest = (count : ℕ) × (count ≤ most) × (rest ≡ Some (drop count whole))

-- no more than 16,777,216 bytes were taken, where the source tells what it has left
abbrev pub StaysShort : Supply → Supply → Type 0
StaysShort old new = IfSome old.left (λ all. TakesAtMost (2 ^ 24) all new.left)

-- fewer were taken than are read at most, where the source tells what it has left
abbrev pub StaysBelow : Supply → Supply → Type 0
StaysBelow old new = IfSome old.left (λ all. TakesAtMost (2 ^ 24 - 1) all new.left)

-- reading stopped, and this is why; a count of faults that moved means a fault
pub record StopsReading (why : InputError) (old new : Supply) : Type 0 where
  pub fault : why ≡ ReadFault → Rose old.faults new.faults
  pub moved : old.faults < new.faults → why ≡ ReadFault
  pub long : why ≡ TooLong → IsTooLong old new
  pub short : why ≢ TooLong → StaysShort old new
  pub want : why ≡ NoMemory → StaysBelow old new
  pub faults : old.faults ≤ new.faults
