-- What a source tells of itself, and what reading makes of that.
use Rattle.std.specs.Prelude.{◌≡◌, ℕ, ◌<◌, ◌≤◌, List, [], take, drop, length, Option, Some, IfSome, Result, Ok, Err}
use Rattle.sval_core.specs.Law.{Rose}
use Rattle.sval_io.specs.declared.source.SourceError.{SourceError}

-- the bytes that it has left, where it tells them, and how often it failed
pub record Supply : Type 0 where
  pub left : Option (List ℕ)
  pub faults : ℕ

-- a source in memory tells its bytes, and never fails
abbrev pub in_memory : List ℕ → Supply
in_memory bytes = record { left = Some bytes; faults = 0 }

-- of what is left the first bytes were taken into the front of the buffer
pub record TakesFirst (all : List ℕ) (count : ℕ) (buffer : List ℕ) (rest : Option (List ℕ)) : Type 0 where
  pub there : count ≤ length all
  pub taken : take count buffer ≡ take count all
  pub left : rest ≡ Some (drop count all)

-- so many bytes were given: none into a buffer with room only where nothing is left
pub record Gives (count : ℕ) (old : Supply) (buffer : List ℕ) (new : Supply) : Type 0 where
  pub within : count ≤ length buffer
  pub taken : IfSome old.left (λ all. TakesFirst all count buffer new.left)
  pub end : count ≡ 0 → 0 < length buffer → IfSome old.left (λ all. all ≡ [])
  pub faults : new.faults ≡ old.faults

-- a fault was counted, and what is left stays
pub record GivesNothing (old new : Supply) : Type 0 where
  pub left : new.left ≡ old.left
  pub cause : Rose old.faults new.faults
  pub faults : old.faults ≤ new.faults

-- what a read answers
abbrev pub ReadsInto : Result ℕ SourceError → Supply → List ℕ → Supply → Type 0
ReadsInto (Ok count) old buffer new = Gives count old buffer new
ReadsInto (Err why) old buffer new = GivesNothing old new
