-- The lines of a source, one at a time.
use Rattle.std.specs.Prelude.{◌≡◌, ◌≢◌, ℕ, zero, suc, ◌+◌, ◌-◌, ◌^◌, Bool, true, false, not, ◌==◌, List, [], ◌∷◌, ◌++◌, Option, Some, option_map}
use Rattle.std.specs.List.{list_all, slice_range}
use Rattle.sval_core.specs.Law.{Rose}
use Rattle.sval_io.specs.Sources.{Supply}
use Rattle.sval_lines.specs.declared.error.LineError.{LineError}
use Rattle.sval_lines.specs.declared.error.LineError.TheVariants.{ReadFault, TooManyLines, NoMemory}

-- ---- what is left

-- the bytes of a chunk from one place up to another
abbrev pub unread : List ℕ → ℕ → ℕ → List ℕ
unread chunk from upto = slice_range chunk from upto

-- the bytes that were read ahead, and then those of the source, where it tells them
abbrev pub ahead_of : List ℕ → Supply → Option (List ℕ)
ahead_of bytes supply = option_map (λ left. bytes ++ left) supply.left

-- ---- lines

-- none of the bytes is a line feed
abbrev pub has_no_feed : List ℕ → Bool
has_no_feed bytes = list_all (λ byte. not (byte == 10)) bytes

-- EndsBefore all line rest: the bytes begin with this line, and the rest stands behind its line feed; the last line may have none,
-- and then isn't empty
pub data EndsBefore : List ℕ → List ℕ → List ℕ → Type 0 where
  by_feed : {line rest : List ℕ} → EndsBefore (line ++ (10 ∷ rest)) line rest
  by_end : {line : List ℕ} → line ≢ [] → EndsBefore line line []

-- the first line of these bytes was taken, and the rest is left
pub record TakesLine (all line : List ℕ) (new : Option (List ℕ)) : Type 0 where
  pub rest : List ℕ
  pub no_feed : has_no_feed line ≡ true
  pub ends : EndsBefore all line rest
  pub left : new ≡ Some rest

-- nothing was left, and nothing is
pub record HasNoLineLeft (all : List ℕ) (new : Option (List ℕ)) : Type 0 where
  pub empty : all ≡ []
  pub left : new ≡ Some []

-- a line was taken, or there is none
abbrev pub TakesOrEnds : Bool → List ℕ → List ℕ → Option (List ℕ) → Type 0
TakesOrEnds true all line new = TakesLine all line new
TakesOrEnds false all line new = HasNoLineLeft all new

-- the bytes that were taken stand before those that are left
pub record TakesPart (all part : List ℕ) (new : Option (List ℕ)) : Type 0 where
  pub rest : List ℕ
  pub same : all ≡ part ++ rest
  pub left : new ≡ Some rest

-- so many empty lines, each a line feed
abbrev pub empty_lines : ℕ → List ℕ
empty_lines zero = []
empty_lines (suc count) = 10 ∷ empty_lines count

-- ---- numbers

-- the number of the lines that were taken
abbrev pub number_behind : Bool → ℕ → ℕ
number_behind true number = number + 1
number_behind false number = number

-- empty lines were passed over, and then the next line was taken, or there is none
pub record TakesNext (found : Bool) (all line : List ℕ) (new : Option (List ℕ)) (before after : ℕ) : Type 0 where
  pub skipped : ℕ
  pub others : List ℕ
  pub same : all ≡ empty_lines skipped ++ others
  pub taken : TakesOrEnds found others line new
  pub number : after ≡ number_behind found (before + skipped)

-- empty lines were passed over, and then part of a line was taken
pub record TakesNextPart (all part : List ℕ) (new : Option (List ℕ)) (before after : ℕ) : Type 0 where
  pub skipped : ℕ
  pub others : List ℕ
  pub same : all ≡ empty_lines skipped ++ others
  pub taken : TakesPart others part new
  pub number : after ≡ before + skipped

-- ---- errors

-- a line wasn't read, and this is why
abbrev pub HasLineCause : LineError → ℕ → Supply → Supply → Type 0
HasLineCause ReadFault number old new = Rose old.faults new.faults
HasLineCause TooManyLines number old new = number ≡ 2 ^ 64 - 1
HasLineCause NoMemory number old new = old.faults ≡ new.faults
