-- The laws of tapes, as facts.
use Rattle.std.specs.Prelude.{◌≡◌, ℕ, List}
use Rattle.sval_label.specs.Calls.{Call}
use Rattle.sval_core.specs.Law.{Ran}
use Rattle.sval_tape.specs.Tapes.{tape_of}
use Rattle.sval_tape.specs.Taped.{IsTape, IsBadAt}
use Rattle.sval_tape.specs.Taping.{Taping, with_taped, tape_writer_law}
use Rattle.sval_tape.specs.Reading.{calls_on_tape}

-- a writer that took these calls wrote their tape and nothing else
abbrev pub WritersWrite : Type 0
WritersWrite = (calls : List Call) (begun done : Taping) → Ran tape_writer_law begun calls done → done ≡ with_taped (tape_of calls) begun

-- what was written reads back as the same calls
abbrev pub TapesReadBack : Type 0
TapesReadBack = (bytes : List ℕ) (calls : List Call) → IsTape bytes calls → calls_on_tape bytes ≡ calls

-- bytes are the tape of one list of calls
abbrev pub OneListOfCalls : Type 0
OneListOfCalls = (bytes : List ℕ) (calls others : List Call) → IsTape bytes calls → IsTape bytes others → calls ≡ others

-- bytes with a bad place are no tape
abbrev pub BadBytesAreNoTape : Type 0
BadBytesAreNoTape = (bytes : List ℕ) (at : ℕ) (calls : List Call) → IsBadAt bytes at → IsTape bytes calls → ⊥

-- bytes have one bad place
abbrev pub OneBadPlace : Type 0
OneBadPlace = (bytes : List ℕ) (at other : ℕ) → IsBadAt bytes at → IsBadAt bytes other → at ≡ other
