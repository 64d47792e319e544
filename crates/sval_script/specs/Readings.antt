-- What reading a script answers.
use Rattle.std.specs.Prelude.{◌≡◌, ◌⊎◌, ℕ, ◌+◌, ◌<◌, List, [], ◌++◌, length, get_or, Option, Some, None, IsSome, Result, Ok, Err}
use Rattle.sval_label.specs.Calls.{Call}
use Rattle.sval_script.specs.Lines.{Lines, Good, Bad, line_of, lines_from, cut_at}
use Rattle.sval_script.specs.declared.script.ScriptError.{ScriptError}
use Rattle.sval_script.specs.declared.script.ScriptError.TheVariants.{BadLine, NoMemory}

-- the answer that is due
abbrev pub answer_to : Lines → Result (List Call) ScriptError
answer_to (Good calls) = Ok calls
answer_to (Bad n) = Err (BadLine n)

-- ---- in pieces

-- lines behind those that make these calls
abbrev pub after_calls : List Call → Lines → Lines
after_calls calls (Good more) = Good (calls ++ more)
after_calls calls (Bad n) = Bad n

-- a script whose first lines make these calls, and are followed by these bytes
abbrev pub lines_after : List Call → List ℕ → Lines
lines_after calls bytes = after_calls calls (lines_from line_of (length calls + 1) (cut_at 10 bytes))

-- what a reader keeps: the calls of the lines, the bytes behind the last line feed, and why it stopped, if it did
pub record ScriptReading : Type 0 where
  pub calls : List Call
  pub begun : List ℕ
  pub stopped : Option ScriptError

-- the answer that is due, unless the reader stopped, and then why it did
abbrev pub answer_unless : Option ScriptError → Lines → Result (List Call) ScriptError
answer_unless None lines = answer_to lines
answer_unless (Some why) lines = Err why

-- the answer of a reader, if it is given these bytes and then no more
abbrev pub answer_with : ScriptReading → List ℕ → Result (List Call) ScriptError
answer_with reading more = answer_unless reading.stopped (lines_after reading.calls (reading.begun ++ more))

-- the piece stands before all that follows, or memory was wanting
abbrev pub TakesPiece : ScriptReading → List ℕ → ScriptReading → Type 0
TakesPiece old piece new =
    ((more : List ℕ) → answer_with new more ≡ answer_with old (piece ++ more)) ⊎ ((more : List ℕ) → answer_with new more ≡ Err NoMemory)

-- ---- bad lines

-- a line feed ends the line at this place, counted from 0, and that line is the first that spells no call
pub record HasBadLineAt (bytes : List ℕ) (place : ℕ) : Type 0 where
  pub ended : place + 1 < length (cut_at 10 bytes)
  pub bad : line_of (get_or (cut_at 10 bytes) place []) ≡ None
  pub good : (k : ℕ) → k < place → IsSome (line_of (get_or (cut_at 10 bytes) k []))

-- it stopped, either at the bad line with this number, or since memory was wanting first
pub record IsStoppedAt (n : ℕ) (stopped : Option ScriptError) : Type 0 where
  pub cause : (stopped ≡ Some (BadLine n)) ⊎ (stopped ≡ Some NoMemory)

-- where the piece ends a bad line, a reader that had not stopped stops at it; its number counts the lines of the script from 1
abbrev pub StopsAtBadLine : ScriptReading → List ℕ → ScriptReading → Type 0
StopsAtBadLine old piece new =
    (place : ℕ) → old.stopped ≡ None → HasBadLineAt (old.begun ++ piece) place → IsStoppedAt (length old.calls + place + 1) new.stopped
