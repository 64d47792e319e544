-- The lines of a script that were read, and the one that is begun.
use Rattle.std.specs.Prelude.{◌≡◌, ⊤, ℕ, ◌+◌, List, [], ◌∷◌, ◌++◌, length, Some, None}
use Rattle.sval_label.specs.Calls.{Call}
use Rattle.sval_script.specs.Lines.{Lines, Bad}
use Rattle.sval_script.specs.Fields.{cut_line}
use Rattle.sval_script.specs.LineCalls.{Stored, stored, calls_with, HoldsLines}
use Rattle.sval_script.specs.Readings.{lines_after, HasBadLineAt, IsStoppedAt}
use Rattle.sval_script.specs.declared.line.Line.{Line}
use Rattle.sval_script.specs.declared.script.ScriptError.{ScriptError}
use Rattle.sval_script.specs.declared.script.ScriptError.TheVariants.{BadLine}
use Rattle.sval_script.specs.declared.reader.ReadLines.{ReadLines}

-- the calls of lines with their store
abbrev pub line_calls : List Line → Stored → List Call
line_calls lines store = calls_with store.bytes store.numbers lines

-- the store holds the lines' bytes and numbers, and no others
abbrev pub StoreHoldsLines : List Line → Stored → Type 0
StoreHoldsLines lines store = HoldsLines store.bytes store.numbers lines

-- whole lines: nothing stands behind the last line feed
abbrev pub EndsLine : List ℕ → Type 0
EndsLine [] = ⊤
EndsLine (byte ∷ []) = byte ≡ 10
EndsLine (byte ∷ next ∷ bytes) = EndsLine (next ∷ bytes)

-- whole lines were read behind those before them, whatever follows
pub record ReadsLinesOn (old : List Line) (before : Stored) (bytes : List ℕ) (new : List Line) (after : Stored) : Type 0 where
  pub holds : StoreHoldsLines new after
  pub goes_on : (more : List ℕ) → lines_after (line_calls old before) (bytes ++ more) ≡ lines_after (line_calls new after) more

-- where this line is named, it is the first bad one, whatever follows
abbrev pub IsFirstBadLine : List Call → List ℕ → ScriptError → Type 0
IsFirstBadLine calls bytes why = (n : ℕ) (more : List ℕ) → why ≡ BadLine n → lines_after calls (bytes ++ more) ≡ Bad n

-- where the bytes have a bad line, this names it, or says that memory was wanting first
abbrev pub NamesBadLine : List Call → List ℕ → ScriptError → Type 0
NamesBadLine calls bytes why = (place : ℕ) → HasBadLineAt bytes place → IsStoppedAt (length calls + place + 1) (Some why)

-- the lines are held, and that which is begun has no line feed
pub record AreReadLines (read : ReadLines) : Type 0 where
  pub holds : StoreHoldsLines read.lines.items (stored read.store)
  pub begun : cut_line read.begun.items ≡ None

-- the script, if these bytes follow what was read
abbrev pub lines_with : ReadLines → List ℕ → Lines
lines_with read more = lines_after (line_calls read.lines.items (stored read.store)) (read.begun.items ++ more)

-- the line that was begun ended in these whole lines, and this stands behind it
pub record EndsIn (old : ReadLines) (whole behind : List ℕ) (new : ReadLines) : Type 0 where
  pub holds : StoreHoldsLines new.lines.items (stored new.store)
  pub begun : new.begun.items ≡ []
  pub ends : EndsLine behind
  pub goes_on : (more : List ℕ) → lines_after (line_calls new.lines.items (stored new.store)) (behind ++ more) ≡ lines_with old (whole ++ more)

-- a piece was read behind what was read before it, and no line that ended is bad
pub record ReadsPiece (old : ReadLines) (piece : List ℕ) (new : ReadLines) : Type 0 where
  pub is_read : AreReadLines new
  pub good : (place : ℕ) → ¬ HasBadLineAt (old.begun.items ++ piece) place
  pub goes_on : (more : List ℕ) → lines_with new more ≡ lines_with old (piece ++ more)
