-- What is kept of a line that was read.
use Rattle.std.specs.Prelude.{◌≡◌, ℕ, List, ◌++◌, Option, Some, None, Result, Err, IfOk, length}
use Rattle.sval_label.specs.Calls.{Call}
use Rattle.sval_script.specs.Lines.{complete, LineForm}
use Rattle.sval_script.specs.Fields.{LineLeft}
use Rattle.sval_script.specs.NextFields.{call_before}
use Rattle.sval_script.specs.LineCalls.{Stored, stored, own_len, own_count, wide, call_with, IsUtf8Line}
use Rattle.sval_script.specs.Words.{form_of_word}
use Rattle.sval_script.specs.declared.field.LineError.{LineError}
use Rattle.sval_script.specs.declared.field.LineError.TheVariants.{Bad}
use Rattle.sval_script.specs.declared.line.Line.{Line}
use Rattle.sval_script.specs.declared.store.Store.{Store}
use Rattle.sval_script.specs.declared.word.Word.{Word}

-- two numbers, which are the upper and the lower half of this one, were put behind those before them
pub record PutsWide (number : ℕ) (old new : List ℕ) : Type 0 where
  pub halves : List ℕ
  pub are : wide halves ≡ number
  pub stored : new ≡ old ++ halves
  pub count : length halves ≡ 2

-- the line's own bytes and numbers were put behind those before them
pub record Puts (bytes numbers : List ℕ) (old new : Stored) (line : Line) : Type 0 where
  pub has_text : IsUtf8Line line bytes
  pub bytes_stored : new.bytes ≡ old.bytes ++ bytes
  pub numbers_stored : new.numbers ≡ old.numbers ++ numbers
  pub has_len : length bytes ≡ own_len line numbers
  pub has_count : length numbers ≡ own_count line

-- the fields of this form make the line, its own was put behind what stood before it, and these fields are left
pub record MakesLine (form : LineForm) (fields rest : LineLeft) (old new : Stored) (line : Line) : Type 0 where
  pub bytes : List ℕ
  pub numbers : List ℕ
  pub spells : call_before form fields ≡ call_before (complete (call_with bytes numbers line)) rest
  pub puts : Puts bytes numbers old new line

-- the line that was read, if one was, is made by the fields behind this word, which leave these
abbrev pub ReadsFieldsOf : Word → LineLeft → LineLeft → Store → Store → Result Line LineError → Type 0
ReadsFieldsOf word fields rest old new result = IfOk result (λ line. MakesLine (form_of_word word) fields rest (stored old) (stored new) line)

-- what was read is told bad only where the fields behind this word spell no call
abbrev pub TellsBad : Word → LineLeft → Result Line LineError → Type 0
TellsBad word fields result = result ≡ Err Bad → call_before (form_of_word word) fields ≡ None

-- the line makes the call, and its own was put behind what stood before it
pub record StoresCall (call : Call) (old new : Stored) (line : Line) : Type 0 where
  pub bytes : List ℕ
  pub numbers : List ℕ
  pub says : call_with bytes numbers line ≡ call
  pub puts : Puts bytes numbers old new line

-- the line was made of a call's spelling, behind which this stands, and its own was put behind what stood before it
pub record IsMade (spelled : Option (Call × List ℕ)) (behind : List ℕ) (old new : Stored) (line : Line) : Type 0 where
  pub bytes : List ℕ
  pub numbers : List ℕ
  pub spells : spelled ≡ Some (call_with bytes numbers line, behind)
  pub puts : Puts bytes numbers old new line
