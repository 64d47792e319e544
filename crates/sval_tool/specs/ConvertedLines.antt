-- Lines that are converted, one after the other.
use Rattle.std.specs.Prelude.{◌≡◌, ℕ, suc, ◌+◌, ◌-◌, ◌^◌, true, false, List, [], ◌∷◌, ◌++◌, Option, Some, Result, Ok, Err, Bool}
use Rattle.sval_io.specs.Sinks.{Told, WritesWhole}
use Rattle.sval_io.specs.Sources.{Supply}
use Rattle.sval_lines.specs.SourceLines.{has_no_feed, EndsBefore, TakesLine, TakesPart, HasLineCause}
use Rattle.sval_lines.specs.declared.error.LineError.TheVariants.{TooManyLines}
use Rattle.sval_tool.specs.Conversions.{IsFedDue, WritesDue, IsDocumentCause}
use Rattle.sval_tool.specs.declared.convert.Conversion.{Conversion}
use Rattle.sval_tool.specs.declared.error.DocumentError.{DocumentError}
use Rattle.sval_tool.specs.declared.lines.LinesError.{LinesError}
use Rattle.sval_tool.specs.declared.lines.LinesError.TheVariants.{Unread, Line}

-- ---- what is due

-- of an empty line nothing, and else the text that is due of its document, and what is written behind it
abbrev pub IsLineDue : Conversion → List ℕ → List ℕ → Type 0
IsLineDue c [] text = text ≡ []
IsLineDue c (byte ∷ line) text = IsFedDue c (byte ∷ line) text

-- AreDue c bytes text rest count: so many lines stand at the front of the bytes, this is the text that is due of them, and the rest follows
pub data AreDue (c : Conversion) (bytes : List ℕ) : List ℕ → List ℕ → ℕ → Type 0 where
  no_line : AreDue c bytes [] bytes 0
  one_more : {text all line rest : List ℕ} {count : ℕ} (more : List ℕ) → AreDue c bytes text all count → has_no_feed line ≡ true
      → EndsBefore all line rest → IsLineDue c line more → AreDue c bytes (text ++ more) rest (suc count)

-- ---- what converting a line answers

-- the line was taken, and exactly what is due of it was written
pub record ConvertsLine (c : Conversion) (bytes : List ℕ) (left : Option (List ℕ)) (old new : Told) : Type 0 where
  pub line : List ℕ
  pub taken : TakesLine bytes line left
  pub writes : WritesDue (IsLineDue c line) old new

-- this line was taken, and what is due of it wasn't written
pub record StopsAtLine {K : Type 0} (told : K → Told) (c : Conversion) (bytes line : List ℕ) (why : DocumentError) (left : Option (List ℕ)) (old new : K) : Type 0 where
  pub taken : TakesLine bytes line left
  pub cause : IsDocumentCause told c (IsLineDue c line) line why old new

-- part of a line was taken, and nothing was written
pub record StopsBefore {K : Type 0} (bytes : List ℕ) (left : Option (List ℕ)) (old new : K) : Type 0 where
  pub part : List ℕ
  pub taken : TakesPart bytes part left
  pub same : new ≡ old

-- no line was left
pub record HasNoLine {K : Type 0} (bytes : List ℕ) (next : Option (List ℕ)) (old new : K) : Type 0 where
  pub empty : bytes ≡ []
  pub left : next ≡ Some []
  pub same : new ≡ old

-- why a line wasn't converted: this one, if it was taken; and what is left
abbrev pub IsLinesCause : {K : Type 0} → (K → Told) → Conversion → List ℕ → LinesError → List ℕ → Option (List ℕ) → K → K → Type 0
IsLinesCause told c bytes (Unread why) line left old new = StopsBefore bytes left old new
IsLinesCause told c bytes (Line number why) line left old new = StopsAtLine told c bytes line why left old new

-- a line was converted, there was none, or this one wasn't converted
abbrev pub ConvertsOne : {K : Type 0} → (K → Told) → Conversion → List ℕ → Result Bool LinesError → List ℕ → Option (List ℕ) → K → K → Type 0
ConvertsOne told c bytes (Ok true) line left old new = ConvertsLine c bytes left (told old) (told new)
ConvertsOne told c bytes (Ok false) line left old new = HasNoLine bytes left old new
ConvertsOne told c bytes (Err why) line left old new = IsLinesCause told c bytes why line left old new

-- ---- and all lines

-- exactly what is due of so many lines was written, and these bytes were left then; the sink was so
pub record ConvertsSome {K : Type 0} (told : K → Told) (c : Conversion) (bytes rest : List ℕ) (count : ℕ) (old new : K) : Type 0 where
  pub text : List ℕ
  pub due : AreDue c bytes text rest count
  pub writes : WritesWhole (told old) text (told new)

-- where so many lines were taken, the error has the number of the next, or there is no further number
abbrev pub IsNumberedBehind : ℕ → LinesError → Type 0
IsNumberedBehind taken (Line number why) = number ≡ suc taken
IsNumberedBehind taken (Unread TooManyLines) = taken ≡ 2 ^ 64 - 1
IsNumberedBehind taken (Unread _) = Unit {0}

-- a line was bad, or wasn't read: exactly what is due of those before it was written, and then the cause came
pub record StopsAfterSome {K : Type 0} (told : K → Told) (c : Conversion) (bytes : List ℕ) (before : ℕ) (why : LinesError) (line : List ℕ) (left : Option (List ℕ)) (old new : K) : Type 0 where
  pub rest : List ℕ
  pub count : ℕ
  pub numbered : IsNumberedBehind (before + count) why
  pub middle : K
  pub converts : ConvertsSome told c bytes rest count old middle
  pub cause : IsLinesCause told c rest why line left middle new

-- all lines were converted
pub record ConvertsAll {K : Type 0} (told : K → Told) (c : Conversion) (bytes : List ℕ) (next : Option (List ℕ)) (old new : K) : Type 0 where
  pub count : ℕ
  pub converts : ConvertsSome told c bytes [] count old new
  pub left : next ≡ Some []

-- all lines were converted, or those before this one; so many were taken before them
abbrev pub ConvertsLines : {K : Type 0} → (K → Told) → Conversion → List ℕ → ℕ → Result (Unit {0}) LinesError → List ℕ → Option (List ℕ) → K → K → Type 0
ConvertsLines told c bytes before (Ok done) line left old new = ConvertsAll told c bytes left old new
ConvertsLines told c bytes before (Err why) line left old new = StopsAfterSome told c bytes before why line left old new

-- ---- causes

-- a line wasn't read for this cause; or the last line that was taken wasn't converted, and the source didn't fail
abbrev pub HasLinesCause : LinesError → ℕ → Supply → Supply → Type 0
HasLinesCause (Unread why) number old new = HasLineCause why number old new
HasLinesCause (Line line why) number old new = (line ≡ number) × (new.faults ≡ old.faults)
