-- Inputs that are converted, one after the other.
use Rattle.std.specs.Prelude.{◌≡◌, ℕ, List, [], ◌∷◌, ◌++◌, map, Option, Some, Result, Ok, Err}
use Rattle.sval_io.specs.Sinks.{Told}
use Rattle.sval_io.specs.Sources.{Supply}
use Rattle.sval_lines.specs.SourceLines.{HasLineCause}
use Rattle.sval_lines.specs.declared.error.LineError.TheVariants.{TooManyLines}
use Rattle.sval_tool.specs.Conversions.{IsFedDue, WritesDue, IsDocumentCause}
use Rattle.sval_tool.specs.ConvertedLines.{AreDue, StopsAfterSome}
use Rattle.sval_tool.specs.declared.convert.Conversion.{Conversion}
use Rattle.sval_tool.specs.declared.error.DocumentError.{DocumentError}
use Rattle.sval_tool.specs.declared.inputs.Shape.{Shape}
use Rattle.sval_tool.specs.declared.inputs.Shape.TheVariants as shape
use Rattle.sval_tool.specs.declared.inputs.ConvertError.{ConvertError}
use Rattle.sval_tool.specs.declared.inputs.ConvertError.TheVariants as convert
use Rattle.sval_tool.specs.declared.lines.LinesError.{LinesError}
use Rattle.sval_tool.specs.declared.lines.LinesError.TheVariants as lines

-- ---- what is due

-- of one document its text and what is written behind it, and of lines what is due of each
abbrev pub IsInputDue : Conversion → Shape → List ℕ → List ℕ → Type 0
IsInputDue c shape.Document bytes text = IsFedDue c bytes text
IsInputDue c shape.Lines bytes text = (count : ℕ) × AreDue c bytes text [] count

-- the text that is due of inputs, in their order
pub data AreInputsDue (c : Conversion) (form : Shape) : List (List ℕ) → List ℕ → Type 0 where
  no_input : AreInputsDue c form [] []
  input_more : {inputs : List (List ℕ)} {text : List ℕ} (bytes more : List ℕ) → AreInputsDue c form inputs text → IsInputDue c form bytes more
      → AreInputsDue c form (inputs ++ (bytes ∷ [])) (text ++ more)

-- each source tells what it has left: these inputs
abbrev pub TellInputs : {I : Type 0} → (I → Supply) → List I → List (List ℕ) → Type 0
TellInputs told sources inputs = map (λ source. (told source).left) sources ≡ map (λ bytes. Some bytes) inputs

-- ---- one input

-- these bytes, a document, weren't converted, and here they are
pub record StopsAtDocument {K : Type 0} (told : K → Told) (c : Conversion) (bytes bad : List ℕ) (why : DocumentError) (old new : K) : Type 0 where
  pub is : bad ≡ bytes
  pub cause : IsDocumentCause told c (IsFedDue c bytes) bytes why old new

-- why an input wasn't converted: a document wrote nothing if it wasn't read, and of lines what is due of those before was written;
-- the bytes of the document or of the line that is bad are these
abbrev pub IsInputCause : {K : Type 0} → (K → Told) → Conversion → Shape → List ℕ → ConvertError → List ℕ → K → K → Type 0
IsInputCause told c shape.Document bytes (convert.Unread TooManyLines) bad old new = ⊥
IsInputCause told c shape.Document bytes (convert.Unread why) bad old new = new ≡ old
IsInputCause told c shape.Document bytes (convert.Document why) bad old new = StopsAtDocument told c bytes bad why old new
IsInputCause told c shape.Lines bytes (convert.Unread why) bad old new = (left : Option (List ℕ)) × StopsAfterSome told c bytes 0 (lines.Unread why) bad left old new
IsInputCause told c shape.Lines bytes (convert.Line number why) bad old new = (left : Option (List ℕ)) × StopsAfterSome told c bytes 0 (lines.Line number why) bad left old new
IsInputCause told c _ bytes _ bad old new = ⊥

-- exactly what is due of an input was written, or there is a cause
abbrev pub ConvertsInput : {K : Type 0} → (K → Told) → Conversion → Shape → List ℕ → Result (Unit {0}) ConvertError → List ℕ → K → K → Type 0
ConvertsInput told c form bytes (Ok done) bad old new = WritesDue (IsInputDue c form bytes) (told old) (told new)
ConvertsInput told c form bytes (Err why) bad old new = IsInputCause told c form bytes why bad old new

-- an input wasn't read for this cause
abbrev pub IsReadCause : ConvertError → Supply → Supply → Type 0
IsReadCause (convert.Unread why) old new = (number : ℕ) × HasLineCause why number old new
IsReadCause _ old new = Unit {0}

-- what some source of this type, tied to no other, has counted where one wasn't read for this cause
pub record StopsReadingAt {I : Type 0} (told : I → Supply) (why : ConvertError) (old : I) : Type 0 where
  pub last : I
  pub cause : IsReadCause why (told old) (told last)

-- the error of lines, as one of inputs
abbrev pub convert_error_of : LinesError → ConvertError
convert_error_of (lines.Unread why) = convert.Unread why
convert_error_of (lines.Line number why) = convert.Line number why

-- ---- many inputs

-- exactly what is due of the inputs before one was written, and then that one had a cause; the sources that are left tell those behind it
pub record StopsAtInput {I K : Type 0} (supply : I → Supply) (told : K → Told) (c : Conversion) (form : Shape) (inputs : List (List ℕ)) (left : List I) (why : ConvertError) (bad : List ℕ) (old new : K) : Type 0 where
  pub before : List (List ℕ)
  pub bytes : List ℕ
  pub behind : List (List ℕ)
  pub same : inputs ≡ before ++ (bytes ∷ behind)
  pub tells : TellInputs supply left behind
  pub middle : K
  pub writes : WritesDue (AreInputsDue c form before) (told old) (told middle)
  pub cause : IsInputCause told c form bytes why bad middle new

-- the sources behind one are left as they were; if that one wasn't read, this is why
pub record StopsAtSource {I : Type 0} (told : I → Supply) (why : ConvertError) (old new : List I) : Type 0 where
  pub before : List I
  pub source : I
  pub same : old ≡ before ++ (source ∷ new)
  pub stops : StopsReadingAt told why source
