-- Inputs that were converted, one after the other.
use Rattle.std.specs.Prelude.{◌≡◌, ℕ, List, [], ◌∷◌, ◌++◌, drop, length, Option, Some, None, Ok, Err, IfSome, refl}
use Rattle.std.proofs.Common.{sym, ap, subst, ◌∙◌, arith, append_assoc, append-nil}
use Rattle.std.proofs.lemmas.List.{length-drop}
use Rattle.sval_io.specs.Sinks.{Told}
use Rattle.sval_io.specs.Sources.{Supply}
use Rattle.sval_io.specs.WholeInputs.{TakesAll}
use Rattle.sval_io.proofs.Appending.{writes_nothing, writes_both}
use Rattle.sval_lines.specs.SourceLines.{HasLineCause}
use Rattle.sval_lines.specs.declared.error.LineError.{LineError}
use Rattle.sval_lines.specs.declared.error.LineError.TheVariants as line
use Rattle.sval_tool.specs.Conversions.{IsFedDue, WritesDue, IsDocumentCause}
use Rattle.sval_tool.specs.ConvertedLines.{ConvertsLines, HasLinesCause, no_line}
use Rattle.sval_tool.specs.ConvertedInputs.{IsInputDue, AreInputsDue, no_input, input_more, TellInputs, StopsAtDocument, ConvertsInput, IsReadCause, StopsReadingAt, convert_error_of, StopsAtInput, StopsAtSource}
use Rattle.sval_tool.specs.declared.convert.Conversion.{Conversion}
use Rattle.sval_tool.specs.declared.error.DocumentError.{DocumentError}
use Rattle.sval_tool.specs.declared.inputs.Shape.{Shape}
use Rattle.sval_tool.specs.declared.inputs.Shape.TheVariants as shape
use Rattle.sval_tool.specs.declared.inputs.ConvertError.{ConvertError}
use Rattle.sval_tool.specs.declared.inputs.ConvertError.TheVariants as convert
use Rattle.sval_tool.specs.declared.lines.LinesError.{LinesError}
use Rattle.sval_tool.specs.declared.lines.LinesError.TheVariants as lines

module _ {K : Type 0} (told : K → Told) (c : Conversion) where
  -- ---- one document

  -- it wasn't read, and nothing was written
  pub document_unread : (left : Option (List ℕ)) (before after : Supply) (why : LineError) (bad : List ℕ) (old : K) → HasLineCause why 0 before after
      → IfSome left (λ bytes. ConvertsInput told c shape.Document bytes (Err (convert.Unread why)) bad old old)
  document_unread None before after why bad old cause = tt
  document_unread (Some bytes) before after line.ReadFault bad old cause = refl
  document_unread (Some bytes) before after line.NoMemory bad old cause = refl
  document_unread (Some bytes) before after line.TooManyLines bad old cause = absurd (omega arith)

  pub document_done : (left rest : Option (List ℕ)) (bytes : List ℕ) (old new : K) → IfSome left (λ all. TakesAll all bytes rest) → WritesDue (IsFedDue c bytes) (told old) (told new)
      → IfSome left (λ bytes. ConvertsInput told c shape.Document bytes (Ok tt) [] old new)
  document_done None rest bytes old new t w = tt
  document_done (Some all) rest bytes old new t w = subst (λ (all : List ℕ). WritesDue (IsFedDue c all) (told old) (told new)) t.all w

  pub document_stopped : (left rest : Option (List ℕ)) (bytes bad : List ℕ) (why : DocumentError) (old new : K) → bad ≡ bytes → IfSome left (λ all. TakesAll all bytes rest)
      → IsDocumentCause told c (IsFedDue c bytes) bytes why old new → IfSome left (λ bytes. ConvertsInput told c shape.Document bytes (Err (convert.Document why)) bad old new)
  document_stopped None rest bytes bad why old new is t cause = tt
  document_stopped (Some all) rest bytes bad why old new is t cause =
      subst (λ (all : List ℕ). StopsAtDocument told c all bad why old new) t.all (record { is = is; cause = cause })

  -- ---- lines

  -- there was no memory for what is read ahead
  pub lines_unread : (left : Option (List ℕ)) (bad : List ℕ) (old : K) → IfSome left (λ bytes. ConvertsInput told c shape.Lines bytes (Err (convert.Unread line.NoMemory)) bad old old)
  lines_unread None bad old = tt
  lines_unread (Some bytes) bad old = (
    Some bytes,
    record {
      rest = bytes;
      count = 0;
      numbered = tt;
      middle = old;
      converts = record { text = []; due = no_line; writes = writes_nothing (told old) };
      cause = record { part = []; taken = record { rest = bytes; same = refl; left = refl }; same = refl };
    },
  )

  pub lines_done : (left ahead next : Option (List ℕ)) (old new : K) → ahead ≡ left → IfSome ahead (λ bytes. ConvertsLines told c bytes 0 (Ok tt) [] next old new)
      → IfSome left (λ bytes. ConvertsInput told c shape.Lines bytes (Ok tt) [] old new)
  lines_done left ahead next old new e w = go left (subst (λ (o : Option (List ℕ)). IfSome o (λ bytes. ConvertsLines told c bytes 0 (Ok tt) [] next old new)) e w)
    where
      go : (o : Option (List ℕ)) → IfSome o (λ bytes. ConvertsLines told c bytes 0 (Ok tt) [] next old new) → IfSome o (λ bytes. ConvertsInput told c shape.Lines bytes (Ok tt) [] old new)
      go None w = tt
      go (Some bytes) w = record { text = w.converts.text; due = (w.count, w.converts.due); writes = w.converts.writes }

  pub lines_stopped : (left ahead next : Option (List ℕ)) (before : ℕ) (line : List ℕ) (why : LinesError) (old new : K) → ahead ≡ left → before ≡ 0 → IfSome ahead (λ bytes. ConvertsLines told c bytes before (Err why) line next old new)
      → IfSome left (λ bytes. ConvertsInput told c shape.Lines bytes (Err (convert_error_of why)) line old new)
  lines_stopped left ahead next before line why old new e n w =
      go why left (subst (λ (o : Option (List ℕ)). IfSome o (λ bytes. ConvertsLines told c bytes 0 (Err why) line next old new)) e (subst (λ (k : ℕ). IfSome ahead (λ bytes. ConvertsLines told c bytes k (Err why) line next old new)) n w))
    where
      go : (why : LinesError) (o : Option (List ℕ)) → IfSome o (λ bytes. ConvertsLines told c bytes 0 (Err why) line next old new)
          → IfSome o (λ bytes. ConvertsInput told c shape.Lines bytes (Err (convert_error_of why)) line old new)
      go why None w = tt
      go (lines.Unread why) (Some bytes) w = (next, w)
      go (lines.Line number why) (Some bytes) w = (next, w)

-- the cause of lines, as one of inputs
pub cause_of_lines : (why : LinesError) (number : ℕ) (before old new : Supply) → before ≡ old → HasLinesCause why number before new → IsReadCause (convert_error_of why) old new
cause_of_lines (lines.Unread why) number before old new e cause = subst (λ (s : Supply). IsReadCause (convert.Unread why) s new) e (number, cause)
cause_of_lines (lines.Line line why) number before old new e cause = tt

-- ---- many inputs

-- some inputs were converted, and those of the sources that are left come next
pub record AreConvertedUpTo {I K : Type 0} (supply : I → Supply) (told : K → Told) (c : Conversion) (form : Shape) (inputs : List (List ℕ)) (left : List I) (old new : K) : Type 0 where
  pub before : List (List ℕ)
  pub rest : List (List ℕ)
  pub same : inputs ≡ before ++ rest
  pub tells : TellInputs supply left rest
  pub writes : WritesDue (AreInputsDue c form before) (told old) (told new)

-- of those that all sources tell
abbrev pub SoFar : {I K : Type 0} → (I → Supply) → (K → Told) → Conversion → Shape → List I → List I → K → K → Type 0
SoFar supply told c form all left old new = (inputs : List (List ℕ)) → TellInputs supply all inputs → AreConvertedUpTo supply told c form inputs left old new

module _ {I K : Type 0} (supply : I → Supply) (told : K → Told) (c : Conversion) (form : Shape) where
  pub none_so_far : (all : List I) (old : K) → SoFar supply told c form all all old old
  none_so_far all old inputs tells = record { before = []; rest = inputs; same = refl; tells = tells; writes = record { text = []; due = no_input; writes = writes_nothing (told old) } }

  -- the input that the first source tells
  abbrev FirstTold : I → List I → List (List ℕ) → Type 0
  FirstTold source left rest = (bytes : List ℕ) × (others : List (List ℕ)) × (rest ≡ bytes ∷ others) × ((supply source).left ≡ Some bytes) × TellInputs supply left others

  first_told : (source : I) (left : List I) (rest : List (List ℕ)) → TellInputs supply (source ∷ left) rest → FirstTold source left rest
  first_told source left [] tells = absurd (cc tells)
  first_told source left (bytes ∷ others) tells = (bytes, others, refl, cc tells, cc tells)

  pub one_so_far : (all mine left : List I) (source : I) (old mid new : K) → mine ≡ source ∷ left → SoFar supply told c form all mine old mid
      → IfSome (supply source).left (λ bytes. ConvertsInput told c form bytes (Ok tt) [] mid new) → SoFar supply told c form all left old new
  one_so_far all mine left source old mid new e far one inputs tells =
      let a = far inputs tells in
      let f = first_told source left a.rest (subst (λ (s : List I). TellInputs supply s a.rest) e a.tells) in
      let w : WritesDue (IsInputDue c form f.0) (told mid) (told new) = subst (λ (o : Option (List ℕ)). IfSome o (λ bytes. ConvertsInput told c form bytes (Ok tt) [] mid new)) f.3 one in
      record {
        before = a.before ++ (f.0 ∷ []);
        rest = f.1;
        same = a.same ∙ ap (λ (r : List (List ℕ)). a.before ++ r) f.2 ∙ sym (append_assoc a.before (f.0 ∷ []) f.1);
        tells = f.4;
        writes = record { text = a.writes.text ++ w.text; due = input_more f.0 w.text a.writes.due w.due; writes = writes_both a.writes.text w.text a.writes.writes w.writes };
      }

  pub then_input_stopped : (all mine left : List I) (source : I) (why : ConvertError) (bad : List ℕ) (old mid new : K) → mine ≡ source ∷ left → SoFar supply told c form all mine old mid
      → IfSome (supply source).left (λ bytes. ConvertsInput told c form bytes (Err why) bad mid new)
      → (inputs : List (List ℕ)) → TellInputs supply all inputs → StopsAtInput supply told c form inputs left why bad old new
  then_input_stopped all mine left source why bad old mid new e far one inputs tells =
      let a = far inputs tells in
      let f = first_told source left a.rest (subst (λ (s : List I). TellInputs supply s a.rest) e a.tells) in
      record {
        before = a.before;
        bytes = f.0;
        behind = f.1;
        same = a.same ∙ ap (λ (r : List (List ℕ)). a.before ++ r) f.2;
        tells = f.4;
        middle = mid;
        writes = a.writes;
        cause = subst (λ (o : Option (List ℕ)). IfSome o (λ bytes. ConvertsInput told c form bytes (Err why) bad mid new)) f.3 one;
      }

  none_told : (rest : List (List ℕ)) → TellInputs supply [] rest → rest ≡ []
  none_told [] tells = refl
  none_told (bytes ∷ rest) tells = absurd (cc tells)

  pub all_so_far : (all mine : List I) (old new : K) → mine ≡ [] → SoFar supply told c form all mine old new
      → (inputs : List (List ℕ)) → TellInputs supply all inputs → WritesDue (AreInputsDue c form inputs) (told old) (told new)
  all_so_far all mine old new e far inputs tells =
      let a = far inputs tells in
      let none = none_told a.rest (subst (λ (s : List I). TellInputs supply s a.rest) e a.tells) in
      let same : a.before ≡ inputs = sym (a.same ∙ ap (λ (r : List (List ℕ)). a.before ++ r) none ∙ append-nil a.before) in
      subst (λ (it : List (List ℕ)). WritesDue (AreInputsDue c form it) (told old) (told new)) same a.writes

-- nothing is left of sources that are those behind their first
pub nothing_left : {I : Type 0} (mine left : List I) → mine ≡ left → left ≡ drop 1 mine → mine ≡ []
nothing_left [] left same behind = refl
nothing_left (source ∷ mine) left same behind = absurd (omega (arith, ap length (same ∙ behind), length-drop 1 (source ∷ mine)))

-- the sources before those that are left
abbrev pub Passed : {I : Type 0} → List I → List I → Type 0
Passed {I} all left = (before : List I) × (all ≡ before ++ left)

pub source_passed : {I : Type 0} (all mine left : List I) (source : I) → mine ≡ source ∷ left → Passed all mine → Passed all left
source_passed all mine left source e p = (p.0 ++ (source ∷ []), p.1 ∙ ap (λ (s : List _). p.0 ++ s) e ∙ sym (append_assoc p.0 (source ∷ []) left))

pub stops_passed : {I : Type 0} (supply : I → Supply) (why : ConvertError) (all mine left : List I) (source : I) → mine ≡ source ∷ left → Passed all mine → StopsReadingAt supply why source
    → StopsAtSource supply why all left
stops_passed {I} supply why all mine left source e p s = record { before = p.0; source = source; same = p.1 ∙ ap (λ (s : List I). p.0 ++ s) e; stops = s }
