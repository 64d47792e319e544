-- Calls printed to a sink, each as its line: the law of a printer.
use Rattle.std.specs.Prelude.{◌≡◌, ℕ, ⊤, true, List, [], ◌∷◌, ◌++◌, Option, Some, None, Result, Ok, Err, codes, length, get_or, drop}
use Rattle.sval_label.specs.Tags.{is_tag_name}
use Rattle.sval_label.specs.Calls.{Call}
use Rattle.sval_label.specs.Calls.{Standalone, TagHint, EnumBegin, EnumEnd, TaggedBegin, TaggedEnd, Begin, End, PartBegin, PartEnd}
use Rattle.sval_core.specs.Law.{Law, Standing}
use Rattle.sval_core.specs.Real.{head_name, HasScriptTags, SlotHasScriptTags}
use Rattle.sval_io.specs.declared.sink.SinkError.{SinkError}
use Rattle.sval_io.specs.declared.sink.SinkError.TheVariants.{Failed, NoMemory}
use Rattle.sval_io.specs.Sinks.{Told, appended, less_room, HasRoom, WritesWhole, WritesFront, WritesAll}
use Rattle.sval_script.specs.declared.print_error.PrintError.{PrintError}
use Rattle.sval_script.specs.declared.print_error.PrintError.TheVariants as error
use Rattle.sval_script.specs.declared.printer.Printer.{Printer}
use Rattle.sval_script.specs.Printed.{words_of, line}

-- fields of a line, each after its space
abbrev pub spaced : List (List ℕ) → List ℕ
spaced [] = []
spaced (field ∷ fields) = 32 ∷ (field ++ spaced fields)

-- what the answer of writing fields says
abbrev pub WritesFields : Result (Unit {0}) SinkError → Told → List (List ℕ) → Told → Type 0
WritesFields result old fields new = WritesAll result old (spaced fields) new

-- the word that a call's line begins with
abbrev pub word_of : Call → List ℕ
word_of call = get_or (words_of call) 0 []

-- the fields of a call's line
abbrev pub fields_of : Call → List (List ℕ)
fields_of call = drop 1 (words_of call)

-- a call's line with its line feed
abbrev pub whole_line : Call → List ℕ
whole_line call = line call ++ (10 ∷ [])

-- ---- the causes

-- the cause that a sink's error is
abbrev pub print_error_of : SinkError → PrintError
print_error_of Failed = error.Write
print_error_of NoMemory = error.NoMemory

-- what is shown of a cause
abbrev pub print_error_text : PrintError → List ℕ
print_error_text error.Write = codes "failed to write a script"
print_error_text error.UnknownTag = codes "a tag has no name in scripts"
print_error_text error.Refused = codes "a value refused to be printed"
print_error_text error.NoMemory = codes "cannot allocate for a script"

-- all tags of the call are among the ten names
abbrev pub HasKnownTags : Call → Type 0
HasKnownTags (Standalone name) = HasScriptTags name
HasKnownTags (TagHint tag) = is_tag_name tag ≡ true
HasKnownTags (EnumBegin name) = HasScriptTags name
HasKnownTags (EnumEnd name) = HasScriptTags name
HasKnownTags (TaggedBegin name) = HasScriptTags name
HasKnownTags (TaggedEnd name) = HasScriptTags name
HasKnownTags (Begin head size) = HasScriptTags (head_name head)
HasKnownTags (End head) = HasScriptTags (head_name head)
HasKnownTags (PartBegin slot) = SlotHasScriptTags slot
HasKnownTags (PartEnd slot) = SlotHasScriptTags slot
HasKnownTags call = ⊤

-- ---- the law

-- what a printer has taken, as a stream: what its sink tells but for what it holds back, and the cause of the last refusal
pub record Printing : Type 0 where
  pub told : Told
  pub why : Option PrintError

-- all tags of the call are known, and its line has room
pub record MayPrint (printing : Printing) (call : Call) : Type 0 where
  pub known : HasKnownTags call
  pub fits : HasRoom printing.told (whole_line call)

-- the printer after its sink took these bytes
abbrev pub with_printed : List ℕ → Printing → Printing
with_printed bytes printing =
    record printing { told = record printing.told { text = appended printing.told.text bytes; room = less_room printing.told.room (length bytes) } }

-- what a refused call leaves, by its cause: nothing of a call with an unknown tag, and else a first part of the line
abbrev pub IsCutBy : Option PrintError → Call → Told → Told → Type 0
IsCutBy (Some error.UnknownTag) call old new = (HasKnownTags call → ⊥) × (new ≡ old)
IsCutBy (Some error.Write) call old new = HasKnownTags call × WritesFront Failed old (whole_line call) new
IsCutBy (Some error.NoMemory) call old new = HasKnownTags call × WritesFront NoMemory old (whole_line call) new
IsCutBy (Some error.Refused) call old new = ⊥
IsCutBy None call old new = ⊥

-- what the answer of printing a call says
abbrev pub PrintsLine : Result (Unit {0}) PrintError → Told → Call → Told → Type 0
PrintsLine (Ok done) old call new = HasKnownTags call × WritesWhole old (whole_line call) new
PrintsLine (Err why) old call new = IsCutBy (Some why) call old new

-- a call is taken where its tags are known and its line has room, and then the line was written
abbrev pub printer_law : Law Printing
printer_law = record {
  accepts = λ printing call. MayPrint printing call;
  after = λ printing call. with_printed (whole_line call) printing;
  stopped = λ printing call left. IsCutBy left.why call printing.told left.told;
}

-- ---- the printer in code

-- the sink that it prints to
abbrev pub printer_sink : {K : Type 0} → Printer K → K
printer_sink printer = printer.out

-- the cause of the last refusal
abbrev pub last_error : {K : Type 0} → Printer K → Option PrintError
last_error printer = printer.why

-- the printer as its law sees it; `told` is what the sink tells
abbrev pub printing_of : {K : Type 0} → (K → Told) → Printer K → Printing
printing_of told printer = record { told = record (told (printer_sink printer)) { held = None }; why = last_error printer }

-- the same with the two counts of the sink
abbrev pub printer_standing : {K : Type 0} → (K → Told) → Printer K → Standing Printing
printer_standing told printer =
    let sink = told (printer_sink printer) in record { view = printing_of told printer; faults = sink.faults; wants = sink.wants }
