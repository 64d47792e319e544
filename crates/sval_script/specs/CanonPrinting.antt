-- Calls printed canonically to a sink: the law of a stream over a printer's sink, which is shown the canonical calls alone.
use Rattle.std.specs.Prelude.{◌≡◌, Option, Some, None, IfSome, Result, Ok}
use Rattle.std.specs.Borrow.{MutBor}
use Rattle.sval_label.specs.Calls.{Call}
use Rattle.sval_core.specs.Law.{Law, Standing, Through}
use Rattle.sval_io.specs.Sinks.{Told}
use Rattle.sval_script.specs.declared.print_error.PrintError.{PrintError}
use Rattle.sval_script.specs.declared.canon.CanonPrinter.{CanonPrinter}
use Rattle.sval_script.specs.Printed.{canonical_call}
use Rattle.sval_script.specs.Printing.{Printing, PrintsLine, MayPrint, IsCutBy, whole_line, with_printed}

-- the printer after a call that is shown so
abbrev pub after_shown : Printing → Option Call → Printing
after_shown printing None = printing
after_shown printing (Some call) = with_printed (whole_line call) printing

-- what a refused call leaves, where it is shown so; one that isn't shown is never refused
abbrev pub IsShownCut : Option Call → Printing → Printing → Type 0
IsShownCut None old left = ⊥
IsShownCut (Some call) old left = IsCutBy left.why call old.told left.told

-- what printing a call says that is shown so: its line is printed, or nothing is where it isn't shown
abbrev pub PrintsShown : Result (Unit {0}) PrintError → Told → Option Call → Told → Type 0
PrintsShown result old None new = (result ≡ Ok tt) × (new ≡ old)
PrintsShown result old (Some call) new = PrintsLine result old call new

-- a call is taken where it isn't shown or a printer takes the canonical one, and then that one's line was written
abbrev pub canon_law : Law (Through Printing)
canon_law = record {
  accepts = λ view call. IfSome (canonical_call call) (MayPrint view.0);
  after = λ view call. (after_shown view.0 (canonical_call call), view.1);
  stopped = λ view call left. IsShownCut (canonical_call call) view.0 left.0 × (left.1 ≡ view.1);
}

-- ---- the stream in code

-- what the sink tells, and the cause of the last refusal
abbrev pub canon_printing : {K : Type 0} → (K → Told) → MutBor K → Option PrintError → Printing
canon_printing told out why = record { told = record (told out.now) { held = None }; why = why }

-- the stream as its law sees it, with the two counts of the sink; `told` is what the sink tells
abbrev pub canon_standing : {K : Type 0} → (K → Told) → CanonPrinter K → Standing (Through Printing)
canon_standing told printer =
    record { view = (canon_printing told printer.out printer.why, printer.out.ghost_name); faults = (told printer.out.now).faults; wants = (told printer.out.now).wants }
