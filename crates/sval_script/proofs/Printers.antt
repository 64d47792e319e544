-- What a printer does, call by call.
use Rattle.std.specs.Prelude.{◌≡◌, ℕ, List, [], ◌∷◌, ◌++◌, Option, Some, None, Result, Ok, Err, IsErr, length}
use Rattle.std.specs.Result.{IsErrAnd}
use Rattle.std.specs.List.{AllByRecursion}
use Rattle.std.proofs.Common.{arith, inl, inr, sym, ap, ◌∙◌}
use Rattle.std.proofs.lemmas.List.{length-append}
use Rattle.sval_label.specs.Calls.{Call}
use Rattle.sval_core.specs.Law.{Standing, Takes, HasCause, Refuses, Ran}
use Rattle.sval_io.specs.declared.sink.SinkError.{SinkError}
use Rattle.sval_io.specs.declared.sink.SinkError.TheVariants.{Failed, NoMemory}
use Rattle.sval_io.specs.Sinks.{Told, NoCountFell, IsCounted, appended, less_room, WritesWhole, WritesFront}
use Rattle.sval_io.proofs.Appending.{appended-appended, appended-nothing, less_room-zero, less_room-less_room}
use Rattle.sval_script.specs.declared.print_error.PrintError.{PrintError}
use Rattle.sval_script.specs.declared.print_error.PrintError.TheVariants as error
use Rattle.sval_script.specs.Printed.{printed}
use Rattle.sval_script.specs.Printing.{Printing, HasKnownTags, IsCutBy, PrintsLine, print_error_of, whole_line, with_printed, printer_law}

-- what a sink tells but for what it holds back
abbrev pub unheld : Told → Told
unheld told = record told { held = None }

-- where a printer stands whose sink tells this
abbrev pub stands : Told → Option PrintError → Standing Printing
stands told why = record { view = record { told = unheld told; why = why }; faults = told.faults; wants = told.wants }

-- ---- one call

pub cut_by_sink : {old new : Told} (error : SinkError) (why : PrintError) (call : Call) → why ≡ print_error_of error → HasKnownTags call → WritesFront error old (whole_line call) new
    → IsCutBy (Some why) call old new
cut_by_sink Failed why call is known front = rw is (known, front)
cut_by_sink NoMemory why call is known front = rw is (known, front)

-- where a `?` passes on what the sink answered
pub passes_cut : {old new : Told} (error : SinkError) (r : Result (Unit {0}) PrintError) (call : Call) → IsErr r → IsErrAnd r (λ why. why ≡ print_error_of error) → HasKnownTags call
    → WritesFront error old (whole_line call) new → PrintsLine r old call new
passes_cut error (Ok done) call is why known front = cc is
passes_cut error (Err why) call is same known front = cut_by_sink error why call same known front

counted_unheld : (old new : Told) (error : SinkError) → IsCounted error old new → IsCounted error (unheld old) (unheld new)
counted_unheld old new Failed cause = cause
counted_unheld old new NoMemory cause = cause

front_unheld : {old new : Told} {error : SinkError} (bytes : List ℕ) → WritesFront error old bytes new → WritesFront error (unheld old) bytes (unheld new)
front_unheld {old} {new} {error = error} bytes f = record {
  front = record { count = f.front.count; within = f.front.within; appends = record { fits = f.front.appends.fits; text = f.front.appends.text; room = f.front.appends.room } };
  part = record { count = f.part.count; within = f.part.within; appends = record { fits = f.part.appends.fits; text = f.part.appends.text; room = f.part.appends.room } };
  cause = counted_unheld old new error f.cause;
  full = f.full;
  counts = record { faults = f.counts.faults; wants = f.counts.wants };
}

pub cut_unheld : (old new : Told) (why : PrintError) (call : Call) → IsCutBy (Some why) call old new → IsCutBy (Some why) call (unheld old) (unheld new)
cut_unheld old new error.UnknownTag call cut = (cut.0, ap unheld cut.1)
cut_unheld old new error.Write call cut = (cut.0, front_unheld (whole_line call) cut.1)
cut_unheld old new error.NoMemory call cut = (cut.0, front_unheld (whole_line call) cut.1)
cut_unheld old new error.Refused call cut = cut

-- why a printer refused, as the law asks
pub cut_cause : (old new : Told) (before : Option PrintError) (why : PrintError) (call : Call) → IsCutBy (Some why) call old new
    → HasCause printer_law (stands old before).view call (stands old before) (stands new (Some why))
cut_cause old new before error.UnknownTag call cut = inl (λ may. cut.0 may.known)
cut_cause old new before error.Write call cut = inr (inl cut.1.cause)
cut_cause old new before error.NoMemory call cut = inr (inr cut.1.cause)
cut_cause old new before error.Refused call cut = absurd cut

pub cut_counts : (old new : Told) (why : PrintError) (call : Call) → IsCutBy (Some why) call old new → NoCountFell old new
cut_counts old new error.UnknownTag call cut = rw cut.1 (record { faults = omega arith; wants = omega arith })
cut_counts old new error.Write call cut = cut.1.counts
cut_counts old new error.NoMemory call cut = cut.1.counts
cut_counts old new error.Refused call cut = absurd cut

pub refuses_call : (old new : Told) (before : Option PrintError) (why : PrintError) (call : Call) → IsCutBy (Some why) call old new
    → Refuses printer_law (stands old before) call (stands new (Some why))
refuses_call old new before why call cut =
    let counts = cut_counts old new why call cut in
    record { cause = cut_cause old new before why call cut; left = cut_unheld old new why call cut; faults = counts.faults; wants = counts.wants }

-- the sink after a line
pub told_after : (old new : Told) (why : Option PrintError) (bytes : List ℕ) → WritesWhole old bytes new → (stands new why).view ≡ with_printed bytes (stands old why).view
told_after old new why bytes w =
    let text = w.appends.text in let room = w.appends.room in let faults = w.steady.faults in let wants = w.steady.wants in cc

pub takes_call : (old new : Told) (why : Option PrintError) (call : Call) → HasKnownTags call → WritesWhole old (whole_line call) new
    → Takes printer_law (stands old why) call (stands new why)
takes_call old new why call known w = record {
  accepted = record { known = known; fits = w.appends.fits };
  view = told_after old new why (whole_line call) w;
  faults = w.steady.faults;
  wants = w.steady.wants;
}

-- ---- many calls

abbrev with_both : Printing → Option (List ℕ) → Option ℕ → Printing
with_both printing text room = record printing { told = record printing.told { text = text; room = room } }

with_bytes-nothing : (printing : Printing) → with_printed [] printing ≡ printing
with_bytes-nothing printing =
    ap (λ text. with_both printing text (less_room printing.told.room 0)) (appended-nothing printing.told.text)
    ∙ ap (with_both printing printing.told.text) (less_room-zero printing.told.room)

with_bytes-append : (printing : Printing) (xs ys : List ℕ) → with_printed ys (with_printed xs printing) ≡ with_printed (xs ++ ys) printing
with_bytes-append printing xs ys =
    ap (λ text. with_both printing text (less_room (less_room printing.told.room (length xs)) (length ys))) (appended-appended printing.told.text xs ys)
    ∙ ap (with_both printing (appended printing.told.text (xs ++ ys))) (less_room-less_room printing.told.room (length xs) (length ys) ∙ ap (less_room printing.told.room) (sym (length-append xs ys)))

pub prints_all : (calls : List Call) (begun done : Printing) → Ran printer_law begun calls done → AllByRecursion HasKnownTags calls × (done ≡ with_printed (printed calls) begun)
unfolding printed
prints_all [] begun done ran = (tt, ran ∙ sym (with_bytes-nothing begun))
prints_all (call ∷ calls) begun done (may, ran) =
    let (known, is) = prints_all calls (with_printed (whole_line call) begun) done ran in
    ((may.known, known), is ∙ with_bytes-append begun (whole_line call) (printed calls))
