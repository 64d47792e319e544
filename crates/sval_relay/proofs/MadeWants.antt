-- A made script that is printed into memory stops only where memory was wanting.
use Rattle.std.specs.Prelude.{◌≡◌, ℕ, ◌≤◌, false, List, [], ◌∷◌, ◌++◌, flat_map, Option, Some, None, refl}
use Rattle.std.specs.List.{range_with_len}
use Rattle.std.proofs.Common.{arith, inl, inr, subst}
use Rattle.sval_label.specs.Calls.{Call, End, Seq}
use Rattle.sval_core.specs.Law.{Standing, Stops, StoppedIn, Rose, one_more}
use Rattle.sval_core.specs.Values.{makes}
use Rattle.sval_core.specs.ValueCalls.{item_calls}
use Rattle.sval_io.specs.Sinks.{Told}
use Rattle.sval_io.specs.Taken.{Taken, taken_told}
use Rattle.sval_script.specs.declared.print_error.PrintError.{PrintError}
use Rattle.sval_script.specs.declared.print_error.PrintError.TheVariants as error
use Rattle.sval_script.specs.declared.printer.Printer.{Printer}
use Rattle.sval_script.specs.Printing.{Printing, HasKnownTags, IsCutBy, last_error, printer_law, printer_standing, printing_of, whole_line, with_printed}
use Rattle.sval_script.specs.PrintedValues.{HaveKnownTags}
use Rattle.sval_relay.specs.Made.{id_calls, name_calls, record_calls, made_calls}

-- ---- the tags of a made script have names

known-append : (calls more : List Call) → HaveKnownTags calls → HaveKnownTags more → HaveKnownTags (calls ++ more)
known-append [] more known later = later
known-append (call ∷ calls) more known later = (known.0, known-append calls more known.1 later)

record_known : (i : ℕ) → HaveKnownTags (item_calls record_calls i)
unfolding record_calls id_calls name_calls
record_known i = (tt, ((tt, tt, tt), ((tt, refl), (tt, ((tt, refl), ((tt, refl), (tt, (tt, (tt, (tt, ((tt, refl), ((tt, tt, tt), (tt, tt)))))))))))))

records_known : (numbers : List ℕ) → HaveKnownTags (flat_map (item_calls record_calls) numbers)
records_known [] = tt
records_known (i ∷ numbers) = known-append (item_calls record_calls i) (flat_map (item_calls record_calls) numbers) (record_known i) (records_known numbers)

made_known : (count : ℕ) → HaveKnownTags (made_calls count)
made_known count =
    let numbers = range_with_len 0 count in
    ((tt, tt, tt), known-append (flat_map (item_calls record_calls) numbers) (End Seq ∷ []) (records_known numbers) ((tt, tt, tt), tt))

-- ---- memory has no faults

no_fault : (before now : ℕ) → before ≡ 0 → now ≡ 0 → Rose before now → ⊥
no_fault before now none still up =
    let first : one_more 0 ≤ now = subst (λ n. one_more n ≤ now) none up in omega (arith, first, still)

cut_is_want : (why : Option PrintError) (call : Call) (old new : Told) → HasKnownTags call → old.faults ≡ 0 → new.faults ≡ 0 → IsCutBy why call old new
    → why ≡ Some error.NoMemory
cut_is_want (Some error.UnknownTag) call old new known none still cut = absurd (cut.0 known)
cut_is_want (Some error.Write) call old new known none still cut = absurd (no_fault old.faults new.faults none still cut.1.cause)
cut_is_want (Some error.NoMemory) call old new known none still cut = refl
cut_is_want (Some error.Refused) call old new known none still cut = absurd cut
cut_is_want None call old new known none still cut = absurd cut

stop_is_want : (old new : Standing Printing) (view : Printing) (calls : List Call) → HaveKnownTags calls → view.told.faults ≡ 0 → new.view.told.faults ≡ 0
    → StoppedIn printer_law old new view calls false → new.view.why ≡ Some error.NoMemory
stop_is_want old new view [] known none still s = absurd (cc s.0)
stop_is_want old new view (call ∷ calls) known none still (inl s) = cut_is_want new.view.why call view.told new.view.told known.0 none still s.1
stop_is_want old new view (call ∷ calls) known none still (inr s) = stop_is_want old new (with_printed (whole_line call) view) calls known.1 none still s.1

-- a printer into memory that didn't take the calls of a made script wanted memory
pub made_stop_is_want : (count : ℕ) {old new : Printer Taken} → Stops printer_law (printer_standing taken_told old) (makes (made_calls count)) (printer_standing taken_told new)
    → last_error new ≡ Some error.NoMemory
made_stop_is_want count {old} {new} s =
    stop_is_want (printer_standing taken_told old) (printer_standing taken_told new) (printing_of taken_told old) (made_calls count) (made_known count) refl refl s.stopped
