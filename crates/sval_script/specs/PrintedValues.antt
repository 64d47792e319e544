-- What printing all calls of a value leaves of a sink.
use Rattle.std.specs.Prelude.{◌≡◌, true, false, List, ◌∷◌, ◌++◌, Result, Err, OnOk, OnErr}
use Rattle.std.specs.List.{AllByRecursion}
use Rattle.sval_label.specs.Calls.{Call}
use Rattle.sval_core.specs.Law.{Emission, Rose}
use Rattle.sval_io.specs.Sinks.{Told, IsSteady, IsQuiet, NoCountFell, Appends, AppendsFront, AppendsPart, LacksRoom}
use Rattle.sval_script.specs.declared.print_error.PrintError.{PrintError}
use Rattle.sval_script.specs.declared.print_error.PrintError.TheVariants as error
use Rattle.sval_script.specs.Printed.{printed}
use Rattle.sval_script.specs.Printing.{HasKnownTags}

-- all tags of the calls are among the ten names
abbrev pub HaveKnownTags : List Call → Type 0
HaveKnownTags calls = AllByRecursion HasKnownTags calls

-- all tags are known, and exactly the lines of these calls were taken
pub record ArePrinted (calls : List Call) (old new : Told) : Type 0 where
  pub known : HaveKnownTags calls
  pub appends : Appends old (printed calls) new
  pub steady : IsSteady old new

-- the calls begin with these, whose tags are all known
pub record BeginsKnown (calls front : List Call) : Type 0 where
  pub later : List Call
  pub are : calls ≡ front ++ later
  pub known : HaveKnownTags front

-- a first part of the lines was taken, and nothing of a call with an unknown tag nor behind it
pub record AreBegun (calls : List Call) (old new : Told) : Type 0 where
  pub front : List Call
  pub begins : BeginsKnown calls front
  pub appends : AppendsFront old (printed front) new

-- the same, and not all of the lines were taken
pub record AreCut (calls : List Call) (old new : Told) : Type 0 where
  pub front : List Call
  pub begins : BeginsKnown calls front
  pub appends : AppendsPart old (printed front) new

-- the lines have no place in the room that is told, also without those from a call with an unknown tag on
pub record AreTooLongFor (calls : List Call) (old : Told) : Type 0 where
  pub front : List Call
  pub begins : BeginsKnown calls front
  pub lacks : LacksRoom old (printed front)

-- exactly the lines of the calls before the first with an unknown tag were taken
pub record EndsUnknown (calls : List Call) (old new : Told) : Type 0 where
  pub front : List Call
  pub call : Call
  pub later : List Call
  pub are : calls ≡ front ++ (call ∷ later)
  pub unknown : HasKnownTags call → ⊥
  pub printed_before : ArePrinted front old new

-- the value refuses, and all tags of its calls are known
pub record RefusesPrintable (emission : Emission) : Type 0 where
  pub refuses : emission.refuses ≡ true
  pub known : HaveKnownTags emission.calls

-- the value refused after all of its calls were printed
pub record EndsPrinted (emission : Emission) (old new : Told) : Type 0 where
  pub refuses : emission.refuses ≡ true
  pub all_printed : ArePrinted emission.calls old new

-- ---- what printing answers

-- On Ok the sink took the lines of all calls. Each error comes only where it is so, and where no count of the sink rose, the answer
-- that is due comes. Whatever comes, a first part of the lines that are due was taken, not all of them where the sink declined, and no
-- count falls.
pub record PrintsValue (emission : Emission) (result : Result (Unit {0}) PrintError) (old new : Told) : Type 0 where
  pub all_printed : OnOk result (ArePrinted emission.calls old new)
  pub willing : OnOk result (emission.refuses ≡ false)
  pub refused_comes : RefusesPrintable emission → IsQuiet old new → result ≡ Err error.Refused
  pub refused : result ≡ Err error.Refused → EndsPrinted emission old new
  pub unknown_comes : (HaveKnownTags emission.calls → ⊥) → IsQuiet old new → result ≡ Err error.UnknownTag
  pub unknown : result ≡ Err error.UnknownTag → EndsUnknown emission.calls old new
  pub write : result ≡ Err error.Write → Rose old.faults new.faults
  pub write_room : result ≡ Err error.Write → AreTooLongFor emission.calls old
  pub write_short : result ≡ Err error.Write → AreCut emission.calls old new
  pub no_memory : result ≡ Err error.NoMemory → Rose old.wants new.wants
  pub no_memory_short : result ≡ Err error.NoMemory → AreCut emission.calls old new
  pub counts : NoCountFell old new
  pub prefix : OnErr result (AreBegun emission.calls old new)
