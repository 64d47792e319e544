-- The machine's step in two parts: what makes ready for a call, and what is done once it is taken.
use Rattle.std.specs.Prelude.{◌≡◌, Bool, true, Option, Some, None, is_some, Result, Ok, Err}
use Rattle.sval_label.specs.Calls.{Name, Record, Tuple, RecordTuple}
use Rattle.sval_core.specs.Checker.{State}
use Rattle.sval_core.specs.CheckerSteps.{filled, Step, enum_end, tagged_end, end}
use Rattle.sval_core.specs.Stacks.{below}
use Rattle.sval_check.specs.declared.machine.Due.{Due}
use Rattle.sval_check.specs.declared.machine.Due.TheVariants as due
use Rattle.sval_check.specs.declared.kept.NamedValue.{NamedValue}
use Rattle.sval_check.specs.declared.kept.NamedValue.TheVariants as value
use Rattle.sval_check.specs.declared.machine.Refusal.{Refusal}
use Rattle.sval_check.specs.declared.machine.Refusal.TheVariants.{NotViable, NoMemory}
use Rattle.sval_check.specs.Tops.{with_left, after_part, under_top}

-- the state once what is due is done
abbrev pub finished : Due → State → State
finished due.Nothing s = s
finished due.Filled s = filled s.frames
finished due.Opened s = s
finished (due.Advanced left) s = record s { frames = under_top (after_part left) s.frames }
finished (due.Left content left) s = record s { frames = with_left content left s.frames }
finished (due.Closed is_filled) s = record { filled = is_filled; frames = below s.frames }

-- the state once a frame that was opened is closed again
abbrev pub undone : Due → State → State
undone due.Opened s = record s { frames = below s.frames }
undone (due.Advanced left) s = record s { frames = below s.frames }
undone other s = s

-- what making ready for a call says, of which the machine makes this: it goes on by what is due, isn't viable, or memory was wanting for the frame that it opens
abbrev pub Readies : (opening : Bool) → Option State → State → State → Result Due Refusal → Type 0
Readies opening after old new (Ok due) = (after ≡ Some (finished due new)) × (old ≡ undone due new)
Readies opening after old new (Err NotViable) = (after ≡ None) × (new ≡ old)
Readies opening after old new (Err NoMemory) = (opening ≡ true) × (is_some after ≡ true) × (new ≡ old)

-- what the whole step says, of which the machine makes this: it goes on with the call, which isn't viable, or memory was wanting for the frame that it opens
abbrev pub StepsTo : (opening : Bool) → Option State → State → Result (Unit {0}) Refusal → Type 0
StepsTo opening after new (Ok done) = after ≡ Some new
StepsTo opening after new (Err NotViable) = after ≡ None
StepsTo opening after new (Err NoMemory) = (opening ≡ true) × (is_some after ≡ true)

-- the machine's step of the end of a value that says this name
abbrev pub named_end : NamedValue → Name → Step
named_end value.Tagged name = tagged_end name
named_end value.Enum name = enum_end name
named_end value.Record name = end (Record name)
named_end value.Tuple name = end (Tuple name)
named_end value.RecordTuple name = end (RecordTuple name)
