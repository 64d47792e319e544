-- What a run says: when each status comes, what is left of the devices, and which line was told.
use Rattle.std.specs.Prelude.{◌≡◌, ◌⊎◌, ◌↔◌, ℕ, ◌<◌, ◌≤◌, Bool, true, false, not, List, [], ◌∷◌, Option, None, Some, Result, Err}
use Rattle.sval_core.specs.Law.{Rose}
use Rattle.sval_io.specs.Sinks.{Told, HoldsNothing, IsSteady, NoCountFell, Appends, AppendsFront}
use Rattle.sval_io.specs.WholeInputs.{IsTooLong, StaysShort, StaysBelow}
use Rattle.sval_io.specs.Sources.{Supply}
use Rattle.sval_program.specs.declared.failure.Fault.{Fault}
use Rattle.sval_program.specs.declared.failure.Failure.{Failure}
use Rattle.sval_program.specs.declared.failure.Failure.TheVariants as failure
use Rattle.sval_program.specs.declared.status.TheConstants.{DONE, USAGE, WRITE, READ, NO_MEMORY, TOO_LONG}
use Rattle.sval_program.specs.Failures.{status_of_fault, status_of_found, status_of, failure_line, is_fault, is_read}
use Rattle.sval_program.specs.Inputs.{OnBoth, OnShort, OnLong, IsSpentIf, input_if}
use Rattle.sval_program.specs.Jobs.{Terms, may_write, Works}
use Rattle.sval_program.specs.Outputs.{Grows, IsWantIf}
use Rattle.sval_program.specs.Reports.{TellsLine}
use Rattle.sval_program.specs.Statuses.{is_among}

-- ---- the statuses

-- the statuses that a program has
abbrev pub is_status : {Form : Type 0} → Terms Form → ℕ → Bool
is_status terms status = is_among status (DONE ∷ USAGE ∷ WRITE ∷ READ ∷ NO_MEMORY ∷ TOO_LONG ∷ terms.faults)

-- those that come before anything is written
abbrev pub is_unwritten : {Form : Type 0} → Terms Form → ℕ → Bool
is_unwritten terms status = not (is_among status (DONE ∷ WRITE ∷ NO_MEMORY ∷ terms.written))

-- ---- facts on the input, and on what is asked for of it

-- whether the input is read for these words
abbrev pub reads : {Form : Type 0} → Terms Form → List (List ℕ) → Bool
reads terms words = terms.reads (terms.form_named words)

-- a fact where the words are a form, and the source tells its bytes; of no bytes, where it isn't read
abbrev pub OnNamed : {Form : Type 0} → Terms Form → List (List ℕ) → Supply → (List ℕ → Form → Type 0) → Type 0
OnNamed terms words input P = OnBoth (terms.form_named words) (input_if (reads terms words) input) P

-- exactly the bytes that are due were taken
pub record TakesDue {Form : Type 0} (terms : Terms Form) (found : Option Fault) (old new : Told) (input : List ℕ) (asked : Form) : Type 0 where
  pub bytes : List ℕ
  pub due : terms.Due asked input found bytes
  pub appends : Appends old bytes new

-- a fault of this status is due, and exactly the bytes before it were taken
pub record TakesFault {Form : Type 0} (terms : Terms Form) (status : ℕ) (old new : Told) (input : List ℕ) (asked : Form) : Type 0 where
  pub why : Fault
  pub is : status ≡ status_of_fault why
  pub takes : TakesDue terms (Some why) old new input asked

-- the status is that of what is due
pub record IsStatusOf {Form : Type 0} (terms : Terms Form) (status : ℕ) (input : List ℕ) (asked : Form) : Type 0 where
  pub found : Option Fault
  pub bytes : List ℕ
  pub due : terms.Due asked input found bytes
  pub is : status ≡ status_of_found found

-- it came, or memory was wanting
abbrev pub IsStatusDue : {Form : Type 0} → Terms Form → ℕ → List ℕ → Form → Type 0
IsStatusDue terms status input asked = IsStatusOf terms status input asked ⊎ (status ≡ NO_MEMORY)

-- a first part of the bytes that are due was taken
pub record TakesFront {Form : Type 0} (terms : Terms Form) (old new : Told) (input : List ℕ) (asked : Form) : Type 0 where
  pub found : Option Fault
  pub bytes : List ℕ
  pub due : terms.Due asked input found bytes
  pub may : may_write terms found ≡ true
  pub front : AppendsFront old bytes new

-- it was, or the sink is as it was
abbrev pub MayLeave : {Form K : Type 0} → Terms Form → (K → Told) → K → K → List ℕ → Form → Type 0
MayLeave terms told old new input asked = (new ≡ old) ⊎ TakesFront terms (told old) (told new) input asked

-- this fault is due
abbrev pub HasFault : {Form : Type 0} → Terms Form → Fault → List ℕ → Form → Type 0
HasFault terms why input asked = (bytes : List ℕ) × terms.Due asked input (Some why) bytes

-- no fault was counted
pub record AreQuiet {I K : Type 0} (source : I → Supply) (sink : K → Told) (before after : I) (old new : K) : Type 0 where
  pub input : Rose (source before).faults (source after).faults → ⊥
  pub out : Rose (sink old).faults (sink new).faults → ⊥

-- all that was left was taken, or fewer bytes than are read at most
abbrev pub TakesAllOrLess : {Form : Type 0} → Supply → Supply → List ℕ → Form → Type 0
TakesAllOrLess old new input asked = (new.left ≡ Some []) ⊎ StaysBelow old new

-- ---- a run

-- what is so of a run but for its line: of its words, its source, its sink and its status. The third device is no part of it
pub record Ends {Form I K : Type 0} (terms : Terms Form) (source : I → Supply) (sink : K → Told) (words : List (List ℕ)) (before after : I) (old new : K) (status : ℕ) : Type 0 where
  pub known : is_status terms status ≡ true
  -- each status comes only where it is so
  pub usage : (status ≡ USAGE) ↔ (terms.form_named words ≡ None)
  pub done : status ≡ DONE → OnNamed terms words (source before) (TakesDue terms None (sink old) (sink new))
  pub flushed : status ≡ DONE → HoldsNothing (sink new)
  pub finds : is_fault status ≡ true → OnNamed terms words (source before) (TakesFault terms status (sink old) (sink new))
  pub write : status ≡ WRITE → Rose (sink old).faults (sink new).faults
  pub read : status ≡ READ → Rose (source before).faults (source after).faults
  pub own_want : status ≡ NO_MEMORY → IsWantIf (terms.partly (terms.form_named words)) sink old new
  pub want : status ≡ NO_MEMORY → OnNamed terms words (source before) (TakesAllOrLess (source before) (source after))
  pub long : status ≡ TOO_LONG → IsTooLong (source before) (source after)
  -- a fault of the source that was counted means READ
  pub read_comes : (source before).faults < (source after).faults → status ≡ READ
  -- where the devices don't fail, the status is the one that is due, or memory was wanting
  pub comes : AreQuiet source sink before after old new → OnNamed terms words (source before) (OnShort (IsStatusDue terms status))
  pub long_comes : (Rose (source before).faults (source after).faults → ⊥) → OnNamed terms words (source before) (OnLong ((status ≡ TOO_LONG) ⊎ (status ≡ NO_MEMORY)))
  -- what is left of the sink
  pub untouched : is_unwritten terms status ≡ true → new ≡ old
  pub leaves : OnNamed terms words (source before) (OnShort (MayLeave terms sink old new))
  pub leaves_long : OnNamed terms words (source before) (OnLong (new ≡ old))
  pub grows : Grows (sink old) (sink new)
  -- what is left of the source
  pub nothing_read : status ≡ USAGE → after ≡ before
  pub unread : reads terms words ≡ false → after ≡ before
  pub nothing_written : status ≡ USAGE → new ≡ old
  pub spent : is_read status ≡ true → OnNamed terms words (source before) (IsSpentIf (reads terms words) (source after))
  pub short : (status ≡ TOO_LONG → ⊥) → StaysShort (source before) (source after)
  -- the counts
  pub steady : is_read status ≡ true → ((source after).faults ≡ (source before).faults) × IsSteady (sink old) (sink new)
  pub counts : ((source before).faults ≤ (source after).faults) × NoCountFell (sink old) (sink new)

-- what the third device is told: the line for how the work ended, which the status is that of. The work is one of the source and the sink alone,
-- so whatever this device answers, the status and what is left of the two others are what work without it may give
pub record Reports {Form I K : Type 0} (terms : Terms Form) (source : I → Supply) (sink : K → Told) (words : List (List ℕ)) (before after : I) (old new : K) (diag_old diag_new : Told) (status : ℕ) : Type 0 where
  pub ended : Result (Unit {0}) Failure
  pub works : Works terms source sink words ended before after old new
  pub is : status ≡ status_of ended
  -- a fault in the line is one of the input
  pub found : (why : Fault) → ended ≡ Err (failure.Fault why) → OnNamed terms words (source before) (HasFault terms why)
  -- the one fact that names the device
  pub tells : TellsLine diag_old (failure_line terms.usage ended) diag_new
