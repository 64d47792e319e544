-- What a program does: its words, what is due of an input, and what serving it makes of the devices.
use Rattle.std.specs.Prelude.{◌≡◌, ℕ, Bool, true, false, List, [], Option, Some, None, Result, Ok, Err, OnOk}
use Rattle.sval_io.specs.Sinks.{Told, HoldsNothing, WritesWhole}
use Rattle.sval_io.specs.declared.sink.SinkError.{SinkError}
use Rattle.sval_io.specs.WholeInputs.{ReadsWhole}
use Rattle.sval_io.specs.Sources.{Supply}
use Rattle.sval_program.specs.declared.failure.Fault.{Fault}
use Rattle.sval_program.specs.declared.failure.Failure.{Failure}
use Rattle.sval_program.specs.declared.failure.Failure.TheVariants as failure
use Rattle.sval_program.specs.Failures.{status_of_fault}
use Rattle.sval_program.specs.Inputs.{IsUnread}
use Rattle.sval_program.specs.Outputs.{StopsIf}
use Rattle.sval_program.specs.Statuses.{is_among}

-- what a program does
pub record Terms (Form : Type 0) : Type 1 where
  -- what words ask for, if they are one of its forms
  pub form_named : List (List ℕ) → Option Form
  -- what is due of an input: a fault, if it has one, and the bytes that are written, which with a fault are those before it
  pub Due : Form → List ℕ → Option Fault → List ℕ → Type 0
  -- whether the input is read for what words ask for; what is due where it isn't is what is due of no bytes
  pub reads : Option Form → Bool
  -- whether memory may be wanting for it between two parts of what is written
  pub partly : Option Form → Bool
  -- the statuses of the faults that it may find, and of these the ones before which it may write
  pub faults : List ℕ
  pub written : List ℕ
  -- the line for words that are no form
  pub usage : List ℕ

-- of an input at most one thing is due: one fault, or none, and the same bytes
abbrev pub OneDue : {Form : Type 0} → Terms Form → Type 0
OneDue {Form} terms =
    (asked : Form) (input : List ℕ) (found other : Option Fault) (bytes others : List ℕ)
    → terms.Due asked input found bytes → terms.Due asked input other others → (found ≡ other) × (bytes ≡ others)

-- bytes may be written where this is found
abbrev pub may_write : {Form : Type 0} → Terms Form → Option Fault → Bool
may_write terms None = true
may_write terms (Some why) = is_among (status_of_fault why) terms.written

-- ---- serving an input

-- exactly the bytes that are due were written
pub record WritesAllDue {Form : Type 0} (terms : Terms Form) (asked : Form) (input : List ℕ) (found : Option Fault) (old new : Told) : Type 0 where
  pub bytes : List ℕ
  pub due : terms.Due asked input found bytes
  pub writes : WritesWhole old bytes new

-- the same of a fault; where nothing may be written before it the sink is as it was
pub record FindsFault {Form K : Type 0} (terms : Terms Form) (told : K → Told) (asked : Form) (input : List ℕ) (why : Fault) (old new : K) : Type 0 where
  pub all : WritesAllDue terms asked input (Some why) (told old) (told new)
  pub known : is_among (status_of_fault why) terms.faults ≡ true
  pub untouched : may_write terms (Some why) ≡ false → new ≡ old

-- a first part of the bytes that are due was written
pub record StopsWithinDue {Form K : Type 0} (terms : Terms Form) (told : K → Told) (asked : Form) (input : List ℕ) (why : SinkError) (old new : K) : Type 0 where
  pub found : Option Fault
  pub bytes : List ℕ
  pub due : terms.Due asked input found bytes
  pub may : may_write terms found ≡ true
  pub stops : StopsIf (terms.partly (Some asked)) why told bytes old new

-- by how it ended; where memory was wanting before anything was written the sink is as it was
abbrev pub ServesBytes : {Form K : Type 0} → Terms Form → (K → Told) → Form → List ℕ → Result (Unit {0}) Failure → K → K → Type 0
ServesBytes terms told asked input (Ok done) old new = WritesAllDue terms asked input None (told old) (told new)
ServesBytes terms told asked input (Err failure.Usage) old new = ⊥
ServesBytes terms told asked input (Err (failure.Input why)) old new = ⊥
ServesBytes terms told asked input (Err (failure.Fault why)) old new = FindsFault terms told asked input why old new
ServesBytes terms told asked input (Err failure.NoMemory) old new = new ≡ old
ServesBytes terms told asked input (Err (failure.Write why)) old new = StopsWithinDue terms told asked input why old new

-- ---- serving a source

-- the input was read whole, and its bytes were served
pub record IsServed {Form I K : Type 0} (terms : Terms Form) (source : I → Supply) (told : K → Told) (asked : Form) (result : Result (Unit {0}) Failure) (before after : I) (old new : K) : Type 0 where
  pub input : List ℕ
  pub reads : ReadsWhole (source before) input (source after)
  pub serves : ServesBytes terms told asked input result old new

-- both devices are as they were
pub record IsNoForm {I K : Type 0} (result : Result (Unit {0}) Failure) (before after : I) (old new : K) : Type 0 where
  pub usage : result ≡ Err failure.Usage
  pub input : after ≡ before
  pub out : new ≡ old

abbrev pub ServesInput : {Form I K : Type 0} → Terms Form → (I → Supply) → (K → Told) → Form → Result (Unit {0}) Failure → I → I → K → K → Type 0
ServesInput terms source told asked (Err (failure.Input why)) before after old new = IsUnread source why before after old new
ServesInput terms source told asked result before after old new = IsServed terms source told asked result before after old new

-- nothing was read, and what is due of no bytes was served
pub record ServesNothing {Form I K : Type 0} (terms : Terms Form) (told : K → Told) (asked : Form) (result : Result (Unit {0}) Failure) (before after : I) (old new : K) : Type 0 where
  pub input : after ≡ before
  pub serves : ServesBytes terms told asked [] result old new

-- by whether the input is read
abbrev pub ServesIf : {Form I K : Type 0} → Bool → Terms Form → (I → Supply) → (K → Told) → Form → Result (Unit {0}) Failure → I → I → K → K → Type 0
ServesIf true terms source told asked result before after old new = ServesInput terms source told asked result before after old new
ServesIf false terms source told asked result before after old new = ServesNothing terms told asked result before after old new

abbrev pub ServesForm : {Form I K : Type 0} → Terms Form → (I → Supply) → (K → Told) → Option Form → Result (Unit {0}) Failure → I → I → K → K → Type 0
ServesForm terms source told None result before after old new = IsNoForm result before after old new
ServesForm terms source told (Some asked) result before after old new = ServesIf (terms.reads (Some asked)) terms source told asked result before after old new

-- the form that the words are was served, if they are one
abbrev pub Serves : {Form I K : Type 0} → Terms Form → (I → Supply) → (K → Told) → List (List ℕ) → Result (Unit {0}) Failure → I → I → K → K → Type 0
Serves terms source told words result before after old new = ServesForm terms source told (terms.form_named words) result before after old new

-- the words were served, and where that went well what was written was passed on
pub record Works {Form I K : Type 0} (terms : Terms Form) (source : I → Supply) (told : K → Told) (words : List (List ℕ)) (result : Result (Unit {0}) Failure) (before after : I) (old new : K) : Type 0 where
  pub serves : Serves terms source told words result before after old new
  pub flushed : OnOk result (HoldsNothing (told new))
