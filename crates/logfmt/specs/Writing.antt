-- The writer as a stream: its law is that it does the steps. And what a value's line is by its calls.
use Rattle.std.specs.Prelude.{◌≡◌, ◌<◌, ◌≤◌, ℕ, ⊤, Bool, true, false, List, [], ◌++◌, length, Option, Some, None, Result, Ok, Err, is_ok, unwrap_or}
use Rattle.sval_label.specs.declared.error.Error.{Error}
use Rattle.sval_label.specs.Calls.{Call}
use Rattle.sval_core.specs.Law.{Law, Standing, Emission, Rose}
use Rattle.logfmt.specs.declared.LogfmtError.{LogfmtError}
use Rattle.logfmt.specs.declared.LogfmtError.TheVariants as error
use Rattle.logfmt.specs.declared.writer.Due.{Due}
use Rattle.logfmt.specs.declared.writer.Due.TheVariants as due
use Rattle.logfmt.specs.Pairs.{logfmt_then}
use Rattle.logfmt.specs.Steps.{Begun, LogfmtStep, logfmt_step, logfmt_steps}

-- what the writer has begun, why it refused a call, and how often memory was wanting
pub record Writing : Type 0 where
  pub begun : Begun
  pub why : Option LogfmtError
  pub wants : ℕ

-- before any call
abbrev pub nothing_written : Writing
nothing_written = record { begun = record { due = due.Line; text = [] }; why = None; wants = 0 }

-- a call was taken, the line stays, and then this is due
abbrev pub waiting : Due → Writing → Writing
waiting due writing = record writing { begun = record { due = due; text = writing.begun.text } }

-- a call was refused for this cause, and the line stays
abbrev pub refused_for : LogfmtError → Writing → Writing
refused_for why writing = record writing { why = Some why }

-- a step that isn't refused, after which there is text
abbrev pub LeavesText : LogfmtStep → Type 0
LeavesText (Ok begun) = 0 < length begun.text
LeavesText (Err why) = ⊥

-- memory was wanting for the text that a step writes
pub record LacksTextMemory (due : LogfmtStep) (old new : Writing) : Type 0 where
  pub text : LeavesText due
  pub rose : Rose old.wants new.wants
  pub wants : old.wants ≤ new.wants

-- what a step may leave where it is stopped for this: the line as it was, unless memory was wanting
abbrev pub IsStoppedFor : Option LogfmtError → LogfmtStep → Writing → Writing → Type 0
IsStoppedFor None due old new = ⊥
IsStoppedFor (Some error.NoMemory) due old new = LacksTextMemory due old new
IsStoppedFor (Some why) due old new = (due ≡ Err why) × (new ≡ refused_for why old)

-- what an answer says where this step is due: it was done, or stopped for a cause
abbrev pub DoesStep : LogfmtStep → Result (Unit {0}) Error → Writing → Writing → Type 0
DoesStep due (Ok done) old new = (due ≡ Ok new.begun) × (new ≡ record old { begun = new.begun })
DoesStep due (Err refusal) old new = IsStoppedFor new.why due old new

-- what is begun after a step, if it isn't refused
abbrev pub begun_after : LogfmtStep → Begun → Begun
begun_after (Ok next) begun = next
begun_after (Err why) begun = begun

-- a call is taken where its step isn't refused
abbrev pub writing_law : Law Writing
writing_law = record {
  accepts = λ writing call. is_ok (logfmt_step call writing.begun) ≡ true;
  after = λ writing call. record writing { begun = begun_after (logfmt_step call writing.begun) writing.begun };
  stopped = λ writing call left. IsStoppedFor left.why (logfmt_step call writing.begun) writing left;
}

-- it has no faults of its own
abbrev pub writing_standing : Writing → Standing Writing
writing_standing writing = record { view = writing; faults = 0; wants = writing.wants }

-- ---- values

-- why not all calls were taken, or that the value itself refused where they were
abbrev pub cause_of : Option LogfmtError → LogfmtError
cause_of why = unwrap_or why error.Refused

-- the whole line
abbrev pub whole : Due → List ℕ → Result (List ℕ) LogfmtError
whole due.Nothing text = Ok text
whole _ text = Err error.Unfinished

-- the line where all calls were taken, and the value then refuses or not
abbrev pub ended_line : Bool → Begun → Result (List ℕ) LogfmtError
ended_line true begun = Err error.Refused
ended_line false begun = whole begun.due begun.text

-- the line of a value by its calls
abbrev pub written_line : Emission → Result (List ℕ) LogfmtError
written_line e = logfmt_then (logfmt_steps e.calls nothing_written.begun) (ended_line e.refuses)

-- the steps of some first calls are done, and text stands then
pub record StepsWriteText (calls : List Call) (begun : Begun) : Type 0 where
  pub front : List Call
  pub rest : List Call
  pub is : calls ≡ front ++ rest
  pub text : LeavesText (logfmt_steps front begun)

-- this error is due, unless memory is wanting
abbrev pub Fails : LogfmtError → Result (List ℕ) LogfmtError → Type 0
Fails error.NoMemory due = ⊤
Fails why due = due ≡ Err why

-- exactly this text or this error, unless memory is wanting; `bytes` reads the text
abbrev pub GivesText : {T : Type 0} → (T → List ℕ) → Result T LogfmtError → Result (List ℕ) LogfmtError → Type 0
GivesText bytes (Ok text) due = due ≡ Ok (bytes text)
GivesText bytes (Err why) due = Fails why due
