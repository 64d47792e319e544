-- What is due of a form, and the failures where it wasn't written.
use Rattle.std.specs.Prelude.{ℕ, Bool, List, [], ◌∷◌, Option, Some, None, Result, Ok, Err, codes}
use Rattle.sval_io.specs.declared.sink.SinkError.TheVariants as sink
use Rattle.sval_program.specs.declared.failure.Fault.{Fault}
use Rattle.sval_program.specs.declared.failure.Fault.TheVariants as fault
use Rattle.sval_program.specs.declared.failure.Failure.{Failure}
use Rattle.sval_program.specs.declared.failure.Failure.TheVariants as failure
use Rattle.sval_program.specs.declared.status.TheConstants.{BAD_LINE, BAD_CALL, UNFINISHED, INVALID_KEY, INVALID_NUMBER}
use Rattle.sval_program.specs.Jobs.{Terms}
use Rattle.sval_relay.specs.declared.way.Task.{Task}
use Rattle.sval_relay.specs.declared.way.Form.{Form}
use Rattle.sval_relay.specs.declared.way.Form.TheVariants.{Serve, Made}
use Rattle.sval_relay.specs.declared.relaying.RelayError.{RelayError}
use Rattle.sval_relay.specs.declared.relaying.RelayError.TheVariants as answer
use Rattle.sval_relay.specs.declared.made.MadeError.{MadeError}
use Rattle.sval_relay.specs.declared.made.MadeError.TheVariants as made
use Rattle.sval_relay.specs.Made.{IsMadeLine}
use Rattle.sval_relay.specs.Relays.{MeansAll}
use Rattle.sval_relay.specs.Verdict.{BadLine, BadCall, Unfinished, Key, Number, Text, IsRelayVerdict}
use Rattle.sval_relay.specs.Ways.{relay_form, is_read_for, is_partly_for}

-- ---- what is due

-- of a script by its verdict: its text, what is written up to a refusal, or no bytes before a fault of the script; and the line of a made script
pub data RelayDue : Form → List ℕ → Option Fault → List ℕ → Type 0 where
  a_text : {task : Task} {script text : List ℕ} → IsRelayVerdict (Text text) script task → MeansAll text script task → RelayDue (Serve task) script None text
  is_bad_line : {task : Task} {script : List ℕ} {line : ℕ} → IsRelayVerdict (BadLine line) script task → RelayDue (Serve task) script (Some (fault.BadLine line)) []
  is_bad_call : {task : Task} {script : List ℕ} {line : ℕ} → IsRelayVerdict (BadCall line) script task → RelayDue (Serve task) script (Some (fault.BadCall line)) []
  is_unfinished : {task : Task} {script : List ℕ} → IsRelayVerdict Unfinished script task → RelayDue (Serve task) script (Some (fault.Unfinished task.many)) []
  up_to_key : {task : Task} {script written : List ℕ} → IsRelayVerdict (Key written) script task → RelayDue (Serve task) script (Some fault.InvalidKey) written
  up_to_number : {task : Task} {script written : List ℕ} → IsRelayVerdict (Number written) script task → RelayDue (Serve task) script (Some fault.InvalidNumber) written
  a_made_line : {count : ℕ} {script line : List ℕ} → IsMadeLine count line → RelayDue (Made count) script None line

-- what the program does
abbrev pub relay_terms : Terms Form
relay_terms = record {
  form_named = relay_form;
  Due = RelayDue;
  reads = is_read_for;
  partly = is_partly_for;
  faults = BAD_LINE ∷ BAD_CALL ∷ UNFINISHED ∷ INVALID_KEY ∷ INVALID_NUMBER ∷ [];
  written = INVALID_KEY ∷ INVALID_NUMBER ∷ [];
  usage = codes "usage: sval_relay direct [beside] [lines]|buffered [beside] [lines]|calls [lines]|made N\n";
}

-- ---- the failures

-- why values weren't written, or not whole
abbrev pub failure_of_relay : (many : Bool) → RelayError → Failure
failure_of_relay many (answer.BadLine n) = failure.Fault (fault.BadLine n)
failure_of_relay many (answer.BadCall n) = failure.Fault (fault.BadCall n)
failure_of_relay many answer.Unfinished = failure.Fault (fault.Unfinished many)
failure_of_relay many answer.InvalidKey = failure.Fault fault.InvalidKey
failure_of_relay many answer.InvalidNumber = failure.Fault fault.InvalidNumber
failure_of_relay many answer.Write = failure.Write sink.Failed
failure_of_relay many answer.NoMemory = failure.Write sink.NoMemory

-- how writing them ended
abbrev pub ended_by : (many : Bool) → Result (Unit {0}) RelayError → Result (Unit {0}) Failure
ended_by many (Ok done) = Ok done
ended_by many (Err why) = Err (failure_of_relay many why)

-- why the line of a made script wasn't written whole
abbrev pub failure_of_made : MadeError → Failure
failure_of_made made.Write = failure.Write sink.Failed
failure_of_made made.NoMemory = failure.Write sink.NoMemory
