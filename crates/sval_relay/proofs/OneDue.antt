-- Of an input at most one thing is due.
use Rattle.std.specs.Prelude.{◌≡◌, ℕ, Bool, List, [], length, Option, Some, None, refl}
use Rattle.std.proofs.Common.{sym, ap, ◌∙◌}
use Rattle.sval_program.specs.declared.failure.Fault.{Fault}
use Rattle.sval_program.specs.declared.failure.Fault.TheVariants as fault
use Rattle.sval_program.specs.Jobs.{OneDue}
use Rattle.sval_script.specs.Lines.{lines}
use Rattle.sval_relay.specs.declared.way.Task.{Task}
use Rattle.sval_relay.specs.declared.way.Form.TheVariants.{Serve, Made}
use Rattle.sval_relay.specs.declared.way.Way.TheVariants.{Buffered}
use Rattle.sval_relay.specs.Made.{made_calls, made_script, sizes_line, IsMadeLine}
use Rattle.sval_relay.specs.Serves.{RelayDue, a_text, is_bad_line, is_bad_call, is_unfinished, up_to_key, up_to_number, a_made_line, relay_terms}
use Rattle.sval_relay.specs.Verdict.{RelayVerdict, BadLine, BadCall, Unfinished, Key, Number, Text, one_in, asked_in, IsRelayVerdict}
use Rattle.sval_relay.proofs.MadeAnswers.{one_text}
use Rattle.sval_relay.proofs.Verdicts.{one_of_lines}

-- the fault that a verdict is, and the bytes that are written of it
abbrev fault_in : (many : Bool) → RelayVerdict → Option Fault
fault_in many (BadLine n) = Some (fault.BadLine n)
fault_in many (BadCall n) = Some (fault.BadCall n)
fault_in many Unfinished = Some (fault.Unfinished many)
fault_in many (Key written) = Some fault.InvalidKey
fault_in many (Number written) = Some fault.InvalidNumber
fault_in many (Text text) = None

abbrev bytes_in : RelayVerdict → List ℕ
bytes_in (BadLine n) = []
bytes_in (BadCall n) = []
bytes_in Unfinished = []
bytes_in (Key written) = written
bytes_in (Number written) = written
bytes_in (Text text) = text

-- what is due of a script is what its verdict says
record IsByVerdict (task : Task) (script : List ℕ) (found : Option Fault) (bytes : List ℕ) : Type 0 where
  answer : RelayVerdict
  is : IsRelayVerdict answer script task
  is_fault : found ≡ fault_in task.many answer
  are_bytes : bytes ≡ bytes_in answer

by_verdict : (task : Task) (script : List ℕ) (found : Option Fault) (bytes : List ℕ) → RelayDue (Serve task) script found bytes → IsByVerdict task script found bytes
by_verdict task script _ bytes (a_text is means) = record { answer = Text bytes; is = is; is_fault = refl; are_bytes = refl }
by_verdict task script _ _ (is_bad_line {line = n} is) = record { answer = BadLine n; is = is; is_fault = refl; are_bytes = refl }
by_verdict task script _ _ (is_bad_call {line = n} is) = record { answer = BadCall n; is = is; is_fault = refl; are_bytes = refl }
by_verdict task script _ _ (is_unfinished is) = record { answer = Unfinished; is = is; is_fault = refl; are_bytes = refl }
by_verdict task script _ bytes (up_to_key is) = record { answer = Key bytes; is = is; is_fault = refl; are_bytes = refl }
by_verdict task script _ bytes (up_to_number is) = record { answer = Number bytes; is = is; is_fault = refl; are_bytes = refl }

-- a made script has one line
record IsMadeDue (count : ℕ) (found : Option Fault) (bytes : List ℕ) : Type 0 where
  whole : found ≡ None
  line : IsMadeLine count bytes

made_due : (count : ℕ) (input : List ℕ) (found : Option Fault) (bytes : List ℕ) → RelayDue (Made count) input found bytes → IsMadeDue count found bytes
made_due count input _ bytes (a_made_line is) = record { whole = refl; line = is }

one_line : (count : ℕ) (line other : List ℕ) → IsMadeLine count line → IsMadeLine count other → line ≡ other
one_line count line other one also =
    one.says ∙ ap (λ text. sizes_line (length (made_calls count)) (length text)) (one_text (made_script count) (one_in Buffered) one.is also.is) ∙ sym also.says

pub one_due : OneDue relay_terms
one_due (Serve task) script found other bytes others due also =
    let one = by_verdict task script found bytes due in
    let two = by_verdict task script other others also in
    let same : one.answer ≡ two.answer = one_of_lines (lines script) (asked_in task.way) task.many one.answer two.answer one.is two.is in
    (one.is_fault ∙ ap (fault_in task.many) same ∙ sym two.is_fault, one.are_bytes ∙ ap bytes_in same ∙ sym two.are_bytes)
one_due (Made count) input found other bytes others due also =
    let one = made_due count input found bytes due in
    let two = made_due count input other others also in
    (one.whole ∙ sym two.whole, one_line count bytes others one.line two.line)
