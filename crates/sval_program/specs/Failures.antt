-- The status and the line of each failure.
use Rattle.std.specs.Prelude.{ℕ, Bool, not, List, [], ◌∷◌, Option, Some, None, Result, Ok, Err}
use Rattle.sval_io.specs.declared.sink.SinkError.TheVariants as sink
use Rattle.sval_check.specs.declared.error.CheckError.{CheckError}
use Rattle.sval_check.specs.declared.error.CheckError.TheVariants as check
use Rattle.sval_script.specs.declared.script.ScriptError.{ScriptError}
use Rattle.sval_script.specs.declared.script.ScriptError.TheVariants as reading
use Rattle.sval_program.specs.declared.status.TheConstants.{DONE, USAGE, BAD_LINE, BAD_CALL, UNFINISHED, INVALID_KEY, INVALID_NUMBER, WRITE, READ, NO_MEMORY, TOO_LONG, NOT_UTF8, BAD_JSON, RAW, NOT_INTEGER, BAD_CBOR}
use Rattle.sval_program.specs.declared.failure.Fault.{Fault}
use Rattle.sval_program.specs.declared.failure.Fault.TheVariants as fault
use Rattle.sval_program.specs.declared.failure.Failure.{Failure}
use Rattle.sval_program.specs.declared.failure.Failure.TheVariants as failure
use Rattle.sval_program.specs.Reports.{bad_line, bad_call, unfinished, invalid_key, invalid_number, not_utf8, bad_json, raw, not_integer, bad_cbor, write_fault, out_of_memory, device_reports, report_among}
use Rattle.sval_program.specs.Statuses.{is_among, status_of_input}

-- a fault's status and its line
abbrev pub row_of_fault : Fault → ℕ × List ℕ
row_of_fault (fault.BadLine number) = (BAD_LINE, bad_line number)
row_of_fault (fault.BadCall number) = (BAD_CALL, bad_call number)
row_of_fault (fault.Unfinished many) = (UNFINISHED, unfinished many)
row_of_fault fault.InvalidKey = (INVALID_KEY, invalid_key)
row_of_fault fault.InvalidNumber = (INVALID_NUMBER, invalid_number)
row_of_fault fault.NotUtf8 = (NOT_UTF8, not_utf8)
row_of_fault (fault.BadJson at) = (BAD_JSON, bad_json at)
row_of_fault fault.Raw = (RAW, raw)
row_of_fault fault.NotInteger = (NOT_INTEGER, not_integer)
row_of_fault fault.BadCbor = (BAD_CBOR, bad_cbor)

abbrev pub status_of_fault : Fault → ℕ
status_of_fault why = (row_of_fault why).0

-- the status where a fault is found, if one is
abbrev pub status_of_found : Option Fault → ℕ
status_of_found None = DONE
status_of_found (Some why) = status_of_fault why

-- the failure where a script wasn't read
abbrev pub failure_of_script : ScriptError → Failure
failure_of_script (reading.BadLine number) = failure.Fault (fault.BadLine number)
failure_of_script reading.NoMemory = failure.NoMemory

-- what checking found, where many values may come or not; the refusal of a value is no failure of a program
abbrev pub failure_of_check : (many : Bool) → CheckError → Option Failure
failure_of_check many (check.BadCall n) = Some (failure.Fault (fault.BadCall n))
failure_of_check many check.Unfinished = Some (failure.Fault (fault.Unfinished many))
failure_of_check many check.NoMemory = Some failure.NoMemory
failure_of_check many check.Refused = None

-- a failure's status
abbrev pub status_of_failure : Failure → ℕ
status_of_failure failure.Usage = USAGE
status_of_failure (failure.Input why) = status_of_input why
status_of_failure (failure.Fault why) = status_of_fault why
status_of_failure failure.NoMemory = NO_MEMORY
status_of_failure (failure.Write sink.Failed) = WRITE
status_of_failure (failure.Write sink.NoMemory) = NO_MEMORY

-- a failure's line, where this is that for words that are no form
abbrev pub line_of_failure : List ℕ → Failure → List ℕ
line_of_failure usage failure.Usage = usage
line_of_failure usage (failure.Input why) = report_among (status_of_input why) device_reports
line_of_failure usage (failure.Fault why) = (row_of_fault why).1
line_of_failure usage failure.NoMemory = out_of_memory
line_of_failure usage (failure.Write sink.Failed) = write_fault
line_of_failure usage (failure.Write sink.NoMemory) = out_of_memory

-- the same of how a program ended; no line where there is no failure
abbrev pub status_of : Result (Unit {0}) Failure → ℕ
status_of (Ok done) = DONE
status_of (Err why) = status_of_failure why

abbrev pub failure_line : List ℕ → Result (Unit {0}) Failure → List ℕ
failure_line usage (Ok done) = []
failure_line usage (Err why) = line_of_failure usage why

-- ---- kinds of statuses

-- a fault of the input was found
abbrev pub is_fault : ℕ → Bool
is_fault status = not (is_among status (DONE ∷ USAGE ∷ WRITE ∷ READ ∷ NO_MEMORY ∷ TOO_LONG ∷ []))

-- the input was read to its end, and what is due of it was found
abbrev pub is_read : ℕ → Bool
is_read status = not (is_among status (USAGE ∷ WRITE ∷ READ ∷ NO_MEMORY ∷ TOO_LONG ∷ []))
