-- What a report says.
use Rattle.std.specs.Prelude.{◌≡◌, ◌⊎◌, ◌<◌, ◌≤◌, ◌++◌, ℕ, List, length, drop, Option, Some, None, Result, Ok, Err}
use Rattle.sval_c.specs.declared.fault.Fault.{Fault}
use Rattle.sval_c.specs.declared.fault.Fault.TheVariants as fault
use Rattle.sval_program.specs.declared.status.TheConstants.{DONE, BAD_LINE, BAD_CALL, UNFINISHED, INVALID_KEY, INVALID_NUMBER, NO_MEMORY, NOT_UTF8, BAD_JSON, RAW, NOT_INTEGER, BAD_CBOR}
use Rattle.sval_c.specs.declared.lack.Lack.{Lack}
use Rattle.sval_c.specs.declared.lack.Lack.TheVariants as lack
use Rattle.sval_c.specs.declared.report.Report.{Report}
use Rattle.sval_c.specs.declared.status.TheConstants.{TOO_SHORT, BAD_TAPE, BAD_CHOICE, BAD_PATH}

-- the status of a fault
abbrev pub report_status : Fault → ℕ
report_status (fault.BadLine line) = BAD_LINE
report_status (fault.BadCall number) = BAD_CALL
report_status fault.Unfinished = UNFINISHED
report_status fault.InvalidKey = INVALID_KEY
report_status fault.InvalidNumber = INVALID_NUMBER
report_status (fault.NotUtf8 at) = NOT_UTF8
report_status (fault.BadJson at) = BAD_JSON
report_status fault.Raw = RAW
report_status fault.NotInteger = NOT_INTEGER
report_status fault.BadCbor = BAD_CBOR
report_status (fault.BadTape at) = BAD_TAPE
report_status fault.BadChoice = BAD_CHOICE
report_status (fault.BadPath line) = BAD_PATH

-- the place of a fault: the byte at which UTF-8, JSON or a tape fails, or the number of a line or a call, counted from 1; 0 where it has none
abbrev pub fault_place : Fault → ℕ
fault_place (fault.BadLine line) = line
fault_place (fault.BadCall number) = number
fault_place (fault.NotUtf8 at) = at
fault_place (fault.BadJson at) = at
fault_place (fault.BadTape at) = at
fault_place (fault.BadPath line) = line
fault_place _ = 0

-- ---- the reports

abbrev pub done_report : List ℕ → Report
done_report bytes = record { status = DONE; written = length bytes; at = 0 }

-- where no bytes are due
abbrev pub checked_report : Report
checked_report = record { status = DONE; written = 0; at = 0 }

abbrev pub short_report : List ℕ → Report
short_report bytes = record { status = TOO_SHORT; written = length bytes; at = 0 }

abbrev pub fault_report : Fault → Report
fault_report why = record { status = report_status why; written = 0; at = fault_place why }

abbrev pub want_report : Report
want_report = record { status = NO_MEMORY; written = 0; at = 0 }

abbrev pub report_of_lack : Lack → Report
report_of_lack (lack.Fault why) = fault_report why
report_of_lack lack.NoMemory = want_report

-- ---- what they say of the buffer

-- the buffer begins with the bytes, and goes on as before
pub record IsDone (bytes : List ℕ) (report : Report) (old new : List ℕ) : Type 0 where
  pub told : report ≡ done_report bytes
  pub room : length bytes ≤ length old
  pub out : new ≡ bytes ++ drop (length bytes) old

-- the buffer has no room for the bytes, and stays
pub record IsTooShort (bytes : List ℕ) (report : Report) (old new : List ℕ) : Type 0 where
  pub told : report ≡ short_report bytes
  pub room : length old < length bytes
  pub out : new ≡ old

abbrev pub TellsBytes : List ℕ → Report → List ℕ → List ℕ → Type 0
TellsBytes bytes report old new = IsDone bytes report old new ⊎ IsTooShort bytes report old new

-- there are no bytes, and the buffer stays
pub record TellsLack (why : Lack) (report : Report) (old new : List ℕ) : Type 0 where
  pub told : report ≡ report_of_lack why
  pub out : new ≡ old

-- by what was made of an input
abbrev pub TellsMadeOrLack : {Bytes : Type 0} → Result Bytes Lack → (Bytes → List ℕ) → Report → List ℕ → List ℕ → Type 0
TellsMadeOrLack (Ok made) items report old new = TellsBytes (items made) report old new
TellsMadeOrLack (Err why) items report old new = TellsLack why report old new

-- ---- what an export answers, by what is due of its input

-- Either bytes are due, and the buffer begins with them or has no room for them; or a fault is due, which the report tells with its place;
-- or memory was wanting.
pub data ReportsDue (Due : Option Fault → List ℕ → Type 0) (report : Report) (old new : List ℕ) : Type 0 where
  bytes_due : (bytes : List ℕ) → Due None bytes → TellsBytes bytes report old new → ReportsDue Due report old new
  fault_due : (why : Fault) (before : List ℕ) → Due (Some why) before → TellsLack (lack.Fault why) report old new → ReportsDue Due report old new
  no_memory : TellsLack lack.NoMemory report old new → ReportsDue Due report old new

-- the same of an export that only checks its input
pub data Judges (Due : Option Fault → Type 0) (report : Report) : Type 0 where
  is_well : Due None → report ≡ checked_report → Judges Due report
  has_fault : (why : Fault) → Due (Some why) → report ≡ fault_report why → Judges Due report
  lacks_memory : report ≡ want_report → Judges Due report
