-- What is due of a script, the program's terms, and its errors as failures.
use Rattle.std.specs.Prelude.{ℕ, true, false, List, [], ◌∷◌, Option, Some, None, Ok, Err, codes}
use Rattle.sval_io.specs.declared.sink.SinkError.TheVariants as sink
use Rattle.sval_program.specs.declared.failure.Fault.{Fault}
use Rattle.sval_program.specs.declared.failure.Fault.TheVariants as fault
use Rattle.sval_program.specs.declared.failure.Failure.{Failure}
use Rattle.sval_program.specs.declared.failure.Failure.TheVariants as failure
use Rattle.sval_program.specs.declared.status.TheConstants.{BAD_LINE, BAD_CALL, UNFINISHED, INVALID_KEY, INVALID_NUMBER, RAW, NOT_INTEGER}
use Rattle.sval_program.specs.Jobs.{Terms}
use Rattle.sval_program.specs.Verdict.{BadLine, BadCall, Unfinished, Whole}
use Rattle.sval_cbor.specs.declared.error.CborError.{CborError}
use Rattle.sval_cbor.specs.declared.error.CborError.TheVariants as error
use Rattle.sval_cbor.specs.Forms.{cbor_form}
use Rattle.sval_cbor.specs.Packs.{BadKey, BadNumber, RawJson, NotInteger}
use Rattle.sval_cbor.specs.Verdict.{IsCborVerdict}

-- ---- what is due of a script

-- what is due of a script, by its verdict: the bytes that its value packs to, or a fault, before which nothing is written
pub data CborDue : Unit {0} → List ℕ → Option Fault → List ℕ → Type 0 where
  of_value : {asked : Unit {0}} {script bytes : List ℕ} → IsCborVerdict (Whole (Ok bytes)) script → CborDue asked script None bytes
  of_bad_line : {asked : Unit {0}} {script : List ℕ} {line : ℕ} → IsCborVerdict (BadLine line) script → CborDue asked script (Some (fault.BadLine line)) []
  of_bad_call : {asked : Unit {0}} {script : List ℕ} {line : ℕ} → IsCborVerdict (BadCall line) script → CborDue asked script (Some (fault.BadCall line)) []
  of_unfinished : {asked : Unit {0}} {script : List ℕ} → IsCborVerdict Unfinished script → CborDue asked script (Some (fault.Unfinished false)) []
  of_bad_key : {asked : Unit {0}} {script : List ℕ} → IsCborVerdict (Whole (Err BadKey)) script → CborDue asked script (Some fault.InvalidKey) []
  of_bad_number : {asked : Unit {0}} {script : List ℕ} → IsCborVerdict (Whole (Err BadNumber)) script → CborDue asked script (Some fault.InvalidNumber) []
  of_raw : {asked : Unit {0}} {script : List ℕ} → IsCborVerdict (Whole (Err RawJson)) script → CborDue asked script (Some fault.Raw) []
  of_no_integer : {asked : Unit {0}} {script : List ℕ} → IsCborVerdict (Whole (Err NotInteger)) script → CborDue asked script (Some fault.NotInteger) []

-- what the program does
abbrev pub cbor_terms : Terms (Unit {0})
cbor_terms = record {
  form_named = cbor_form;
  Due = CborDue;
  reads = λ form. true;
  partly = λ form. false;
  faults = BAD_LINE ∷ BAD_CALL ∷ UNFINISHED ∷ INVALID_KEY ∷ INVALID_NUMBER ∷ RAW ∷ NOT_INTEGER ∷ [];
  written = [];
  usage = codes "usage: sval_cbor\n";
}

-- ---- the errors as failures

-- why a value that was captured wasn't written
abbrev pub failure_of_cbor : CborError → Option Failure
failure_of_cbor error.Key = Some (failure.Fault fault.InvalidKey)
failure_of_cbor error.Number = Some (failure.Fault fault.InvalidNumber)
failure_of_cbor error.Raw = Some (failure.Fault fault.Raw)
failure_of_cbor error.NotInteger = Some (failure.Fault fault.NotInteger)
failure_of_cbor error.Write = Some (failure.Write sink.Failed)
failure_of_cbor error.NoMemory = Some (failure.Write sink.NoMemory)
failure_of_cbor (error.BadCall at) = None
failure_of_cbor error.Unfinished = None
failure_of_cbor error.Refused = None
