-- What the number machine of the program is seen as.
use Rattle.std.specs.Prelude.{◌≡◌, Bool, true, false, List, [], ◌∷◌, ◌++◌, ℕ, codes, Option, Some, None, Result, Ok, Err}
use Rattle.sval_io.specs.declared.sink.SinkError.{SinkError}
use Rattle.sval_io.specs.Sinks.{Told, WritesWhole, WritesFront}
use Rattle.sval_json.specs.declared.number.Phase as program
use Rattle.sval_json.specs.declared.number.Phase.TheVariants as phase
use Rattle.sval_json.specs.declared.number.NumberMachine.{NumberMachine}
use Rattle.sval_json.specs.declared.number.Reading as read
use Rattle.sval_json.specs.declared.number.Lead.{Lead}
use Rattle.sval_json.specs.declared.number.Lead.TheVariants as lead
use Rattle.sval_json.specs.Number.{Phase, Start, Signed, Zero, Whole, Point, Fraction, Exponent, ExponentSign, ExponentDigits, Word, Machine, NumberReading, takes_byte, stops, take_byte}

-- the phase of the definitions that a phase of the program is
abbrev pub seen_phase : program.Phase → Phase
seen_phase phase.Start = Start
seen_phase phase.Signed = Signed
seen_phase phase.Zero = Zero
seen_phase phase.Whole = Whole
seen_phase phase.Point = Point
seen_phase phase.Fraction = Fraction
seen_phase phase.Exponent = Exponent
seen_phase phase.ExponentSign = ExponentSign
seen_phase phase.ExponentDigits = ExponentDigits
seen_phase phase.Word = Word

-- the same of the machine
abbrev pub seen_machine : NumberMachine → Machine
seen_machine machine = record { negative = machine.negative; phase = seen_phase machine.phase }

-- its front, and then its run
abbrev pub seen_reading : read.Reading → NumberReading
seen_reading reading = record { written = reading.front.now ++ reading.run.now; machine = seen_machine reading.machine; valid = reading.valid }

-- each byte that is taken is written as it is
abbrev pub is_running : program.Phase → Bool
is_running phase.Start = false
is_running phase.Signed = false
is_running phase.Zero = false
is_running phase.Word = false
is_running _ = true

-- the byte leads to this phase and is written as it is, or it is not taken
abbrev pub IsStep : program.Phase → ℕ → Option program.Phase → Type 0
IsStep phase byte (Some next) = (negative : Bool) → take_byte negative (seen_phase phase) byte ≡ takes_byte (byte ∷ []) negative (seen_phase next)
IsStep phase byte None = (negative : Bool) → take_byte negative (seen_phase phase) byte ≡ stops (record { negative = negative; phase = seen_phase phase })

-- nothing is written yet
abbrev pub is_leading : program.Phase → Bool
is_leading phase.Start = true
is_leading phase.Signed = true
is_leading phase.Zero = true
is_leading _ = false

-- the same with these bytes in front
abbrev pub with_front_written : List ℕ → NumberReading → NumberReading
with_front_written front reading = record { written = front ++ reading.written; machine = reading.machine; valid = reading.valid }

-- what the machine does with a byte
abbrev pub number_taken : NumberMachine → ℕ → NumberReading
number_taken machine byte = take_byte machine.negative (seen_phase machine.phase) byte

-- nothing is written for the byte, and nothing was before
pub record IsSkipped (machine : NumberMachine) (byte : ℕ) (next : NumberMachine) : Type 0 where
  pub leading : is_leading next.phase ≡ true
  pub skipped : number_taken machine byte ≡ takes_byte [] next.negative (seen_phase next.phase)

-- the byte is the first that is written as it is, after these in front
pub record IsFirst (machine : NumberMachine) (byte : ℕ) (front : List ℕ) : Type 0 where
  pub written : (take_byte machine.negative Whole byte).valid ≡ true
  pub fronted : number_taken machine byte ≡ with_front_written front (take_byte machine.negative Whole byte)

-- what a byte does before anything is written
abbrev pub IsLead : NumberMachine → ℕ → Lead → Type 0
IsLead machine byte (lead.Skips next) = IsSkipped machine byte next
IsLead machine byte (lead.Begins front) = IsFirst machine byte front.now
IsLead machine byte lead.Word = number_taken machine byte ≡ takes_byte (codes "null") machine.negative Word
IsLead machine byte lead.Stops = number_taken machine byte ≡ stops (seen_machine machine)

-- what the answer of writing what was read says: whether all bytes were taken, or why the sink stopped
abbrev pub ReadsAll : Result Bool SinkError → Told → NumberReading → Told → Type 0
ReadsAll (Ok valid) old reading new = (valid ≡ reading.valid) × WritesWhole old reading.written new
ReadsAll (Err why) old reading new = WritesFront why old reading.written new
