-- A piece of a number that is read byte by byte.
use Rattle.std.specs.Prelude.{◌≡◌, ℕ, ◌≤◌, Bool, true, List, [], ◌∷◌, ◌++◌, codes, if◌then◌else◌, take, drop, Result, Ok, Err, length, refl}
use Rattle.std.proofs.Common.{sym, ap, ◌∙◌, append-nil}
use Rattle.sval_io.specs.declared.sink.SinkError.{SinkError}
use Rattle.sval_io.specs.Sinks.{Told, WritesWhole, WritesAll}
use Rattle.sval_io.proofs.Appending.{writes_both, stops_after}
use Rattle.sval_json.specs.declared.number.Phase as program
use Rattle.sval_json.specs.declared.number.Phase.TheVariants as phase
use Rattle.sval_json.specs.declared.number.NumberMachine.{NumberMachine}
use Rattle.sval_json.specs.Number.{Phase, Word, Machine, NumberReading, takes_byte, take_byte, take_bytes}
use Rattle.sval_json.specs.SeenNumber.{seen_phase, seen_machine, is_running, is_leading, with_front_written}

-- what the machine does with the bytes is what it does with the rest, after these that it wrote
pub record ReadsOn (negative : Bool) (first now : program.Phase) (bytes : List ℕ) (count : ℕ) : Type 0 where
  pub within : count ≤ length bytes
  pub running : is_running now ≡ true
  pub reads : take_bytes (record { negative = negative; phase = seen_phase first }) bytes ≡ with_front_written (take count bytes) (take_bytes (record { negative = negative; phase = seen_phase now }) (drop count bytes))

-- what the machine does with the bytes is what it does with the rest, and nothing was written
pub record LeadsOn (first now : NumberMachine) (bytes rest : List ℕ) : Type 0 where
  pub leading : is_leading now.phase ≡ true
  pub reads : take_bytes (seen_machine first) bytes ≡ take_bytes (seen_machine now) rest

-- after a byte that is taken come the others
taken_first : (m : Machine) (byte : ℕ) (bytes w : List ℕ) (n : Bool) (p : Phase) → take_byte m.negative m.phase byte ≡ takes_byte w n p
    → take_bytes m (byte ∷ bytes) ≡ with_front_written w (take_bytes (record { negative = n; phase = p }) bytes)
taken_first m byte bytes w n p e =
    ap (λ now. (let later : NumberReading = take_bytes now.machine bytes in if now.valid then record { written = now.written ++ later.written; machine = later.machine; valid = later.valid } else now)) e

-- a word goes on to the end
pub word_goes_on : (negative : Bool) (bytes : List ℕ) → take_bytes (record { negative = negative; phase = Word }) bytes ≡ takes_byte [] negative Word
word_goes_on negative [] = refl
word_goes_on negative (byte ∷ bytes) = word_goes_on negative bytes

pub leads_to_word : {first now last : NumberMachine} {bytes due : List ℕ} {reading : NumberReading} (byte : ℕ) (rest : List ℕ) → LeadsOn first now bytes due → due ≡ byte ∷ rest
    → take_byte now.negative (seen_phase now.phase) byte ≡ takes_byte (codes "null") now.negative Word → last ≡ record { negative = now.negative; phase = phase.Word }
    → reading ≡ record { written = codes "null"; machine = seen_machine last; valid = true } → reading ≡ take_bytes (seen_machine first) bytes
leads_to_word {first} {now} {last} {bytes} byte rest p e lead at r =
    let whole : take_bytes (seen_machine first) bytes ≡ takes_byte (codes "null") now.negative Word =
    p.reads ∙ ap (take_bytes (seen_machine now)) e ∙ taken_first (seen_machine now) byte rest (codes "null") now.negative Word lead ∙ ap (with_front_written (codes "null")) (word_goes_on now.negative rest) in
    r ∙ ap (λ machine. record { written = codes "null"; machine = seen_machine machine; valid = true }) at ∙ sym whole

-- after a first piece was written, the answer of writing the second is that of writing both
pub then_writes : {old mid : Told} (result : Result (Unit {0}) SinkError) (xs ys : List ℕ) (new : Told) → WritesWhole old xs mid → WritesAll result mid ys new → WritesAll result old (xs ++ ys) new
then_writes (Ok done) xs ys new w r = writes_both xs ys w r
then_writes (Err why) xs ys new w r = stops_after xs ys [] w (ap (λ rest. xs ++ rest) (sym (append-nil ys))) r
