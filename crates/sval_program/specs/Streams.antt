-- What a run over std's reader and writers makes of the bytes that they tell.
use Rattle.std.specs.Prelude.{◌≡◌, ◌⊎◌, ℕ, List, [], Option, None, Some}
use Rattle.std.specs.Io.KnownBytes.{Keeps, Appends, append_known}
use Rattle.sval_io.specs.Sinks.{Told, HoldsNothing}
use Rattle.sval_io.specs.Sources.{Supply}
use Rattle.sval_program.specs.declared.status.TheConstants.{USAGE, NO_MEMORY, NO_WORDS}
use Rattle.sval_program.specs.Jobs.{Terms}
use Rattle.sval_program.specs.Runs.{OnNamed, Ends}

-- what a source tells before a run, over a reader that has these bytes left
abbrev pub reader_supply : Option (List ℕ) → Supply
reader_supply left = record { left = left; faults = 0 }

-- what a sink tells before a run, over an empty buffer and a writer that holds these bytes
abbrev pub writer_told : Option (List ℕ) → Told
writer_told held = record { text = held; room = None; held = Some 0; faults = 0; wants = 0 }

-- the run is one over the output's buffer. What that took was passed on to the writer, but for a rest: none, where the buffer held nothing back
pub record EndsBuffered {Form : Type 0} (terms : Terms Form) (words : List (List ℕ)) (left old new : Option (List ℕ)) (status : ℕ) : Type 0 where
  pub input : Supply
  pub out : Told
  pub ends : Ends terms (λ (told : Supply). told) (λ (told : Told). told) words (reader_supply left) input (writer_told old) out status
  pub rest : List ℕ
  pub passed_on : Keeps out.text (append_known new rest)
  pub nothing_left : HoldsNothing out → rest ≡ []

-- how a run ends: the words are no form, and the writer is as it was; or there was no memory for the buffer; or the run is one over it
pub data StreamsEnd {Form : Type 0} (terms : Terms Form) (words : List (List ℕ)) (left old new : Option (List ℕ)) (status : ℕ) : Type 0 where
  no_form : status ≡ USAGE → new ≡ old → StreamsEnd terms words left old new status
  no_buffer : status ≡ NO_MEMORY → StreamsEnd terms words left old new status
  over_buffer : EndsBuffered terms words left old new status → StreamsEnd terms words left old new status

-- how a process ends: its words can't be had, and the writer is as it was; or the run is one on some words
pub data ProcessEnd {Form : Type 0} (terms : Terms Form) (left old new : Option (List ℕ)) (status : ℕ) : Type 0 where
  without_words : (status ≡ NO_WORDS) ⊎ (status ≡ NO_MEMORY) → new ≡ old → ProcessEnd terms left old new status
  on_words : (words : List (List ℕ)) → StreamsEnd terms words left old new status → ProcessEnd terms left old new status

-- exactly the bytes that are due of an input were appended
abbrev pub AppendsDue : {Form : Type 0} → Terms Form → Option (List ℕ) → Option (List ℕ) → List ℕ → Form → Type 0
AppendsDue terms old new input asked = (bytes : List ℕ) × terms.Due asked input None bytes × Appends old new bytes

-- the same of what the reader had left, where it tells that, and the words are a form
pub record AppendsAllDue {Form : Type 0} (terms : Terms Form) (words : List (List ℕ)) (left old new : Option (List ℕ)) : Type 0 where
  pub appends : OnNamed terms words (reader_supply left) (AppendsDue terms old new)
