-- The CBOR writer as a stream: its law is that it meets the steps.
use Rattle.std.specs.Prelude.{◌≡◌, ℕ, Bool, List, [], Option, Some, None, Result, Ok, Err, length}
use Rattle.sval_label.specs.declared.error.Error.{Error}
use Rattle.sval_core.specs.Law.{Law, Standing}
use Rattle.sval_io.specs.Sinks.{Told, appended, less_room, HasRoom, WritesFront}
use Rattle.sval_json.specs.Json.{Json}
use Rattle.sval_json.specs.Shape.{bare_text}
use Rattle.sval_cbor.specs.declared.error.Stop.{Stop}
use Rattle.sval_cbor.specs.declared.error.Stop.TheVariants.{Step, Sink}
use Rattle.sval_cbor.specs.declared.style.TheConstants.Style.{DEFAULT}
use Rattle.sval_cbor.specs.declared.writer.Writer.{Writer}
use Rattle.sval_cbor.specs.Packs.{PackRefusal}
use Rattle.sval_cbor.specs.Cbor.{cbor}
use Rattle.sval_cbor.specs.SeenWriter.{seen_pack_refusal, seen_place}
use Rattle.sval_cbor.specs.Writing as writing
use Rattle.sval_cbor.specs.Writing.{CborState, cbor_state, cbor_start, simple, cbor_step}

-- what a step answers: the bytes and the state after it, or why it is refused
abbrev pub StepAnswer : Type 0
StepAnswer = Result writing.CborStep PackRefusal

-- the bytes, none where it is refused
abbrev pub due_bytes : StepAnswer → List ℕ
due_bytes (Ok done) = done.bytes
due_bytes (Err why) = []

-- the state after it, which doesn't matter where it is refused
abbrev pub due_state : StepAnswer → CborState
due_state (Ok done) = done.state
due_state (Err why) = cbor_start DEFAULT []

-- why it is refused, if it is
abbrev pub due_refusal : StepAnswer → Option PackRefusal
due_refusal (Ok done) = None
due_refusal (Err why) = Some why

-- what is written of a simple value: in a key its text, and else its bytes
abbrev pub json_bytes : Bool → Json → List ℕ
json_bytes in_key json = simple in_key (bare_text json) (cbor json)

-- the sink that a writer writes to: which one, what it tells but for what it holds back, and what stopped the writer, if something did
pub record CborTarget : Type 0 where
  pub name : ℕ
  pub told : Told
  pub why : Option Stop

-- what the writer has taken, as a stream: the state of the steps, and the sink
pub record CborWriterView : Type 0 where
  pub state : CborState
  pub target : CborTarget

-- the sink after it took these bytes
abbrev pub with_cbor_bytes : List ℕ → CborTarget → CborTarget
with_cbor_bytes bytes target =
    record target { told = record target.told { text = appended target.told.text bytes; room = less_room target.told.room (length bytes) } }

-- the writer after a step that isn't refused
abbrev pub after_step : StepAnswer → CborTarget → CborWriterView
after_step due target = record { state = due_state due; target = with_cbor_bytes (due_bytes due) target }

-- the step isn't refused, and what it writes has room
pub record MayDoStep (due : StepAnswer) (told : Told) : Type 0 where
  pub refusal : due_refusal due ≡ None
  pub fits : HasRoom told (due_bytes due)

-- the step was done
pub record HasDoneStep (due : StepAnswer) (old : CborTarget) (new : CborWriterView) : Type 0 where
  pub may : MayDoStep due old.told
  pub view : new ≡ after_step due old

-- what the sink took, by what stopped the writer: nothing, where the step is refused; a first part of the bytes, where the sink declined
abbrev pub IsLeftByStep : Option Stop → StepAnswer → Told → Told → Type 0
IsLeftByStep None due old new = ⊥
IsLeftByStep (Some (Step why)) due old new = (due_refusal due ≡ Some (seen_pack_refusal why)) × (new ≡ old)
IsLeftByStep (Some (Sink why)) due old new = WritesFront why old (due_bytes due) new

-- the step was stopped
pub record StepIsStopped (due : StepAnswer) (old : CborTarget) (new : CborWriterView) : Type 0 where
  pub left : IsLeftByStep new.target.why due old.told new.target.told
  pub name : new.target.name ≡ old.name

-- what the answer of a part of the writer says: it did the step, or was stopped in it
abbrev pub CborDoes : StepAnswer → Result (Unit {0}) Error → CborTarget → CborWriterView → Type 0
CborDoes due (Ok done) old new = HasDoneStep due old new
CborDoes due (Err refusal) old new = StepIsStopped due old new

-- a call is taken where its step isn't refused and what it writes has room
abbrev pub cbor_writer_law : Law CborWriterView
cbor_writer_law = record {
  accepts = λ view call. MayDoStep (cbor_step call view.state) view.target.told;
  after = λ view call. after_step (cbor_step call view.state) view.target;
  stopped = λ view call left. StepIsStopped (cbor_step call view.state) view.target left;
}

-- ---- the writer in code

-- the state of the steps
abbrev pub cbor_writer_state : {K : Type 0} → Writer K → CborState
cbor_writer_state w = cbor_state w.style (seen_place w.place) w.in_key w.in_number w.counts.now

-- the sink; `told` is what it tells
abbrev pub writer_target : {K : Type 0} → (K → Told) → Writer K → CborTarget
writer_target told w = record { name = w.sink.ghost_name; told = record (told w.sink.now) { held = None }; why = w.why }

-- the writer as its law sees it
abbrev pub cbor_writer_view : {K : Type 0} → (K → Told) → Writer K → CborWriterView
cbor_writer_view told w = record { state = cbor_writer_state w; target = writer_target told w }

-- the same with the two counts of the sink
abbrev pub cbor_writer_standing : {K : Type 0} → (K → Told) → Writer K → Standing CborWriterView
cbor_writer_standing told w = record { view = cbor_writer_view told w; faults = (told w.sink.now).faults; wants = (told w.sink.now).wants }
