-- The JSON writer as a stream: its law is that it meets the steps.
use Rattle.std.specs.Prelude.{◌≡◌, ℕ, true, false, List, Option, Some, None, Result, Ok, Err, length}
use Rattle.std.specs.Borrow.{MutBor}
use Rattle.sval_label.specs.declared.error.Error.{Error}
use Rattle.sval_core.specs.Law.{Law, Standing}
use Rattle.sval_io.specs.Sinks.{Told, appended, less_room, HasRoom, WritesWhole, WritesFront}
use Rattle.sval_json.specs.declared.error.Stop.{Stop}
use Rattle.sval_json.specs.declared.error.Stop.TheVariants.{Step, Sink}
use Rattle.sval_json.specs.declared.style.Variants.{Variants}
use Rattle.sval_json.specs.declared.writer.JsonWriter.{JsonWriter}
use Rattle.sval_json.specs.declared.writer.Handler.TheVariants.{Escapes}
use Rattle.sval_json.specs.Actions.{WriterState, Action}
use Rattle.sval_json.specs.SeenWriter.{seen_handler}
use Rattle.sval_json.specs.Steps.{writer_step}
use Rattle.sval_json.specs.Number.{Refusal}
use Rattle.sval_json.specs.Passed.{IsPassed}
use Rattle.sval_json.specs.ErrorKinds.{seen_refusal}

-- the sink that a writer writes to: which one, what it tells but for what it holds back, and what stopped the writer, if something did
pub record Target : Type 0 where
  pub name : ℕ
  pub told : Told
  pub why : Option Stop

-- what the writer has taken, as a stream: its style of variants, the state of the steps, and the sink
pub record WriterView : Type 0 where
  pub style : Variants
  pub state : WriterState
  pub target : Target

-- the sink after it took these bytes
abbrev pub with_bytes : List ℕ → Target → Target
with_bytes bytes target =
    record target { told = record target.told { text = appended target.told.text bytes; room = less_room target.told.room (length bytes) } }

-- the writer after an action that isn't refused
abbrev pub after_action : Action → WriterView → WriterView
after_action action view =
    record { style = view.style; state = (action view.state).state; target = with_bytes (action view.state).written view.target }

-- ---- what an action does

-- the action refuses nothing, and what it writes has room
pub record MayDo (action : Action) (view : WriterView) : Type 0 where
  pub refusal : (action view.state).refusal ≡ None
  pub fits : HasRoom view.target.told (action view.state).written

-- the action was done
pub record HasDone (action : Action) (old new : WriterView) : Type 0 where
  pub may : MayDo action old
  pub view : new ≡ after_action action old

-- what the sink took of these bytes, by what stopped the writer: all, where its own step refuses; a first part, where the sink does
abbrev pub IsLeftBy : Option Stop → Option Refusal → List ℕ → Told → Told → Type 0
IsLeftBy None refusal bytes old new = ⊥
IsLeftBy (Some (Step why)) refusal bytes old new = (refusal ≡ Some (seen_refusal why)) × WritesWhole old bytes new
IsLeftBy (Some (Sink why)) refusal bytes old new = WritesFront why old bytes new

-- the action was stopped, and what it writes was left so
pub record IsStopped (action : Action) (old new : WriterView) : Type 0 where
  pub left : IsLeftBy new.target.why (action old.state).refusal (action old.state).written old.target.told new.target.told
  pub name : new.target.name ≡ old.target.name

-- what the answer of a part of the writer says: it did the action, or was stopped in it
abbrev pub Does : Action → Result (Unit {0}) Error → WriterView → WriterView → Type 0
Does action (Ok done) old new = HasDone action old new
Does action (Err refusal) old new = IsStopped action old new

-- the state was changed so, and nothing else
abbrev pub IsOnlySet : (WriterState → WriterState) → WriterView → WriterView → Type 0
IsOnlySet change old new = new ≡ record old { state = change old.state }

-- a call is taken where its step refuses nothing and what it writes has room
abbrev pub step_law : Law WriterView
step_law = record {
  accepts = λ view call. MayDo (writer_step view.style call) view;
  after = λ view call. after_action (writer_step view.style call) view;
  stopped = λ view call left. IsStopped (writer_step view.style call) view left;
}

-- the same, of calls that a program can pass: no other is passed
abbrev pub writer_law : Law WriterView
writer_law = record {
  accepts = λ view call. MayDo (writer_step view.style call) view × IsPassed call;
  after = λ view call. after_action (writer_step view.style call) view;
  stopped = λ view call left. IsStopped (writer_step view.style call) view left;
}

-- ---- the writer in code

-- a writer that has taken no call
abbrev pub fresh_writer : {K : Type 0} → MutBor K → Variants → JsonWriter K
fresh_writer sink style =
    record { sink = sink; variants = style; named = false; empty = true; quoted = true; handler = Escapes; why = None }

-- the sink that a writer writes to
abbrev pub sink_of : {K : Type 0} → JsonWriter K → MutBor K
sink_of w = w.sink

-- what stopped a writer, if something did
abbrev pub stop_of : {K : Type 0} → JsonWriter K → Option Stop
stop_of w = w.why

-- the state of the steps
abbrev pub writer_state : {K : Type 0} → JsonWriter K → WriterState
writer_state w = record { named = w.named; empty = w.empty; quoted = w.quoted; handler = seen_handler w.handler }

-- `told` is what the sink tells
abbrev pub target_of : {K : Type 0} → (K → Told) → MutBor K → Option Stop → Target
target_of told sink why = record { name = sink.ghost_name; told = record (told sink.now) { held = None }; why = why }

-- the writer as its law sees it; `told` is what the sink tells
abbrev pub writer_view : {K : Type 0} → (K → Told) → JsonWriter K → WriterView
writer_view told w = record { style = w.variants; state = writer_state w; target = target_of told w.sink w.why }

-- the same with the two counts of the sink
abbrev pub writer_standing : {K : Type 0} → (K → Told) → JsonWriter K → Standing WriterView
writer_standing told w = record { view = writer_view told w; faults = (told w.sink.now).faults; wants = (told w.sink.now).wants }
