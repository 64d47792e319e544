-- The laws of collecting fragments, as facts.
use Rattle.std.specs.Prelude.{◌≡◌, Ok, Err, Result}
use Rattle.sval_core.specs.Law.{Emission, Streams, Stops}
use Rattle.sval_buffer.specs.Pushes.{HeldBytes}
use Rattle.sval_buffer.specs.Forest.{no_bytes}
use Rattle.sval_buffer.specs.declared.error.Word.{Word}
use Rattle.sval_buffer.specs.declared.error.Word.TheVariants as word
use Rattle.sval_buffer.specs.declared.error.ErrorKind.{ErrorKind}
use Rattle.sval_buffer.specs.CapturedValues.{cause_by}
use Rattle.sval_buffer.specs.Collected.{text_collected, binary_collected, IsHeldDue}
use Rattle.sval_buffer.specs.Capture.{IsNoAlloc}
use Rattle.sval_buffer.specs.CollectSteps.{CollectStep, text_step, binary_step, Collects, text_collects, binary_collects, steps_of, answer_after, LacksCollectMemory, Collecting, nothing_collected, collect_law, collecting}

-- the steps of the calls answer what their lowered calls do
abbrev pub StepsCollect : Word → CollectStep → (Emission → Result HeldBytes ErrorKind) → Type 0
StepsCollect expected step collected = (e : Emission) → answer_after expected e.refuses (steps_of step no_bytes e.calls) ≡ collected e

-- A stream that meets the steps, and has collected nothing at first, answers what is due: what it holds where it took all
-- calls, and else why it refused one, or that the value itself failed. It says that memory was wanting only where a call
-- may take some.
pub record StreamCollects (how : Collects) (collected : Emission → Result HeldBytes ErrorKind) : Type 0 where
  pub on_ok : (e : Emission) (start last : Collecting) → start ≡ nothing_collected → Streams (collect_law how) (collecting start) e (collecting last)
      → IsHeldDue (collected e) (Ok last.held)
  pub on_err : (e : Emission) (start last : Collecting) → start ≡ nothing_collected → Stops (collect_law how) (collecting start) e (collecting last)
      → IsHeldDue (collected e) (Err (cause_by last.refusal))
  pub on_want : (e : Emission) (start last : Collecting) → start ≡ nothing_collected → Stops (collect_law how) (collecting start) e (collecting last)
      → IsNoAlloc (cause_by last.refusal) → LacksCollectMemory how e.calls

-- the steps of texts answer what is collected of a value as a text
abbrev pub TextStepsCollect : Type 0
TextStepsCollect = StepsCollect word.Text text_step text_collected

-- the same of binaries
abbrev pub BinaryStepsCollect : Type 0
BinaryStepsCollect = StepsCollect word.Binary binary_step binary_collected

-- and so does a stream that meets them
abbrev pub TextStreamCollects : Type 0
TextStreamCollects = StreamCollects text_collects text_collected

-- the same of binaries
abbrev pub BinaryStreamCollects : Type 0
BinaryStreamCollects = StreamCollects binary_collects binary_collected
