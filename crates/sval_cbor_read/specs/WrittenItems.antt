-- What writing the JSON of a document answers.
use Rattle.std.specs.Prelude.{◌≡◌, List, Result, Err, OnOk, OnErr}
use Rattle.sval_label.specs.Calls.{Call}
use Rattle.sval_core.specs.Law.{Rose}
use Rattle.sval_io.specs.Sinks.{Told, IsSteady, NoCountFell}
use Rattle.sval_json.specs.declared.error.ErrorKind.{ErrorKind}
use Rattle.sval_json.specs.declared.error.ErrorKind.TheVariants as kind
use Rattle.sval_json.specs.declared.style.Variants.TheVariants.{Inside}
use Rattle.sval_json.specs.ErrorKinds.{refusal_kind}
use Rattle.sval_json.specs.Number.{Refusal}
use Rattle.sval_json.specs.Written.{IsWrittenIn, IsRefusedIn, IsBegunIn, IsCutIn, IsTooLongFor}

-- On Ok the sink took what the writer's steps write for the calls. Where a step refuses a call, it took exactly what they write up to
-- there. Where the sink declined, it took a first part and not all, and a count says why.
pub record WritesSteps (calls : List Call) (result : Result (Unit {0}) ErrorKind) (old new : Told) : Type 0 where
  pub written : OnOk result (IsWrittenIn Inside calls old new)
  pub steady : OnOk result (IsSteady old new)
  pub refused : (why : Refusal) → result ≡ Err (refusal_kind why) → IsRefusedIn Inside why calls old new
  pub willing : result ≡ Err kind.Generic → ⊥
  pub io : result ≡ Err kind.IO → Rose old.faults new.faults
  pub io_room : result ≡ Err kind.IO → IsTooLongFor Inside calls old
  pub io_short : result ≡ Err kind.IO → IsCutIn Inside calls old new
  pub no_memory : result ≡ Err kind.NoMemory → Rose old.wants new.wants
  pub no_memory_short : result ≡ Err kind.NoMemory → IsCutIn Inside calls old new
  pub counts : NoCountFell old new
  pub prefix : OnErr result (IsBegunIn Inside calls old new)
