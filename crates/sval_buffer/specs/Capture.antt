-- The law of a buffer for values as a stream: it takes a call where its forest does.
use Rattle.std.specs.Prelude.{◌≡◌, ℕ, Bool, true, Option, Some, None, Result, Ok, Err, ⊤}
use Rattle.sval_label.specs.Calls.{Call}
use Rattle.sval_core.specs.Law.{Law, Standing, one_more}
use Rattle.sval_buffer.specs.Forest.{Forest, CaptureAnswer, Becomes, Rejects, Misfit, Unbalanced, OutsideText, OutsideBinary, empty_forest, take, may_grow}
use Rattle.sval_buffer.specs.FlatForest.{FlatForest, forest_in}
use Rattle.sval_buffer.specs.declared.error.Word.TheVariants as word
use Rattle.sval_buffer.specs.declared.error.ErrorKind.{ErrorKind}
use Rattle.sval_buffer.specs.declared.error.ErrorKind.TheVariants as error

-- what a buffer is: what the calls that it took leave, why it refused a call last, and how often memory was wanting
pub record Capture : Type 0 where
  pub forest : Forest
  pub refusal : Option ErrorKind
  pub wants : ℕ

-- what a buffer is that has taken no call since it was new or cleared
abbrev pub no_calls : ℕ → Capture
no_calls wants = record { forest = empty_forest; refusal = None; wants = wants }

-- the error that answers a refusal
abbrev pub error_of : Misfit → ErrorKind
error_of Unbalanced = error.InvalidValue word.Unbalanced
error_of OutsideText = error.OutsideContainer word.Text
error_of OutsideBinary = error.OutsideContainer word.Binary

-- this kind says that memory was wanting
abbrev pub IsNoAlloc : ErrorKind → Type 0
IsNoAlloc (error.NoAlloc method) = ⊤
IsNoAlloc _ = ⊥

-- the forest takes the call
abbrev pub IsAccepted : CaptureAnswer → Type 0
IsAccepted (Becomes next) = ⊤
IsAccepted (Rejects misfit) = ⊥

-- the forest after a call, which stays where the call is refused
abbrev pub forest_by : CaptureAnswer → Forest → Forest
forest_by (Becomes next) f = next
forest_by (Rejects misfit) f = f

-- memory was wanting, for what may take some
pub record WantsMemory (grows : Bool) (why : ErrorKind) : Type 0 where
  pub no_alloc : IsNoAlloc why
  pub takes_memory : grows ≡ true

-- why a call that may take memory, or takes none, and that the forest takes, or doesn't, was refused
abbrev pub IsCaptureCause : Bool → CaptureAnswer → ErrorKind → Type 0
IsCaptureCause grows (Becomes next) why = WantsMemory grows why
IsCaptureCause grows (Rejects misfit) why = why ≡ error_of misfit

-- how often memory was wanting, after a refusal of this kind
abbrev pub wants_after_error : ErrorKind → ℕ → ℕ
wants_after_error (error.NoAlloc method) wants = one_more wants
wants_after_error _ wants = wants

-- a refused call, by whether it may take memory and what the forest answers, leaves the forest, and is the last one that was refused
pub record IsCaptureLeft (grows : Bool) (answer : CaptureAnswer) (view left : Capture) : Type 0 where
  pub forest : left.forest ≡ view.forest
  pub why : ErrorKind
  pub refusal : left.refusal ≡ Some why
  pub cause : IsCaptureCause grows answer why
  pub wants : left.wants ≡ wants_after_error why view.wants

-- A call is accepted where the forest takes it, leaves what the forest becomes, and moves nothing else. So it is by which
-- calls may take memory, and what a forest answers.
abbrev pub capture_law_by : (Forest → Call → Bool) → (Forest → Call → CaptureAnswer) → Law Capture
capture_law_by grows answer = record {
  accepts = λ view call. IsAccepted (answer view.forest call);
  after = λ view call. record { forest = forest_by (answer view.forest call) view.forest; refusal = view.refusal; wants = view.wants };
  stopped = λ view call left. IsCaptureLeft (grows view.forest call) (answer view.forest call) view left;
}

-- the law of a buffer
abbrev pub capture_law : Law Capture
capture_law = capture_law_by may_grow take

-- where a stream stands that is this
abbrev pub capture_standing : Capture → Standing Capture
capture_standing capture = record { view = capture; faults = 0; wants = capture.wants }

-- what an operation leaves of a forest, by whether it may take memory and what the forest answers
abbrev pub Captures : Bool → CaptureAnswer → Forest → Result (Unit {0}) ErrorKind → Forest → Type 0
Captures grows answer old (Ok _) new = answer ≡ Becomes new
Captures grows answer old (Err why) new = (new ≡ old) × IsCaptureCause grows answer why

-- the same of a forest as it is kept
abbrev pub CapturesBy : (Forest → Bool) → (Forest → CaptureAnswer) → FlatForest → Result (Unit {0}) ErrorKind → FlatForest → Type 0
CapturesBy grows answer old result new =
    Captures (grows (forest_in old)) (answer (forest_in old)) (forest_in old) result (forest_in new)
