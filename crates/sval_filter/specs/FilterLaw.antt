-- The law of a filter as a stream over another one: which calls it takes, what it passes on, and what a refusal leaves.
use Rattle.std.specs.Prelude.{◌≡◌, ℕ, ◌⊎◌, Bool, true, false, List, [], ◌∷◌, Option, Some, None}
use Rattle.sval_label.specs.Calls.{Call}
use Rattle.sval_core.specs.Law.{Law, Standing, Ran, Stops}
use Rattle.sval_core.specs.Values.{makes}
use Rattle.sval_core.specs.Checker.{State}
use Rattle.sval_core.specs.CheckerSteps.{goes_on, state_after}
pub use Rattle.sval_check.specs.Checked.{wants_after}
pub use Rattle.sval_check.specs.declared.checked.Why.{Why}
pub use Rattle.sval_check.specs.declared.checked.Why.TheVariants.{NotViable, NoMemory, Inner}
use Rattle.sval_filter.specs.Paths.{Path, Rule}
use Rattle.sval_filter.specs.Filtering.{Filtering, fresh, may_take_memory, due, kept_after}

-- what a filter is: the machine's state, what is kept to filter calls, where the inner stream stands, its last refusal and its wants
pub record FilterView (V : Type 0) : Type 0 where
  pub state : State
  pub kept : Filtering
  pub inner : Standing V
  pub why : Option Why
  pub wants : ℕ

-- a new filter over a stream
abbrev pub new_filter : {V : Type 0} → Standing V → FilterView V
new_filter inner = record { state = record { filled = false; frames = [] }; kept = fresh; inner = inner; why = None; wants = 0 }

-- the faults are the inner stream's, and the wants its own
abbrev pub filter_standing : {V : Type 0} → FilterView V → Standing (FilterView V)
filter_standing view = record { view = view; faults = view.inner.faults; wants = view.wants }

-- ---- calls that are taken

-- the inner stream has refused a call that was due: no later call is taken
abbrev pub is_stopped : Option Why → Bool
is_stopped (Some Inner) = true
is_stopped _ = false

-- the filter isn't stopped, and some value goes on with the call
pub record FilterGoesOn {V : Type 0} (view : FilterView V) (call : Call) : Type 0 where
  pub going : is_stopped view.why ≡ false
  pub viable : goes_on view.state call ≡ true

-- what calls make of a view, if each of them is accepted
abbrev pub all_taken : {V : Type 0} → Law V → V → List Call → V
all_taken law view [] = view
all_taken law view (call ∷ calls) = all_taken law (law.after view call) calls

-- each of the calls is accepted after those before it
abbrev pub AcceptsAll : {V : Type 0} → Law V → V → List Call → Type 0
AcceptsAll law view calls = Ran law view calls (all_taken law view calls)

-- a call is accepted where it goes on, and the inner stream accepts the calls that are due
pub record FilterAccepts {V : Type 0} (law : Law V) (rule : Rule) (paths : List Path) (view : FilterView V) (call : Call) : Type 0 where
  pub goes : FilterGoesOn view call
  pub passed_on : AcceptsAll law view.inner.view (due rule paths view.kept call)

-- the inner stream after these calls were taken
abbrev pub inner_after : {V : Type 0} → Law V → Standing V → List Call → Standing V
inner_after law inner calls = record inner { view = all_taken law inner.view calls }

-- the filter after a call that is accepted
abbrev pub filter_after : {V : Type 0} → Law V → Rule → List Path → FilterView V → Call → FilterView V
filter_after law rule paths view call = record view {
  state = state_after call view.state;
  kept = kept_after rule paths view.kept call;
  inner = inner_after law view.inner (due rule paths view.kept call);
}

-- ---- calls that are refused

-- no value goes on with the call, and the filter isn't stopped
pub record IsNotViable {V : Type 0} (view : FilterView V) (call : Call) : Type 0 where
  pub going : is_stopped view.why ≡ false
  pub not_viable : goes_on view.state call ≡ false

-- the call goes on, and may take memory
pub record LacksFilterMemory {V : Type 0} (paths : List Path) (view : FilterView V) (call : Call) : Type 0 where
  pub goes : FilterGoesOn view call
  pub grows : may_take_memory paths view.kept call ≡ true

-- the call goes on, and the inner stream refused one of the calls that are due
pub record IsRefusedInside {V : Type 0} (law : Law V) (rule : Rule) (paths : List Path) (view : FilterView V) (call : Call)
    (inner : Standing V) : Type 0 where
  pub goes : FilterGoesOn view call
  pub stops : Stops law view.inner (makes (due rule paths view.kept call)) inner

-- the cause of a refusal for this, and what it leaves of the inner stream
abbrev pub IsFilterCause : {V : Type 0} → Law V → Rule → List Path → FilterView V → Call → Standing V → Why → Type 0
IsFilterCause law rule paths view call inner NotViable = IsNotViable view call × (inner ≡ view.inner)
IsFilterCause law rule paths view call inner NoMemory = LacksFilterMemory paths view call × (inner ≡ view.inner)
IsFilterCause law rule paths view call inner Inner =
    ((is_stopped view.why ≡ true) × (inner ≡ view.inner)) ⊎ IsRefusedInside law rule paths view call inner

-- a refused call leaves what the filter keeps, and is the last one that was refused
pub record IsFilterLeft {V : Type 0} (law : Law V) (rule : Rule) (paths : List Path) (view : FilterView V) (call : Call)
    (left : FilterView V) : Type 0 where
  pub state : left.state ≡ view.state
  pub kept : left.kept ≡ view.kept
  pub last : Why
  pub why : left.why ≡ Some last
  pub cause : IsFilterCause law rule paths view call left.inner last
  pub wants : left.wants ≡ wants_after last view.wants

-- the law of a filter with this rule and these paths, over a stream of this law
abbrev pub filter_law : {V : Type 0} → Law V → Rule → List Path → Law (FilterView V)
filter_law law rule paths = record {
  accepts = λ view call. FilterAccepts law rule paths view call;
  after = λ view call. filter_after law rule paths view call;
  stopped = λ view call left. IsFilterLeft law rule paths view call left;
}

-- ---- a filter with what it filters by

-- its rule, its paths, and what else it is
pub record Ruled (V : Type 0) : Type 0 where
  pub rule : Rule
  pub paths : List Path
  pub view : FilterView V

-- the calls that are due at a call
abbrev pub calls_due : {V : Type 0} → Ruled V → Call → List Call
calls_due ruled call = due ruled.rule ruled.paths ruled.view.kept call

-- the faults are the inner stream's, and the wants its own
abbrev pub ruled_standing : {V : Type 0} → Ruled V → Standing (Ruled V)
ruled_standing ruled = record { view = ruled; faults = ruled.view.inner.faults; wants = ruled.view.wants }

-- a refused call leaves the rule and the paths, and what the law of a filter with them says
pub record IsRuledLeft {V : Type 0} (law : Law V) (ruled : Ruled V) (call : Call) (left : Ruled V) : Type 0 where
  pub rule : left.rule ≡ ruled.rule
  pub paths : left.paths ≡ ruled.paths
  pub filter : IsFilterLeft law ruled.rule ruled.paths ruled.view call left.view

-- the law of filters over streams of this law: that of a filter with the rule and the paths
abbrev pub ruled_law : {V : Type 0} → Law V → Law (Ruled V)
ruled_law law = record {
  accepts = λ ruled call. FilterAccepts law ruled.rule ruled.paths ruled.view call;
  after = λ ruled call. record ruled { view = filter_after law ruled.rule ruled.paths ruled.view call };
  stopped = λ ruled call left. IsRuledLeft law ruled call left;
}

-- ---- calls of which some are refused

-- the filter took these calls, and refused others between them without being stopped
pub data Took {V : Type 0} (law : Law V) (rule : Rule) (paths : List Path) : FilterView V → List Call → FilterView V → Type 0 where
  none : {view : FilterView V} → Took law rule paths view [] view
  takes : {view last : FilterView V} {call : Call} {calls : List Call} → FilterAccepts law rule paths view call
      → Took law rule paths (filter_after law rule paths view call) calls last → Took law rule paths view (call ∷ calls) last
  refuses : {view left last : FilterView V} {calls : List Call} (call : Call) → IsFilterLeft law rule paths view call left
      → is_stopped left.why ≡ false → Took law rule paths left calls last → Took law rule paths view calls last
