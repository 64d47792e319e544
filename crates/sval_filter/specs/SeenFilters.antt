-- What a filter of the program is, as contracts see it.
use Rattle.std.specs.Prelude.{◌≡◌, ℕ, true, false, List, Option, Result, Ok, Err}
use Rattle.sval_label.specs.Calls.{Call}
use Rattle.sval_core.specs.Law.{Law, Standing, Stops}
use Rattle.sval_core.specs.Values.{makes}
use Rattle.sval_core.specs.Checker.{State}
use Rattle.sval_core.specs.CheckerSteps.{goes_on}
use Rattle.sval_buffer.specs.SeenBuffers.{capture_of}
use Rattle.sval_filter.specs.Paths.{Path, Rule}
use Rattle.sval_filter.specs.Filtering.{Filtering, may_take_memory}
use Rattle.sval_filter.specs.FilterLaw.{Why, NotViable, NoMemory, Inner, Ruled, AcceptsAll, filter_after, calls_due}
use Rattle.sval_filter.specs.Sieves.{SieveView, sieve_view}
use Rattle.sval_filter.specs.declared.sieve.Hindrance.{Hindrance}
use Rattle.sval_filter.specs.declared.sieve.Hindrance.TheVariants as hindrance
use Rattle.sval_filter.specs.declared.filter.Filter.{Filter}

-- what a filter is, by the machine's state, what its sieve is, its last refusal and its wants
abbrev pub ruled_by : {V : Type 0} → State → SieveView V → Option Why → ℕ → Ruled V
ruled_by state sieve why wants = record {
  rule = sieve.rule;
  paths = sieve.paths;
  view = record { state = state; kept = sieve.kept; inner = sieve.inner; why = why; wants = wants };
}

-- what a filter of the program is, over a stream that stands where this says: its rule, its paths, and what else it is
abbrev pub ruled_of : {S V : Type 0} → (S → Standing V) → Filter S → Ruled V
ruled_of standing filter = ruled_by filter.machine (sieve_view standing filter.sieve) filter.why filter.wants

-- the sieve's cause of a refusal as that of the filter
abbrev pub why_by : Hindrance → Why
why_by hindrance.NoMemory = NoMemory
why_by hindrance.Inside = Inner

-- the cause of a refusal for this by a filter that isn't stopped, and what it leaves of the inner stream
abbrev pub IsHindrance : {V : Type 0} → Law V → Ruled V → Call → Standing V → Why → Type 0
IsHindrance law old call inner NotViable = (goes_on old.view.state call ≡ false) × (inner ≡ old.view.inner)
IsHindrance law old call inner NoMemory =
    (goes_on old.view.state call ≡ true) × (may_take_memory old.paths old.view.kept call ≡ true) × (inner ≡ old.view.inner)
IsHindrance law old call inner Inner =
    (goes_on old.view.state call ≡ true) × Stops law old.view.inner (makes (calls_due old call)) inner

-- what passing a call on says, of a filter that isn't stopped and keeps no refusal: it was taken, or there is a cause to refuse it
abbrev pub Filters : {V : Type 0} → Law V → Ruled V → Call → Result (Unit {0}) Why → Ruled V → Type 0
Filters law old call (Ok done) new =
    (goes_on old.view.state call ≡ true)
    × AcceptsAll law old.view.inner.view (calls_due old call)
    × (new ≡ record old { view = filter_after law old.rule old.paths old.view call })
Filters law old call (Err why) new =
    IsHindrance law old call new.view.inner why × (new ≡ record old { view = record old.view { inner = new.view.inner } })

-- the stream in it
abbrev pub stream_in : {S : Type 0} → Filter S → S
stream_in filter = filter.sieve.inner

-- the machine's state, which stands for the calls that were taken
abbrev pub state_in : {S : Type 0} → Filter S → State
state_in filter = filter.machine

-- the cause of the last refusal
abbrev pub why_in : {S : Type 0} → Filter S → Option Why
why_in filter = filter.why

-- the rule
abbrev pub rule_in : {S : Type 0} → Filter S → Rule
rule_in filter = filter.sieve.rule

-- the paths
abbrev pub paths_of : {S : Type 0} → Filter S → List Path
paths_of filter = filter.sieve.layers.paths

-- what it keeps beside the machine's state
abbrev pub kept_in : {S : Type 0} → Filter S → Filtering
kept_in filter = record { layers = filter.sieve.layers.layers; held = (capture_of filter.sieve.held).forest }

-- how often it refused a call that goes on
abbrev pub wants_in : {S : Type 0} → Filter S → ℕ
wants_in filter = filter.wants
