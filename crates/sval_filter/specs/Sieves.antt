-- What passes on the calls that are due of those that it takes, and trusts them to go on.
use Rattle.std.specs.Prelude.{◌≡◌, Bool, true, false, if◌then◌else◌, List, [], ◌∷◌, ◌++◌, map, Result, Ok, Err}
use Rattle.sval_label.specs.Calls.{Call, PartBegin, Key}
use Rattle.sval_core.specs.Law.{Law, Standing, Streams, Stops, computed}
use Rattle.sval_core.specs.Values.{makes}
use Rattle.sval_buffer.specs.Forest.{Forest, take, replayed}
use Rattle.sval_buffer.specs.Capture.{forest_by}
use Rattle.sval_buffer.specs.SeenBuffers.{capture_of}
use Rattle.sval_filter.specs.Paths.{Path, Rule, Fate, LeftOut}
use Rattle.sval_filter.specs.Filtering.{Filtering, Layer, Mode, Holding, layer, mode_in, passed, held_after, key_may_grow, due, kept_after}
use Rattle.sval_filter.specs.SeenLayers.{is_holding, passes}
use Rattle.sval_filter.specs.declared.sieve.Sieve.{Sieve}
use Rattle.sval_filter.specs.declared.sieve.Hindrance.{Hindrance}
use Rattle.sval_filter.specs.declared.sieve.Hindrance.TheVariants.{NoMemory, Inside}

-- what it is: its rule and paths, what it keeps, and where the inner stream stands
pub record SieveView (V : Type 0) : Type 0 where
  pub rule : Rule
  pub paths : List Path
  pub kept : Filtering
  pub inner : Standing V

-- what a sieve of the program is, over a stream that stands where this says
abbrev pub sieve_view : {S V : Type 0} → (S → Standing V) → Sieve S → SieveView V
sieve_view standing sieve = record {
  rule = sieve.rule;
  paths = sieve.layers.paths;
  kept = record { layers = sieve.layers.layers; held = (capture_of sieve.held).forest };
  inner = standing sieve.inner;
}

-- the calls that are due
abbrev pub due_at : {V : Type 0} → SieveView V → Call → List Call
due_at view call = due view.rule view.paths view.kept call

-- what is kept after a call
abbrev pub next_kept : {V : Type 0} → SieveView V → Call → Filtering
next_kept view call = kept_after view.rule view.paths view.kept call

-- ---- steps

-- what passing calls on says: the inner stream took them, or stopped in them
abbrev pub PassesCalls : {V : Type 0} → Law V → Standing V → List Call → Result (Unit {0}) Hindrance → Standing V → Type 0
PassesCalls law old calls (Ok done) new = Streams law old (makes calls) new
PassesCalls law old calls (Err NoMemory) new = ⊥
PassesCalls law old calls (Err Inside) new = Stops law old (makes calls) new

-- what a step says of which these calls are due and this is kept after it, and which may take memory
abbrev pub Moves : {V : Type 0} → Law V → SieveView V → List Call → Filtering → (grows : Bool) → Result (Unit {0}) Hindrance → SieveView V → Type 0
Moves law old calls after grows (Ok done) new = Streams law old.inner (makes calls) new.inner × (new ≡ record old { kept = after; inner = new.inner })
Moves law old calls after grows (Err NoMemory) new = (grows ≡ true) × (new ≡ old)
Moves law old calls after grows (Err Inside) new = Stops law old.inner (makes calls) new.inner × (new ≡ record old { inner = new.inner })

-- the mode in which the next call is taken
abbrev pub mode_now : {V : Type 0} → SieveView V → Mode
mode_now view = mode_in view.paths view.kept.layers

-- what is held of a key after the call
abbrev pub held_next : {V : Type 0} → SieveView V → Call → Forest
held_next view call = held_after (mode_now view) view.kept.held call

-- what taking a call says, in whose place these are due and after which these layers stand
abbrev pub TakesCall : {V : Type 0} → Law V → SieveView V → (taken : Call) → List Call → List Layer → Result (Unit {0}) Hindrance → SieveView V → Type 0
TakesCall law old taken calls layers result new =
    Moves law old calls (record { layers = layers; held = held_next old taken }) (key_may_grow (mode_now old) old.kept.held taken) result new

-- what taking a begin says, in whose place another call is passed on and after which calls are treated so
abbrev pub TakesBegin : {V : Type 0} → Law V → SieveView V → (taken relayed : Call) → Mode → Result (Unit {0}) Hindrance → SieveView V → Type 0
TakesBegin law old taken relayed mode result new =
    Moves law old (passed mode (relayed ∷ [])) (record { layers = layer mode ∷ old.kept.layers; held = held_next old taken }) true result new

-- the call, where it is passed on
abbrev pub one_if : Bool → Call → List Call
one_if true call = call ∷ []
one_if false call = []

-- what holding a call says, or passing another one on
abbrev pub Settles : {V : Type 0} → Law V → (holds passes : Bool) → (held passed : Call) → SieveView V → Result (Unit {0}) Hindrance → SieveView V → Type 0
Settles law true passes held passed old result new =
    let kept = record old.kept { held = forest_by (take old.kept.held (computed held)) old.kept.held } in
    Moves law old [] kept (key_may_grow Holding old.kept.held held) result new
Settles law false passes held passed old result new = Moves law old (one_if passes passed) old.kept false result new

-- what opening a layer says in which calls are treated so
abbrev pub OpensLayer : {V : Type 0} → Law V → Mode → (held passed : Call) → SieveView V → Result (Unit {0}) Hindrance → SieveView V → Type 0
OpensLayer law mode held passed old result new =
    let around = mode_in old.paths old.kept.layers in
    let kept : Filtering = record { layers = layer mode ∷ old.kept.layers; held = held_after around old.kept.held held } in
    Moves law old (if is_holding around then [] else one_if (passes mode) passed) kept true result new

-- the key that is held with its begin and this end, where its entry isn't left out
abbrev pub key_and_end : Fate → Forest → Call → List Call
key_and_end LeftOut held end = []
key_and_end fate held end = PartBegin Key ∷ (map computed (replayed held) ++ (end ∷ []))
