-- What a program leaves of its sink, whatever it writes.
use Rattle.std.specs.Prelude.{◌≡◌, ◌⊎◌, ℕ, Bool, true, false, List, Result, Ok, Err}
use Rattle.sval_core.specs.Law.{Rose}
use Rattle.sval_io.specs.Sinks.{Told, IsSteady, NoCountFell, LacksRoom, Appends, AppendsFront, AppendsPart, WritesWhole}
use Rattle.sval_io.specs.declared.sink.SinkError.{SinkError}
use Rattle.sval_io.specs.declared.sink.SinkError.TheVariants as sink

-- what was taken before stays, and something may follow it
abbrev pub Grows : Told → Told → Type 0
Grows old new = (more : List ℕ) × Appends old more new

-- memory was wanting for the sink itself, or the sink is as it was
abbrev pub IsOwnWant : {K : Type 0} → (K → Told) → K → K → Type 0
IsOwnWant told old new = (new ≡ old) ⊎ Rose (told old).wants (told new).wants

-- the same where what is written is captured part by part: memory may also be wanting between two parts, and then no count moved
abbrev pub IsWantBetween : {K : Type 0} → (K → Told) → K → K → Type 0
IsWantBetween told old new = IsSteady (told old) (told new) ⊎ Rose (told old).wants (told new).wants

-- by whether it may be wanting there
abbrev pub IsWantIf : {K : Type 0} → (partly : Bool) → (K → Told) → K → K → Type 0
IsWantIf false told old new = IsOwnWant told old new
IsWantIf true told old new = IsWantBetween told old new

-- ---- one text

-- why writing a text stopped: a fault, or a want of memory
abbrev pub IsStopCause : {K : Type 0} → SinkError → (K → Told) → K → K → Type 0
IsStopCause sink.Failed told old new = Rose (told old).faults (told new).faults
IsStopCause sink.NoMemory told old new = IsOwnWant told old new

-- a first part of the text was taken
pub record StopsWithin {K : Type 0} (why : SinkError) (told : K → Told) (text : List ℕ) (old new : K) : Type 0 where
  pub cause : IsStopCause why told old new
  pub begins : AppendsFront (told old) text (told new)
  pub counts : NoCountFell (told old) (told new)

-- the same where memory may be wanting between two parts of the text
abbrev pub IsCauseBetween : {K : Type 0} → SinkError → (K → Told) → K → K → Type 0
IsCauseBetween sink.Failed told old new = Rose (told old).faults (told new).faults
IsCauseBetween sink.NoMemory told old new = IsWantBetween told old new

pub record StopsBetween {K : Type 0} (why : SinkError) (told : K → Told) (text : List ℕ) (old new : K) : Type 0 where
  pub cause : IsCauseBetween why told old new
  pub begins : AppendsFront (told old) text (told new)
  pub counts : NoCountFell (told old) (told new)

-- by whether it may be wanting there
abbrev pub StopsIf : {K : Type 0} → (partly : Bool) → SinkError → (K → Told) → List ℕ → K → K → Type 0
StopsIf false why told text old new = StopsWithin why told text old new
StopsIf true why told text old new = StopsBetween why told text old new

-- a first part of the text was taken by a sink that wasn't flushed: where it failed, the text had no place in the room that it told; not all of it was taken, and where
-- memory was wanting the sink may be as it was
pub record StopsWriting {K : Type 0} (why : SinkError) (told : K → Told) (text : List ℕ) (old new : K) : Type 0 where
  pub stops : StopsWithin why told text old new
  pub full : why ≡ sink.Failed → LacksRoom (told old) text
  pub short : why ≡ sink.Failed → AppendsPart (told old) text (told new)
  pub no_memory_short : why ≡ sink.NoMemory → (new ≡ old) ⊎ AppendsPart (told old) text (told new)

-- the text was taken whole, or a first part of it
abbrev pub WritesText : {K : Type 0} → Result (Unit {0}) SinkError → (K → Told) → List ℕ → K → K → Type 0
WritesText (Ok done) told text old new = WritesWhole (told old) text (told new)
WritesText (Err why) told text old new = StopsWriting why told text old new
