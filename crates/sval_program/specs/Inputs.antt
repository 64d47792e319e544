-- What programs ask of an input, and what reading a script makes of its source.
use Rattle.std.specs.Prelude.{◌≡◌, ◌⊎◌, ℕ, ◌<◌, ◌^◌, Bool, true, false, List, [], take, length, Option, Some, Err, ⊤}
use Rattle.sval_io.specs.declared.input_error.InputError.{InputError}
use Rattle.sval_io.specs.Sources.{Supply, Gives}
use Rattle.sval_io.specs.WholeInputs.{IsShort, ReadsWhole, StopsReading}
use Rattle.sval_script.specs.Lines.{lines}
use Rattle.sval_script.specs.Readings.{ScriptReading, answer_to, answer_with, TakesPiece}
use Rattle.sval_script.specs.declared.script.ScriptError.TheVariants as reading

-- a fact on an input that is short, and on what is asked for of it
abbrev pub OnShort : {A : Type 0} → (List ℕ → A → Type 0) → List ℕ → A → Type 0
OnShort P input asked = IsShort input → P input asked

-- a fact where the input is longer
abbrev pub OnLong : {A : Type 0} → Type 0 → List ℕ → A → Type 0
OnLong P input asked = 2 ^ 24 < length input → P

-- nothing of the input is left
abbrev pub IsSpent : {A : Type 0} → Supply → List ℕ → A → Type 0
IsSpent new input asked = new.left ≡ Some []

-- the same of an input that is read
abbrev pub IsSpentIf : {A : Type 0} → (reads : Bool) → Supply → List ℕ → A → Type 0
IsSpentIf true new input asked = IsSpent new input asked
IsSpentIf false new input asked = ⊤

-- the bytes that are served: those that are left, where the source tells them, and none where it isn't read
abbrev pub input_if : (reads : Bool) → Supply → Option (List ℕ)
input_if true old = old.left
input_if false old = Some []

-- so many bytes were read into the front of the buffer, and the reader was given them
pub record GivesPart (count : ℕ) (old : Supply) (buffer : List ℕ) (new : Supply) (reader after : ScriptReading) : Type 0 where
  pub gives : Gives count old buffer new
  pub takes : TakesPiece reader (take count buffer) after
  pub nothing : count ≡ 0 → after ≡ reader

-- the input was read whole, and the reader answers as the script that it is asks for, or that memory was wanting
pub record HasRead (old : Supply) (reader : ScriptReading) (new : Supply) : Type 0 where
  pub script : List ℕ
  pub reads : ReadsWhole old script new
  pub answer : (answer_with reader [] ≡ answer_to (lines script)) ⊎ ((answer_with reader [] ≡ Err reading.NoMemory) × (0 < length script))

-- the input wasn't read, and the sink is as it was
pub record IsUnread {I K : Type 0} (source : I → Supply) (why : InputError) (before after : I) (old new : K) : Type 0 where
  pub stops : StopsReading why (source before) (source after)
  pub out : new ≡ old

-- a fact on the input and on what is asked for of it, where there are both
abbrev pub OnBoth : {A : Type 0} → Option A → Option (List ℕ) → (List ℕ → A → Type 0) → Type 0
OnBoth (Some asked) (Some input) P = P input asked
OnBoth _ _ P = ⊤
