-- What serving a script says of it, and what it makes of the sink.
use Rattle.std.specs.Prelude.{◌≡◌, ℕ, ◌⊎◌, ◌++◌, Bool, true, false, List, [], ◌∷◌, Option, Some, None, Result, Ok, Err, IfErr}
use Rattle.sval_label.specs.Calls.{Call}
use Rattle.sval_core.specs.Law.{Rose}
use Rattle.sval_core.specs.Trees.{Tree, calls_of}
use Rattle.sval_io.specs.declared.sink.SinkError.{SinkError}
use Rattle.sval_io.specs.declared.sink.SinkError.TheVariants as sink
use Rattle.sval_io.specs.Sinks.{Told, IsSteady, NoCountFell, LacksRoom, Appends, AppendsFront}
use Rattle.sval_check.specs.declared.error.CheckError.{CheckError}
use Rattle.sval_check.specs.declared.error.CheckError.TheVariants as checking
use Rattle.sval_json.specs.declared.style.Variants.{Variants}
use Rattle.sval_json.specs.Json.{Json, compact}
use Rattle.sval_json.specs.Shape.{json_in}
use Rattle.sval_json.specs.Grammar.{JsonValue}
use Rattle.sval_json.specs.Promises.{KeepsPromises}
use Rattle.sval_json.specs.Laws.{IsTheValueOf}
use Rattle.sval_program.specs.Outputs.{Grows, IsWantIf}
use Rattle.sval_script.specs.Lines.{Good, lines}
use Rattle.sval_script.specs.declared.script.ScriptError.{ScriptError}
use Rattle.sval_script.specs.declared.script.ScriptError.TheVariants as reading
use Rattle.sval_relay.specs.declared.way.Task.{Task}
use Rattle.sval_relay.specs.declared.relaying.RelayError.{RelayError}
use Rattle.sval_relay.specs.declared.relaying.RelayError.TheVariants as answer
use Rattle.sval_relay.specs.Ways.{is_captured, is_partly}
use Rattle.sval_relay.specs.Verdict.{RelayVerdict, BadLine, BadCall, Unfinished, Key, Number, Text, TreeFormat, JsonIn, Script, asked_in, ending, SpellTrees, IsRelayVerdict, OnVerdict}

-- ---- the errors

-- the answer where a script wasn't read
abbrev pub of_script : ScriptError → RelayError
of_script (reading.BadLine n) = answer.BadLine n
of_script reading.NoMemory = answer.NoMemory

-- the answer where checking a script's calls found that they are no value, which it never does by a refusal
abbrev pub of_check : CheckError → Option RelayError
of_check (checking.BadCall n) = Some (answer.BadCall n)
of_check checking.Unfinished = Some answer.Unfinished
of_check checking.NoMemory = Some answer.NoMemory
of_check checking.Refused = None

-- the answer where the sink refused
abbrev pub of_sink : SinkError → RelayError
of_sink sink.Failed = answer.Write
of_sink sink.NoMemory = answer.NoMemory

-- these errors come before anything is written
abbrev pub is_of_script : RelayError → Bool
is_of_script (answer.BadLine n) = true
is_of_script (answer.BadCall n) = true
is_of_script answer.Unfinished = true
is_of_script _ = false

-- ---- what the texts of trees mean

-- the text is that of the tree's JSON, which denotes the one value that this JSON means, and no other
pub record TellsValue (style : Variants) (tree : Tree) (text : List ℕ) : Type 0 where
  pub json : Json
  pub shape : json_in style tree ≡ Ok json
  pub is_text : text ≡ compact json
  pub value : JsonValue
  pub is : IsTheValueOf json value

-- JSON denotes what is meant, if the tree keeps its promises; a canonical script spells the tree's canonical calls
abbrev pub IsMeant : TreeFormat → Tree → List ℕ → Type 0
IsMeant (JsonIn style) tree text = KeepsPromises tree → TellsValue style tree text
IsMeant Script tree text = lines text ≡ Good (calls_of tree)

-- the trees' texts stand one after another, each with this ending, and each is what is meant
abbrev pub AreMeant : TreeFormat → List ℕ → List Tree → List ℕ → Type 0
AreMeant asked end [] bytes = bytes ≡ []
AreMeant asked end (tree ∷ trees) bytes =
    (text : List ℕ) × (later : List ℕ) × (bytes ≡ text ++ (end ++ later)) × IsMeant asked tree text × AreMeant asked end trees later

-- the text is what the trees that the script spells mean
abbrev pub MeansAll : List ℕ → List ℕ → Task → Type 0
MeansAll text script task =
    (calls : List Call) (trees : List Tree) → lines script ≡ Good calls → SpellTrees task.many calls trees → AreMeant (asked_in task.way) (ending (asked_in task.way) task.many) trees text

-- ---- what is left of a sink

-- the verdict is a text, and exactly that was taken
pub record WritesVerdictText (old new : Told) (script : List ℕ) (task : Task) : Type 0 where
  pub text : List ℕ
  pub is : IsRelayVerdict (Text text) script task
  pub appends : Appends old text new

-- exactly the texts of these trees were taken, and they are what is meant
pub record WritesMeant (task : Task) (trees : List Tree) (old new : Told) : Type 0 where
  pub bytes : List ℕ
  pub are : AreMeant (asked_in task.way) (ending (asked_in task.way) task.many) trees bytes
  pub appends : Appends old bytes new

-- what was taken is what the trees that the script spells mean
abbrev pub WritesValue : Told → Told → List ℕ → Task → Type 0
WritesValue old new script task =
    (calls : List Call) (trees : List Tree) → lines script ≡ Good calls → SpellTrees task.many calls trees → WritesMeant task trees old new

-- the verdict is this refusal, exactly what is written up to it was taken, and no count moved
pub record WritesUpTo (refusal : List ℕ → RelayVerdict) (old new : Told) (script : List ℕ) (task : Task) : Type 0 where
  pub written : List ℕ
  pub is : IsRelayVerdict (refusal written) script task
  pub appends : Appends old written new
  pub steady : IsSteady old new

-- what may be left: a first part of the verdict's text was taken, or of what is written up to its refusal; and nothing where there
-- is neither
abbrev pub VerdictMayLeave : Told → Told → RelayVerdict → Type 0
VerdictMayLeave old new (Text text) = AppendsFront old text new
VerdictMayLeave old new (Key written) = AppendsFront old written new
VerdictMayLeave old new (Number written) = AppendsFront old written new
VerdictMayLeave old new _ = new ≡ old

-- the verdict's text, or what is written up to its refusal, has no place in the room that is told; never so where it has neither
abbrev pub LacksRoomFor : Told → RelayVerdict → Type 0
LacksRoomFor old (Text text) = LacksRoom old text
LacksRoomFor old (Key written) = LacksRoom old written
LacksRoomFor old (Number written) = LacksRoom old written
LacksRoomFor old _ = ⊥

-- where each of many values is captured by itself, what those before it are may have been taken already
abbrev pub IsWantFor : {K : Type 0} → (captured many : Bool) → (K → Told) → K → K → Type 0
IsWantFor captured many told old new = IsWantIf (is_partly captured many) told old new

abbrev pub IsWantIn : {K : Type 0} → Task → (K → Told) → K → K → Type 0
IsWantIn task told old new = IsWantFor (is_captured task.way) task.many told old new

-- ---- what serving answers

-- the answer that is due
abbrev pub IsAnswerTo : RelayVerdict → Result (Unit {0}) RelayError → Type 0
IsAnswerTo (BadLine n) result = result ≡ Err (answer.BadLine n)
IsAnswerTo (BadCall n) result = result ≡ Err (answer.BadCall n)
IsAnswerTo Unfinished result = result ≡ Err answer.Unfinished
IsAnswerTo (Text text) result = result ≡ Ok tt
IsAnswerTo (Key written) result = result ≡ Err answer.InvalidKey
IsAnswerTo (Number written) result = result ≡ Err answer.InvalidNumber

-- Each answer comes only where it is so. Where no fault of the sink is counted, the answer that is due comes, unless memory is wanting.
-- A script that isn't whole leaves the sink as it was, and whatever comes, the sink begins with what it held, and no count falls.
pub record Relays {K : Type 0} (told : K → Told) (script : List ℕ) (task : Task) (result : Result (Unit {0}) RelayError) (old new : K) : Type 0 where
  pub done : result ≡ Ok tt → WritesVerdictText (told old) (told new) script task
  pub denotes : result ≡ Ok tt → WritesValue (told old) (told new) script task
  pub bad_line : (n : ℕ) → result ≡ Err (answer.BadLine n) → IsRelayVerdict (BadLine n) script task
  pub bad_call : (n : ℕ) → result ≡ Err (answer.BadCall n) → IsRelayVerdict (BadCall n) script task
  pub unfinished : result ≡ Err answer.Unfinished → IsRelayVerdict Unfinished script task
  pub invalid_key : result ≡ Err answer.InvalidKey → WritesUpTo Key (told old) (told new) script task
  pub invalid_number : result ≡ Err answer.InvalidNumber → WritesUpTo Number (told old) (told new) script task
  pub write : result ≡ Err answer.Write → Rose (told old).faults (told new).faults
  pub own_want : result ≡ Err answer.NoMemory → IsWantIn task told old new
  pub comes : (Rose (told old).faults (told new).faults → ⊥) → OnVerdict (λ due. IsAnswerTo due result ⊎ (result ≡ Err answer.NoMemory)) script task
  pub untouched : IfErr result (λ why. is_of_script why ≡ true → new ≡ old)
  pub leaves : OnVerdict (VerdictMayLeave (told old) (told new)) script task
  pub grows : Grows (told old) (told new)
  pub steady : result ≡ Ok tt → IsSteady (told old) (told new)
  pub counts : NoCountFell (told old) (told new)
