-- What writing trees answers, one by itself and one after another.
use Rattle.std.specs.Prelude.{◌≡◌, ℕ, ◌<◌, ◌^◌, Bool, true, false, List, length, Result, Ok, Err}
use Rattle.std.specs.List.{AllByRecursion}
use Rattle.sval_label.specs.Calls.{Call}
use Rattle.sval_core.specs.Law.{Rose}
use Rattle.sval_core.specs.Many.{SpellsAll, AreEnds}
use Rattle.sval_core.specs.Real.{IsPrintable}
use Rattle.sval_core.specs.Spells.{Spells}
use Rattle.sval_core.specs.Trees.{Tree}
use Rattle.sval_io.specs.Sinks.{Told, IsSteady, NoCountFell, LacksRoom, Appends, AppendsFront}
use Rattle.sval_json.specs.Number.{Refusal, InvalidKey, InvalidNumber}
use Rattle.sval_script.specs.Lines.{lines, Good}
use Rattle.sval_relay.specs.declared.way.Way.{Way}
use Rattle.sval_relay.specs.declared.relaying.RelayError.{RelayError}
use Rattle.sval_relay.specs.declared.relaying.RelayError.TheVariants as answer
use Rattle.sval_relay.specs.Ways.{is_captured}
use Rattle.sval_relay.specs.Verdict.{TreeFormat, tree_text, tree_written, tree_due, texts, left, asked_in, ending}
use Rattle.sval_program.specs.Outputs.{IsOwnWant, IsWantBetween}
use Rattle.sval_relay.specs.Relays.{IsMeant, AreMeant}

-- ---- want of memory

-- of the sink itself, where a tree is written at once; where it is captured, also before anything of it was written
abbrev pub IsWantOfTree : {K : Type 0} → (captured : Bool) → (K → Told) → K → K → Type 0
IsWantOfTree false told old new = Rose (told old).wants (told new).wants
IsWantOfTree true told old new = IsOwnWant told old new

-- of one tree among many: those before it may have been written
abbrev pub IsWantAmong : {K : Type 0} → (captured : Bool) → (K → Told) → K → K → Type 0
IsWantAmong false told old new = Rose (told old).wants (told new).wants
IsWantAmong true told old new = IsWantBetween told old new

-- ---- a sink that failed

-- its count of faults rose, and what is due had no place in the room that it told
pub record FailsFull (due : List ℕ) (old new : Told) : Type 0 where
  pub fault : Rose old.faults new.faults
  pub full : LacksRoom old due

-- ---- one tree

-- exactly the tree's text was taken, and is what is meant
pub record WritesTextOf (asked : TreeFormat) (tree : Tree) (old new : Told) : Type 0 where
  pub text : List ℕ
  pub is : tree_text asked tree ≡ Ok text
  pub meant : IsMeant asked tree text
  pub appends : Appends old text new
  pub steady : IsSteady old new

-- the tree has no text for this cause, exactly what is written up to there was taken, and no count moved
pub record RefusesTree (asked : TreeFormat) (why : Refusal) (tree : Tree) (old new : Told) : Type 0 where
  pub is : tree_text asked tree ≡ Err why
  pub appends : Appends old (tree_written asked tree) new
  pub steady : IsSteady old new

-- why writing stopped
abbrev pub IsCauseOf : {K : Type 0} → RelayError → (captured : Bool) → (K → Told) → TreeFormat → Tree → K → K → Type 0
IsCauseOf answer.InvalidKey captured told asked tree old new = RefusesTree asked InvalidKey tree (told old) (told new)
IsCauseOf answer.InvalidNumber captured told asked tree old new = RefusesTree asked InvalidNumber tree (told old) (told new)
IsCauseOf answer.Write captured told asked tree old new = FailsFull (tree_due asked tree) (told old) (told new)
IsCauseOf answer.NoMemory captured told asked tree old new = IsWantOfTree captured told old new
IsCauseOf _ captured told asked tree old new = ⊥

-- a first part of what is due of the tree was taken
pub record StopsTree {K : Type 0} (why : RelayError) (captured : Bool) (told : K → Told) (asked : TreeFormat) (tree : Tree) (old new : K) : Type 0 where
  pub cause : IsCauseOf why captured told asked tree old new
  pub begins : AppendsFront (told old) (tree_due asked tree) (told new)
  pub counts : NoCountFell (told old) (told new)

-- the tree's text was written, or a first part of what is due of it
abbrev pub WritesTreeText : {K : Type 0} → Result (Unit {0}) RelayError → (captured : Bool) → (K → Told) → TreeFormat → Tree → K → K → Type 0
WritesTreeText (Ok done) captured told asked tree old new = WritesTextOf asked tree (told old) (told new)
WritesTreeText (Err why) captured told asked tree old new = StopsTree why captured told asked tree old new

-- the same in a way
abbrev pub WritesTreeBy : {K : Type 0} → Way → Result (Unit {0}) RelayError → (K → Told) → Tree → K → K → Type 0
WritesTreeBy way result told tree old new = WritesTreeText result (is_captured way) told (asked_in way) tree old new

-- the calls spell a printable tree, which was written in a way, or a first part of what is due of it
pub record WritesSpelled {K : Type 0} (way : Way) (written : Result (Unit {0}) RelayError) (told : K → Told) (calls : List Call) (old new : K) : Type 0 where
  pub tree : Tree
  pub spells : Spells calls tree
  pub printable : IsPrintable tree
  pub writes : WritesTreeBy way written told tree old new

-- ---- trees one after another

-- exactly the trees' texts were taken, each with its ending, and they are what is meant
pub record WritesTexts (asked : TreeFormat) (end : List ℕ) (trees : List Tree) (old new : Told) : Type 0 where
  pub text : List ℕ
  pub is : texts asked end trees ≡ Ok text
  pub meant : AreMeant asked end trees text
  pub appends : Appends old text new
  pub steady : IsSteady old new

-- some tree has no text for this cause, exactly what is written up to there was taken, and no count moved
pub record RefusesSome (asked : TreeFormat) (end : List ℕ) (why : Refusal) (trees : List Tree) (old new : Told) : Type 0 where
  pub is : texts asked end trees ≡ Err why
  pub appends : Appends old (left asked end trees) new
  pub steady : IsSteady old new

-- why writing stopped; `Want` is what a want of memory says
abbrev pub IsCauseAmong : {K : Type 0} → RelayError → (Want : K → K → Type 0) → (K → Told) → TreeFormat → List ℕ → List Tree → K → K → Type 0
IsCauseAmong answer.InvalidKey Want told asked end trees old new = RefusesSome asked end InvalidKey trees (told old) (told new)
IsCauseAmong answer.InvalidNumber Want told asked end trees old new = RefusesSome asked end InvalidNumber trees (told old) (told new)
IsCauseAmong answer.Write Want told asked end trees old new = FailsFull (left asked end trees) (told old) (told new)
IsCauseAmong answer.NoMemory Want told asked end trees old new = Want old new
IsCauseAmong _ Want told asked end trees old new = ⊥

-- a first part of what is due of the trees was taken
pub record StopsAmong {K : Type 0} (why : RelayError) (Want : K → K → Type 0) (told : K → Told) (asked : TreeFormat) (end : List ℕ) (trees : List Tree) (old new : K) : Type 0 where
  pub cause : IsCauseAmong why Want told asked end trees old new
  pub begins : AppendsFront (told old) (left asked end trees) (told new)
  pub counts : NoCountFell (told old) (told new)

-- the trees' texts were written, or a first part of what is due of them
abbrev pub WritesTrees : {K : Type 0} → Result (Unit {0}) RelayError → (Want : K → K → Type 0) → (K → Told) → TreeFormat → List ℕ → List Tree → K → K → Type 0
WritesTrees (Ok done) Want told asked end trees old new = WritesTexts asked end trees (told old) (told new)
WritesTrees (Err why) Want told asked end trees old new = StopsAmong why Want told asked end trees old new

-- the same of many values in a way
abbrev pub WritesListIn : {K : Type 0} → Way → Result (Unit {0}) RelayError → (K → Told) → List Tree → K → K → Type 0
WritesListIn way result told trees old new =
    WritesTrees result (IsWantAmong (is_captured way) told) told (asked_in way) (ending (asked_in way) true) trees old new

-- the calls spell printable trees, which end there
pub record AreTrees (calls : List Call) (ends : List ℕ) (trees : List Tree) : Type 0 where
  pub spell : SpellsAll calls trees
  pub printable : AllByRecursion IsPrintable trees
  pub end_there : AreEnds calls trees ends

-- the calls are those of a script, of as many bytes as memory can hold
pub record IsOfScript (calls : List Call) : Type 0 where
  pub script : List ℕ
  pub small : length script < 2 ^ 64
  pub read : lines script ≡ Good calls
