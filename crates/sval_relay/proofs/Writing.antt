-- What writing leaves of a sink, step by step.
use Rattle.std.specs.Prelude.{◌≡◌, Bool, true, false, List, Result, Ok, Err, refl}
use Rattle.std.proofs.Common.{◌∙◌, ap, sym, subst, inl}
use Rattle.sval_label.specs.Calls.{Call}
use Rattle.sval_core.specs.Spells.{Spells}
use Rattle.sval_core.specs.Trees.{Tree, IsGood, calls_of}
use Rattle.sval_core.proofs.Spellings.{calls_of-spells}
use Rattle.sval_io.specs.Sinks.{Told, IsSteady, LacksRoom, Appends, AppendsFront}
use Rattle.sval_io.proofs.Appending.{steady_alone}
use Rattle.sval_json.specs.declared.style.Variants.{Variants}
use Rattle.sval_json.specs.Json.{Json, compact}
use Rattle.sval_json.specs.Number.{Refusal}
use Rattle.sval_json.specs.Shape.{json_in, map_ok}
use Rattle.sval_json.specs.Actions.{Outcome}
use Rattle.sval_json.specs.Steps.{written_in}
use Rattle.sval_json.specs.Laws.{IsWrittenAs}
use Rattle.sval_json.specs.Written.{IsBegunIn, IsRefusedIn, IsTooLongFor, RefusesSpelledTree, WritesSpelledTree, WritesSpelledValue}
use Rattle.sval_json.proofs.WrittenOnce.{written_once}
use Rattle.sval_json.proofs.WritingPlain.{spelling_written}
use Rattle.sval_relay.specs.declared.way.Task.{Task}
use Rattle.sval_relay.specs.Ways.{is_captured}
use Rattle.sval_relay.specs.Verdict.{RelayVerdict, BadLine, BadCall, Unfinished, Key, Number, Text, JsonIn, tree_written, due_of, tree_due}
use Rattle.sval_program.proofs.Growing.{front_of_nothing}
use Rattle.sval_relay.specs.Relays.{VerdictMayLeave, IsWantFor, IsWantIn}
use Rattle.sval_relay.specs.WrittenTrees.{WritesTextOf, RefusesTree}

-- ---- what may be left

pub may_stay : (told : Told) (answer : RelayVerdict) → VerdictMayLeave told told answer
may_stay told (BadLine n) = refl
may_stay told (BadCall n) = refl
may_stay told Unfinished = refl
may_stay told (Key written) = front_of_nothing told written
may_stay told (Number written) = front_of_nothing told written
may_stay told (Text text) = front_of_nothing told text

-- ---- want of memory

-- nothing was written
pub want_before : {K : Type 0} (task : Task) (told : K → Told) (out : K) → IsWantIn task told out out
want_before {K} task told out = go (is_captured task.way) task.many
  where
    go : (captured many : Bool) → IsWantFor captured many told out out
    go true true = inl (steady_alone (told out))
    go true false = inl refl
    go false many = inl refl

-- ---- what is written of a tree

-- its text, where it has a JSON
pub written_of_json : (style : Variants) (tree : Tree) (json : Json) → IsGood tree → json_in style tree ≡ Ok json → tree_written (JsonIn style) tree ≡ compact json
written_of_json style tree json good shape =
    let w = subst (λ found. IsWrittenAs found (written_in style (calls_of tree))) shape (spelling_written style (calls_of tree) tree (calls_of-spells tree good)) in w.0

-- for any calls that spell it the steps write the same
pub written_of_calls : (style : Variants) (calls : List Call) (tree : Tree) → Spells calls tree → (written_in style calls).written ≡ tree_written (JsonIn style) tree
written_of_calls style calls tree s = ap (λ (o : Outcome). o.written) (written_once style calls (calls_of tree) tree s (calls_of-spells tree s.0))

-- what is due of a tree is what the steps write of it
due_is_written : (style : Variants) (tree : Tree) → IsGood tree → tree_due (JsonIn style) tree ≡ tree_written (JsonIn style) tree
due_is_written style tree good = by_shape (json_in style tree) refl
  where
    by_shape : (found : Result Json Refusal) → json_in style tree ≡ found → due_of (map_ok compact found) (tree_written (JsonIn style) tree) ≡ tree_written (JsonIn style) tree
    by_shape (Ok json) shape = sym (written_of_json style tree json good shape)
    by_shape (Err why) shape = refl

pub begins_tree : {old new : Told} (style : Variants) (calls : List Call) (tree : Tree) → Spells calls tree → IsBegunIn style calls old new → AppendsFront old (tree_due (JsonIn style) tree) new
begins_tree {old} {new} style calls tree s front = subst (λ bytes. AppendsFront old bytes new) (written_of_calls style calls tree s ∙ sym (due_is_written style tree s.0)) front

pub lacks_tree : (old : Told) (style : Variants) (calls : List Call) (tree : Tree) → Spells calls tree → IsTooLongFor style calls old → LacksRoom old (tree_due (JsonIn style) tree)
lacks_tree old style calls tree s lacks = subst (LacksRoom old) (written_of_calls style calls tree s ∙ sym (due_is_written style tree s.0)) lacks

pub refuses_tree : {old new : Told} (style : Variants) (why : Refusal) (calls : List Call) (tree : Tree) → Spells calls tree → IsRefusedIn style why calls old new → RefusesSpelledTree style why calls
    → RefusesTree (JsonIn style) why tree old new
refuses_tree {old} {new} style why calls tree s r refused = record {
  is = ap (map_ok compact) (refused tree s);
  appends = subst (λ bytes. Appends old bytes new) (written_of_calls style calls tree s) r.appends;
  steady = r.steady;
}

pub writes_tree : {old new : Told} (style : Variants) (calls : List Call) (tree : Tree) → Spells calls tree → WritesSpelledTree style calls old new → WritesSpelledValue style calls old new
    → IsSteady old new → WritesTextOf (JsonIn style) tree old new
writes_tree style calls tree s spelled value steady =
    let w = spelled tree s in
    record {
      text = compact w.json;
      is = ap (map_ok compact) w.shape;
      meant = λ promises.
          let v = value tree s promises in
          let same : Ok w.json ≡ Ok v.json = sym w.shape ∙ v.shape in
          let json : w.json ≡ v.json = cc same in
          record { json = v.json; shape = v.shape; is_text = ap compact json; value = v.value; is = v.is };
      appends = w.appends;
      steady = steady;
    }
