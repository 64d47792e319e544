-- Where a value never refuses and tells its sizes, its calls spell its tree.
use Rattle.std.specs.Prelude.{◌≡◌, ℕ, ℤ, Bool, List, [], ◌∷◌, ◌++◌, length, flat_map, Some, refl}
use Rattle.std.proofs.Common.{subst, append-nil}
use Rattle.sval_label.specs.Calls.{Call, Head, Slot, IntType}
use Rattle.sval_core.specs.Trees as tree
use Rattle.sval_core.specs.Trees.{Tree, Parts, part, plain_head, plain_slot, first_kind, AreInOrder}
use Rattle.sval_core.specs.Spells.{entries}
use Rattle.sval_core.specs.Law.{emits, then_emits}
use Rattle.sval_core.specs.Values.{makes}
use Rattle.sval_core.specs.ValueCalls.{text_calls, binary_calls, part_calls, container_calls, item_calls, seq_calls}
use Rattle.sval_core.specs.ValueTrees.{Tells, TellsParts, item_parts, seq_tree}
use Rattle.sval_core.proofs.ToldTrees.{part_tells, container_tells, items_in_order, items_count}

-- ---- values of one call, texts and binaries

pub null_call_tells : Tells (makes (Call.Null ∷ [])) tree.Null
null_call_tells = record { willing = refl; spells = (tt, refl) }

pub truth_call_tells : (b : Bool) → Tells (makes (Call.Truth b ∷ [])) (tree.Truth b)
truth_call_tells b = record { willing = refl; spells = (tt, refl) }

pub int_call_tells : (type : IntType) (n : ℤ) → Tells (makes (Call.Int type n ∷ [])) (tree.Int type n)
int_call_tells type n = record { willing = refl; spells = (tt, refl) }

pub text_calls_tell : (borrowed : Bool) (text : List ℕ) → Tells (makes (text_calls borrowed text)) (tree.Text text)
text_calls_tell borrowed text = record { willing = refl; spells = (tt, (Some (length text), text ∷ [], refl, append-nil text, refl)) }

pub binary_calls_tell : (bytes : List ℕ) → Tells (makes (binary_calls bytes)) (tree.Binary bytes)
binary_calls_tell bytes = record { willing = refl; spells = (tt, (Some (length bytes), bytes ∷ [], refl, append-nil bytes, refl)) }

-- ---- containers

-- no part, and a part before others
pub no_calls_tell : TellsParts (makes []) tree.none
no_calls_tell = record { willing = refl; good = tt; say = λ rest. refl }

pub part_calls_tell : (slot : Slot) {calls more : List Call} {t : Tree} {parts : Parts} → Tells (makes calls) t → TellsParts (makes more) parts
    → TellsParts (makes (part_calls slot calls ++ more)) (part (plain_slot slot) t parts)
unfolding then_emits emits
part_calls_tell slot {calls = calls} {more = more} {t = t} {parts = parts} tells others = part_tells slot (makes calls) (makes more) t parts tells others

-- the last part
pub last_part_tells : (slot : Slot) {calls : List Call} {t : Tree} → Tells (makes calls) t → TellsParts (makes (part_calls slot calls)) (part (plain_slot slot) t tree.none)
last_part_tells slot {calls = calls} {t = t} tells =
    subst (λ all. TellsParts (makes all) (part (plain_slot slot) t tree.none)) (append-nil (part_calls slot calls)) (part_calls_tell slot tells no_calls_tell)

-- a container whose parts stand in its order, and are as many entries as it tells
pub container_calls_tell : (head : Head) (size : ℕ) {calls : List Call} {parts : Parts} → TellsParts (makes calls) parts → AreInOrder (first_kind head) parts → entries parts ≡ size
    → Tells (makes (container_calls head size calls)) (tree.Container (plain_head head) parts)
unfolding then_emits emits
container_calls_tell head size {calls = calls} {parts = parts} tells order count = container_tells head size (makes calls) parts tells order count

-- a sequence of values that each tell a tree
module _ {T : Type 0} (calls : T → List Call) (t : T → Tree) (each : (x : T) → Tells (makes (calls x)) (t x)) where
  items_tell : (xs : List T) → TellsParts (makes (flat_map (item_calls calls) xs)) (item_parts t xs)
  items_tell [] = no_calls_tell
  items_tell (x ∷ xs) = part_calls_tell Slot.Item (each x) (items_tell xs)

  pub seq_calls_tell : (xs : List T) → Tells (makes (seq_calls calls xs)) (seq_tree t xs)
  seq_calls_tell xs = container_calls_tell Head.Seq (length xs) (items_tell xs) (items_in_order (λ x. makes (calls x)) t xs) (items_count (λ x. makes (calls x)) t xs)
