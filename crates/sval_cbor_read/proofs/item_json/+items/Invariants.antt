use Rattle.std.proofs.Common.{ℕ, ◌+◌, ◌-◌, ◌*◌, ◌==◌, ◌≤◌, true, List, drop, length}
use Rattle.sval_cbor_read.specs.Items.{AreItems, AreEntries, ItemsToBreak, EntriesToBreak}
use Rattle.sval_cbor_read.specs.ItemJson.{ItemsAt, PairsAt, text_of}
use Rattle.sval_cbor_read.proofs.item_json.+items.Given as goal

abbrev pub decreases-pair : goal.decreases-pair
decreases-pair l = 4 * l.depth + 4

abbrev pub decreases-item : goal.decreases-item
decreases-item l = 4 * l.depth + 3

abbrev pub decreases-body : goal.decreases-body
decreases-body l = 4 * l.depth + 2

abbrev pub decreases-tagged : goal.decreases-tagged
decreases-tagged l = 4 * l.depth + 1

abbrev pub decreases-array : goal.decreases-array
decreases-array l = 4 * l.depth + 1

abbrev pub decreases-map : goal.decreases-map
decreases-map l = 4 * l.depth + 1

abbrev pub decreases-array_to_break : goal.decreases-array_to_break
decreases-array_to_break l = 4 * l.depth + 1

abbrev pub decreases-map_to_break : goal.decreases-map_to_break
decreases-map_to_break l = 4 * l.depth + 1

-- with the items that are left all items are read
abbrev pub invariant-array-loop-index : goal.invariant-array-loop-index
invariant-array-loop-index l = record {
  later : l.fn.head.next ≤ l.at;
  within : l.at ≤ length l.bytes;
  few : l.index ≤ l.fn.head.number;
  all : (rest new : List ℕ) → ItemsAt (AreItems (l.fn.head.number - l.index)) (l.index == 0) (drop l.at l.bytes) rest (text_of l.out) new
      → ItemsAt (AreItems l.fn.head.number) true (drop l.fn.head.next l.bytes) rest (text_of l.initial.out) new;
}

abbrev pub invariant-array_to_break-loop-out : goal.invariant-array_to_break-loop-out
invariant-array_to_break-loop-out l = record {
  later : l.fn.from + 1 ≤ l.at;
  within : l.at ≤ length l.bytes;
  all : (rest new : List ℕ) → ItemsAt ItemsToBreak (l.at == l.fn.from + 1) (drop l.at l.bytes) rest (text_of l.out) new
      → ItemsAt ItemsToBreak true (drop (l.fn.from + 1) l.bytes) rest (text_of l.initial.out) new;
}

abbrev pub decreases-array_to_break-loop-out : goal.decreases-array_to_break-loop-out
decreases-array_to_break-loop-out l = length l.bytes - l.at

-- with the pairs that are left all pairs are read
abbrev pub invariant-map-loop-index : goal.invariant-map-loop-index
invariant-map-loop-index l = record {
  later : l.fn.head.next ≤ l.at;
  within : l.at ≤ length l.bytes;
  few : l.index ≤ l.fn.head.number;
  all : (rest new : List ℕ) → PairsAt (AreEntries (l.fn.head.number - l.index)) (l.index == 0) (drop l.at l.bytes) rest (text_of l.out) new
      → PairsAt (AreEntries l.fn.head.number) true (drop l.fn.head.next l.bytes) rest (text_of l.initial.out) new;
}

abbrev pub invariant-map_to_break-loop-out : goal.invariant-map_to_break-loop-out
invariant-map_to_break-loop-out l = record {
  later : l.fn.from + 1 ≤ l.at;
  within : l.at ≤ length l.bytes;
  all : (rest new : List ℕ) → PairsAt EntriesToBreak (l.at == l.fn.from + 1) (drop l.at l.bytes) rest (text_of l.out) new
      → PairsAt EntriesToBreak true (drop (l.fn.from + 1) l.bytes) rest (text_of l.initial.out) new;
}

abbrev pub decreases-map_to_break-loop-out : goal.decreases-map_to_break-loop-out
decreases-map_to_break-loop-out l = length l.bytes - l.at
