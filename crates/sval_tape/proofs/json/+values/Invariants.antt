use Rattle.std.proofs.Common.{ℕ, ◌+◌, ◌*◌, ◌==◌, List}
use Rattle.sval_tape.specs.JsonAtFront.{FieldsAt, ItemsAt}
use Rattle.sval_tape.proofs.json.+values.Given as goal

abbrev pub decreases-value : goal.decreases-value
decreases-value l = 5 * l.depth + 4

abbrev pub decreases-tagged : goal.decreases-tagged
decreases-tagged l = 5 * l.depth + 3

abbrev pub decreases-container : goal.decreases-container
decreases-container l = 5 * l.depth + 3

abbrev pub decreases-fields : goal.decreases-fields
decreases-fields l = 5 * l.depth + 2

abbrev pub decreases-field : goal.decreases-field
decreases-field l = 5 * l.depth + 1

abbrev pub decreases-sequence : goal.decreases-sequence
decreases-sequence l = 5 * l.depth + 3

abbrev pub decreases-items : goal.decreases-items
decreases-items l = 5 * l.depth + 2

abbrev pub decreases-item : goal.decreases-item
decreases-item l = 5 * l.depth + 1

-- with the items that are left all items are read
abbrev pub invariant-items-loop-count : goal.invariant-items-loop-count
invariant-items-loop-count l =
    (rest new : List ℕ) (count : ℕ) → ItemsAt (l.count == 0) l.rest rest l.out.bytes new count → ItemsAt (l.initial.count == 0) l.bytes rest l.initial.out.bytes new (l.count + count)

-- with the fields that are left all fields are read
abbrev pub invariant-fields-loop-count : goal.invariant-fields-loop-count
invariant-fields-loop-count l =
    (rest new : List ℕ) (count : ℕ) → FieldsAt l.kind (l.count == 0) l.rest rest l.out.bytes new count → FieldsAt l.kind (l.initial.count == 0) l.bytes rest l.initial.out.bytes new (l.count + count)
