-- The streams of the readers: each takes the calls that it may go on after, and no others.
use Rattle.std.specs.Prelude.{◌≡◌, Bool, true, false, not, ◌||◌, List, is_none, Option, Some, None}
use Rattle.std.specs.Option.{option_or}
use Rattle.sval_label.specs.Calls.{Tag, Call}
use Rattle.sval_core.specs.Law.{Law, Standing}
use Rattle.sval_lower.specs.Readers.{last_of, only_of, says_no_tag, call_tag}

-- a reader that holds this, and never counts a fault
abbrev pub holding : {T : Type 0} → Option T → Standing (Option T)
holding held = record { view = held; faults = 0; wants = 0 }

-- the one item of those that are read, or the last
abbrev pub item_of : {T : Type 0} → Bool → List T → Option T
item_of true items = only_of items
item_of false items = last_of items

-- an item is read only where none is held already, or more than one may be read; another call only where it is passed over
abbrev pub may_go_on : {T : Type 0} → Bool → Option T → Option T → Bool → Bool
may_go_on once held (Some item) over = not once || is_none held
may_go_on once held None over = over

-- it holds the last item that it read, and where only one may be read takes no second one
abbrev pub item_law : {T : Type 0} → Bool → (Call → Option T) → (Call → Bool) → Law (Option T)
item_law once read over = record {
  accepts = λ held call. may_go_on once held (read call) (over call) ≡ true;
  after = λ held call. option_or (read call) held;
  stopped = λ held call left. left ≡ held;
}

-- it takes no call at which the tag is known, and holds the tag that such a call gives
abbrev pub tag_law : Law (Option Tag)
tag_law = record {
  accepts = λ held call. says_no_tag call ≡ true;
  after = λ held call. held;
  stopped = λ held call left. left ≡ call_tag call;
}
