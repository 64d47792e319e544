-- The tree of a value of JSON, and the value that its text denotes.
use Rattle.std.specs.Prelude.{ℕ, ℤ, pos, neg_ℤ, Bool, ◌&&◌, if◌then◌else◌, List, codes}
use Rattle.std.specs.Str.{bytes_eq}
use Rattle.std.specs.Str.Parse.{digits_value}
use Rattle.sval_label.specs.Calls.{Name, Slot, Head, I64}
use Rattle.sval_label.specs.Ranges.{is_of_type}
use Rattle.sval_label.specs.Texts.{is_empty}
use Rattle.sval_core.specs.Names.{number_tag, tag_alone}
use Rattle.sval_core.specs.Trees.{Tree, Null, Truth, Int, Text, Tagged, Container, Parts, none, part}
use Rattle.sval_json.specs.Digits.{digits_of, after_digits, without_minus}
use Rattle.sval_json.specs.Number.{is_negative}
use Rattle.sval_json.specs.Grammar as json
use Rattle.sval_json.specs.Grammar.{JsonValue, Values, no_values, a_value, Members, no_members, a_member}

-- a number without fraction and exponent
abbrev pub has_no_fraction : List ℕ → Bool
has_no_fraction text = is_empty (after_digits (without_minus text))

-- the value of a number without fraction and exponent
abbrev pub whole_value : List ℕ → ℤ
whole_value text = let n = digits_value 10 (digits_of (without_minus text)) in if is_negative text then neg_ℤ (pos n) else pos n

-- a number without fraction and exponent, in the range of `i64`
abbrev pub fits_i64 : List ℕ → Bool
fits_i64 text = has_no_fraction text && is_of_type I64 (whole_value text)

-- what a number's text stands under where it is no `i64`
abbrev pub number_name : Name
number_name = tag_alone number_tag

-- a number: an `i64` where it has no fraction and no exponent and fits, and else its text under the tag `NUMBER`
abbrev pub number_tree : List ℕ → Tree
number_tree text = if fits_i64 text then Int I64 (whole_value text) else Tagged number_name (Text text)

abbrev mutual
  -- the tree of a value: an array is a sequence, and an object a map
  pub tree_of : JsonValue → Tree
  tree_of json.Null = Null
  tree_of (json.Truth b) = Truth b
  tree_of (json.Number text) = number_tree text
  tree_of (json.Text text) = Text text
  tree_of (json.Array values) = Container Head.Seq (items_of values)
  tree_of (json.Object members) = Container Head.Map (entries_of members)

  -- the items of an array, in order
  pub items_of : Values → Parts
  items_of no_values = none
  items_of (a_value value values) = part Slot.Item (tree_of value) (items_of values)

  -- the pairs of an object, in order, each a key, which is a text, and its value
  pub entries_of : Members → Parts
  entries_of no_members = none
  entries_of (a_member text value members) = part Slot.Key (Text text) (part Slot.Value (tree_of value) (entries_of members))

-- a number `-0` is written as `0`
abbrev pub settled_number : List ℕ → List ℕ
settled_number text = if bytes_eq text (codes "-0") then codes "0" else text

abbrev mutual
  -- the value with each number `-0` replaced by `0`
  pub settled : JsonValue → JsonValue
  settled json.Null = json.Null
  settled (json.Truth b) = json.Truth b
  settled (json.Number text) = json.Number (settled_number text)
  settled (json.Text text) = json.Text text
  settled (json.Array values) = json.Array (settled_values values)
  settled (json.Object members) = json.Object (settled_members members)

  -- an array's values with each number `-0` replaced by `0`
  pub settled_values : Values → Values
  settled_values no_values = no_values
  settled_values (a_value value values) = a_value (settled value) (settled_values values)

  -- an object's pairs with each number `-0` in their values replaced by `0`
  pub settled_members : Members → Members
  settled_members no_members = no_members
  settled_members (a_member text value members) = a_member text (settled value) (settled_members members)
