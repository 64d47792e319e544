-- How large a value is: how deeply its arrays and objects are nested, and how many values and names it has.
use Rattle.std.specs.Prelude.{ℕ, ◌+◌, ◌≤◌, max}
use Rattle.sval_io.specs.declared.limits.Limits.{Limits}
use Rattle.sval_json.specs.Grammar.{JsonValue, Array, Object, Values, no_values, a_value, Members, no_members, a_member}

abbrev mutual
  -- how many arrays and objects are open at once, at most
  pub depth_of : JsonValue → ℕ
  depth_of (Array values) = depth_of_values values + 1
  depth_of (Object members) = depth_of_members members + 1
  depth_of _ = 0

  -- that of the deepest value of an array
  pub depth_of_values : Values → ℕ
  depth_of_values no_values = 0
  depth_of_values (a_value value values) = max (depth_of value) (depth_of_values values)

  -- that of the deepest value of an object
  pub depth_of_members : Members → ℕ
  depth_of_members no_members = 0
  depth_of_members (a_member name value members) = max (depth_of value) (depth_of_members members)

abbrev mutual
  -- the value itself, and each value and name in it
  pub nodes_of : JsonValue → ℕ
  nodes_of (Array values) = nodes_of_values values + 1
  nodes_of (Object members) = nodes_of_members members + 1
  nodes_of _ = 1

  -- those of an array's values
  pub nodes_of_values : Values → ℕ
  nodes_of_values no_values = 0
  nodes_of_values (a_value value values) = nodes_of value + nodes_of_values values

  -- those of an object's members, with a name each
  pub nodes_of_members : Members → ℕ
  nodes_of_members no_members = 0
  nodes_of_members (a_member name value members) = nodes_of value + nodes_of_members members + 1

-- the value is nested no more deeply than allowed, and has no more values and names
pub record FitsIn (limits : Limits) (value : JsonValue) : Type 0 where
  pub depth : depth_of value ≤ limits.depth
  pub nodes : nodes_of value ≤ limits.nodes
