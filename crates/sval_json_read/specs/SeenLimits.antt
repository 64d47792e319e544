-- What the reader counts where its limits are tested.
use Rattle.std.specs.Prelude.{◌≡◌, ℕ, ◌+◌, ◌<◌, ◌≤◌, Bool, true, false, ◌||◌, ◌==◌, if◌then◌else◌, is_some}
use Rattle.sval_io.specs.declared.limits.Limits.{Limits}
use Rattle.sval_json_read.specs.declared.document.limited.LimitedError.{LimitedError}
use Rattle.sval_json_read.specs.declared.document.limited.LimitedError.TheVariants.{Read, TooDeep, TooMany}
use Rattle.sval_json_read.specs.Numbers.{first_phase}
use Rattle.sval_json_read.specs.Outlines.{opens_level}
use Rattle.sval_json_read.specs.Reader.{Expected, AValue, FirstItem, FirstKey, NextKey}

-- a value begins with this byte
abbrev pub begins_value : ℕ → Bool
begins_value byte = (byte == 34) || (byte == 91) || (byte == 123) || (byte == 110) || (byte == 116) || (byte == 102) || is_some (first_phase byte)

-- a value or a name begins with this byte, where this comes next
abbrev pub begins_node : Expected → ℕ → Bool
begins_node AValue byte = begins_value byte
begins_node FirstItem byte = begins_value byte
begins_node FirstKey byte = byte == 34
begins_node NextKey byte = byte == 34
begins_node _ byte = false

-- how many values and names have begun behind this byte
abbrev pub nodes_behind : Expected → ℕ → ℕ → ℕ
nodes_behind expected byte begun = if begins_node expected byte then begun + 1 else begun

-- what begins with the byte passes no limit
pub record StaysWithin (expected : Expected) (levels : ℕ) (byte begun : ℕ) (limits : Limits) (count : ℕ) : Type 0 where
  pub count_is : count ≡ nodes_behind expected byte begun
  pub not_many : begins_node expected byte ≡ true → begun < limits.nodes
  pub not_deep : begins_node expected byte ≡ true → opens_level byte ≡ true → levels < limits.depth

-- what begins with the byte at this place passes a limit
abbrev pub PassesLimit : Expected → ℕ → ℕ → ℕ → Limits → ℕ → LimitedError → Type 0
PassesLimit expected levels byte begun limits at (Read error) = ⊥
PassesLimit expected levels byte begun limits at (TooDeep n) = (n ≡ at) × (begins_node expected byte ≡ true) × (opens_level byte ≡ true) × (limits.depth ≤ levels)
PassesLimit expected levels byte begun limits at (TooMany n) =
    (n ≡ at) × (begins_node expected byte ≡ true) × (limits.nodes ≤ begun) × (opens_level byte ≡ true → levels < limits.depth)
