-- What the code counts where its limits are tested.
use Rattle.std.specs.Prelude.{◌≡◌, ℕ, ◌+◌, ◌<◌, ◌≤◌, Bool, true, false, if◌then◌else◌}
use Rattle.sval_io.specs.declared.limits.Limits.{Limits}
use Rattle.sval_cbor_read.specs.declared.document.limited.CborLimitedError.{CborLimitedError}
use Rattle.sval_cbor_read.specs.declared.document.limited.CborLimitedError.TheVariants.{Read, TooDeep, TooMany}

-- what a step has begun passes no limit, where so many levels are open behind it, and so many nodes had begun before
pub record CountsBegun (has_begun : Bool) (levels begun : ℕ) (limits : Limits) (count : ℕ) : Type 0 where
  pub count_is : count ≡ (if has_begun then begun + 1 else begun)
  pub not_deep : levels ≤ limits.depth
  pub not_many : has_begun ≡ true → begun < limits.nodes

-- it passes a limit, and it begins at this place
abbrev pub CborPasses : Bool → ℕ → ℕ → Limits → ℕ → CborLimitedError → Type 0
CborPasses has_begun levels begun limits at (Read error) = ⊥
CborPasses has_begun levels begun limits at (TooDeep n) = (n ≡ at) × (limits.depth < levels)
CborPasses has_begun levels begun limits at (TooMany n) = (n ≡ at) × (levels ≤ limits.depth) × (has_begun ≡ true) × (limits.nodes ≤ begun)
