-- Calls that are one whole value are no others.
use Rattle.std.specs.Prelude.{◌≡◌, Ok, Err}
use Rattle.std.proofs.Common.{inl, inr}
use Rattle.sval_core.specs.Law.{Emission}
use Rattle.sval_check.specs.Checks.{IsOneValue}
use Rattle.sval_check.specs.declared.error.CheckError.TheVariants as check
use Rattle.sval_check.proofs.OneAnswer.{one_due}
use Rattle.sval_cbor.specs.Streamed.{IsNoTree}

-- a whole value is no other answer of the check
pub no_tree_never : (e : Emission) → IsOneValue e → IsNoTree e → ⊥
no_tree_never e one (inl (at, bad)) = let never : Ok tt ≡ Err (check.BadCall at) = one_due e (Ok tt) (Err (check.BadCall at)) one bad in cc never
no_tree_never e one (inr unfinished) = unfinished.no_tree one.spells.0 one.spells.1
