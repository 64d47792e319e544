use Rattle.std.proofs.Common.{sym, ◌∙◌}
use Rattle.sval_cbor.proofs.NormalForms.{unskipped}
use Rattle.sval_cbor.proofs.number.without_zeros.Goals as goal

pub returns : goal.returns
returns c = sym (unskipped c.loop-rest.rest.now (sym c.has_leading_zero.ensures ∙ c.loop-rest-test.false)) ∙ c.loop-rest.invariant
