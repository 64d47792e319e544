use Rattle.std.proofs.Common.{pos, ap, arith, refl}
use Rattle.sval_label.specs.Calls.{Int, U128}
use Rattle.sval_cbor_read.proofs.ItemCalls.{number_again, number_there_2, number_within}
use Rattle.sval_cbor_read.proofs.node_calls.big_at.Goals as goal

pub read_bignum-requires : goal.read_bignum-requires
read_bignum-requires c = omega (arith, number_within 2 c.args.bytes.now c.args.at c.requires)

pub returns-in-None : goal.returns-in-None
returns-in-None c = number_there_2 c.args.bytes.now c.args.at c.requires (c.in-None.ensures.nothing refl)

pub returns-in-Some : goal.returns-in-Some
returns-in-Some c = ap (λ n. Int U128 (pos n)) (number_again c.args.bytes.now c.args.at c.in-Some.bignum c.in-Some.ensures.found)
