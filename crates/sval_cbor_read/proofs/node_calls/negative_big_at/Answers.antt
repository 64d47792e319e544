use Rattle.std.proofs.Common.{arith, refl}
use Rattle.sval_cbor_read.proofs.ItemCalls.{number_again, number_small, number_there_3, number_within}
use Rattle.sval_cbor_read.proofs.node_calls.negative_big_at.Goals as goal

pub read_bignum-requires : goal.read_bignum-requires
read_bignum-requires c = omega (arith, number_within 3 c.args.bytes.now c.args.at c.requires)

pub returns-in-None-clause-value : goal.returns-in-None-clause-value
returns-in-None-clause-value c = number_there_3 c.args.bytes.now c.args.at c.requires (c.in-None.ensures.nothing refl)

pub returns-in-Some-clause-value : goal.returns-in-Some-clause-value
returns-in-Some-clause-value c = number_again c.args.bytes.now c.args.at c.in-Some.bignum c.in-Some.ensures.found

pub returns-in-Some-clause-small : goal.returns-in-Some-clause-small
returns-in-Some-clause-small c = number_small c.args.bytes.now c.args.at c.in-Some.bignum c.requires c.in-Some.ensures.found
