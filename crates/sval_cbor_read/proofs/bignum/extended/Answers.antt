use Rattle.std.proofs.Common.{◌∙◌, sym, arith}
use Rattle.sval_cbor_read.proofs.Bignums.{number_goes, number_grows}
use Rattle.sval_cbor_read.proofs.bignum.extended.Goals as goal

pub loop-byte-preserved : goal.loop-byte-preserved
loop-byte-preserved c = sym (number_goes c.args.bytes.now c.loop-byte.byte-index c.loop-byte.whole c.loop-byte-test.true) ∙ c.loop-byte.invariant

pub returns-then-whole-clause-nothing : goal.returns-then-whole-clause-nothing
returns-then-whole-clause-nothing c = λ none.
    let grows = number_grows c.args.bytes.now c.loop-byte.byte-index c.loop-byte.whole c.loop-byte-test.true c.if-whole.true in
    omega (arith, grows, c.loop-byte.invariant)
