use Rattle.std.proofs.Common.{refl}
use Rattle.sval_cbor_read.proofs.Stops.{none_passed, one_passed, no_chunk_stops, end_stops}
use Rattle.sval_cbor_read.proofs.stop.chunks_stop.Goals as goal

pub loop-at-init : goal.loop-at-init
loop-at-init c = none_passed c.args.bytes.now c.args.from c.requires

pub loop-at-preserved : goal.loop-at-preserved
loop-at-preserved c = one_passed c.loop-at.invariant c.in-Some.piece.content.now c.in-Some.piece.next c.in-Some.ensures.found

pub returns-in-None : goal.returns-in-None
returns-in-None c = no_chunk_stops c.loop-at.invariant (c.in-None.ensures.nothing refl)

pub returns : goal.returns
returns c = end_stops c.loop-at.invariant c.loop-at-test.false
