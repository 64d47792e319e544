use Rattle.sval_cbor_read.proofs.WellFormedFronts.{one_chunk_passes, chunks_end_here, no_chunk_passes, chunks_lack}
use Rattle.sval_cbor_read.proofs.well_formed.chunks_end.Goals as goal

pub loop-at-preserved : goal.loop-at-preserved
loop-at-preserved c = one_chunk_passes c.loop-at.invariant c.in-Some.next c.in-Some.ensures

pub returns-then-bytes-at : goal.returns-then-bytes-at
returns-then-bytes-at c = chunks_end_here c.loop-at.invariant c.loop-at-test.true c.if-bytes-at.true

pub returns-in-None : goal.returns-in-None
returns-in-None c = no_chunk_passes c.loop-at.invariant c.loop-at-test.true c.if-bytes-at.false c.in-None.ensures

pub returns : goal.returns
returns c = chunks_lack c.loop-at.invariant c.loop-at-test.false
