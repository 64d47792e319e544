use Rattle.sval_cbor_read.proofs.WellFormedFronts.{chunks_are_front, chunks_are_none}
use Rattle.sval_cbor_read.proofs.well_formed.chunked_front.Goals as goal

pub returns-in-None : goal.returns-in-None
returns-in-None c = chunks_are_none c.args.bytes.now c.args.at c.args.major c.requires.within c.requires.first c.in-None.ensures

pub returns-in-Some : goal.returns-in-Some
returns-in-Some c = chunks_are_front c.args.bytes.now c.args.at c.args.major c.in-Some.next c.requires.within c.requires.first c.in-Some.ensures
