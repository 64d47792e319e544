use Rattle.std.proofs.Common.{refl}
use Rattle.sval_cbor_read.proofs.Stops.{item_stops_at_none, item_stops_at_head}
use Rattle.sval_cbor_read.proofs.stop.item_stop.Goals as goal

pub returns-in-None : goal.returns-in-None
returns-in-None c = item_stops_at_none c.args.bytes.now c.args.at c.requires.within (c.in-None.ensures.nothing refl) c.requires.nothing

pub returns-else-head-eq6 : goal.returns-else-head-eq6
returns-else-head-eq6 c = item_stops_at_head c.args.bytes.now c.args.at c.in-Some.head c.requires.within c.in-Some.ensures.found c.if-head-eq6.false c.requires.nothing
