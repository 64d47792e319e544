use Rattle.std.proofs.Common.{refl, arith}
use Rattle.sval_cbor_read.proofs.Stops.{item_stops_behind, item_stops_at_tag}
use Rattle.sval_cbor_read.proofs.stop.tag_stop.Goals as goal

pub returns-in-2 : goal.returns-in-2
returns-in-2 c = item_stops_behind c.args.bytes.now c.args.at c.number_stop.result 2 c.args.head c.requires.is c.requires.major c.in-2.is (λ after frames. refl) c.requires.nothing c.number_stop.ensures

pub returns-in-3 : goal.returns-in-3
returns-in-3 c = item_stops_behind c.args.bytes.now c.args.at c.number_stop-in-3.result 3 c.args.head c.requires.is c.requires.major c.in-3.is (λ after frames. refl) c.requires.nothing c.number_stop-in-3.ensures

pub returns-in_default : goal.returns-in_default
returns-in_default c = item_stops_at_tag c.args.bytes.now c.args.at c.args.head c.requires.within c.requires.is (omega arith) (omega arith) c.requires.nothing
