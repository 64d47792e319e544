use Rattle.sval_cbor_read.proofs.WellFormedFronts.{string_is_front, string_is_none}
use Rattle.sval_cbor_read.proofs.well_formed.string_front.Goals as goal

pub returns-in-None : goal.returns-in-None
returns-in-None c = string_is_none c.args.bytes.now c.args.at c.args.head c.requires.is c.requires.string c.in-None.ensures

pub returns-in-Some : goal.returns-in-Some
returns-in-Some c = string_is_front c.args.bytes.now c.args.at c.args.head c.in-Some.next c.requires.string c.in-Some.ensures
