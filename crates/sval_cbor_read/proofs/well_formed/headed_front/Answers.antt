use Rattle.std.proofs.Common.{arith}
use Rattle.sval_cbor_read.proofs.WellFormedFronts.{unsigned_is_front, negative_is_front, array_is_front, map_is_front, tag_is_front, no_major_is_front}
use Rattle.sval_cbor_read.proofs.well_formed.headed_front.Goals as goal

pub returns-in-0 : goal.returns-in-0
returns-in-0 c = unsigned_is_front c.args.bytes.now c.args.at c.args.head c.requires.is c.in-0.is

pub returns-in-1 : goal.returns-in-1
returns-in-1 c = negative_is_front c.args.bytes.now c.args.at c.args.head c.requires.is c.in-1.is

pub returns-in-4 : goal.returns-in-4
returns-in-4 c = array_is_front c.args.bytes.now c.args.at c.args.head c.requires.is c.in-4.is

pub returns-in-5 : goal.returns-in-5
returns-in-5 c = map_is_front c.args.bytes.now c.args.at c.args.head c.requires.is c.in-5.is

pub returns-in-6 : goal.returns-in-6
returns-in-6 c = tag_is_front c.args.bytes.now c.args.at c.args.head c.requires.is c.in-6.is

pub returns-in_default : goal.returns-in_default
returns-in_default c = no_major_is_front c.args.bytes.now c.args.at c.args.head c.requires.is (omega arith)
