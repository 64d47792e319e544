use Rattle.std.proofs.Common.{refl}
use Rattle.sval_cbor_read.proofs.ReadsOn.{item_goes_on, item_stuck, item_makes}
use Rattle.sval_cbor_read.proofs.reader.Reader.item.Goals as goal

pub item_stop-self-requires-clause-nothing : goal.item_stop-self-requires-clause-nothing
item_stop-self-requires-clause-nothing c = c.in-None.ensures.nothing refl

pub returns-in-None-clause-goes : goal.returns-in-None-clause-goes
returns-in-None-clause-goes c = item_stuck c.args.bytes.now c.args.self.now c.item_stop-self.result c.requires.is (c.in-None.ensures.nothing refl) c.item_stop-self.ensures

pub returns-in-Ok-clause-goes : goal.returns-in-Ok-clause-goes
returns-in-Ok-clause-goes c = item_goes_on c.args.bytes.now c.args.self.now c.begin_item.new.self c.in-Some.begun c.requires.is c.in-Some.ensures.found c.in-Ok.ensures.keeps

pub returns-in-Err-clause-no_memory : goal.returns-in-Err-clause-no_memory
returns-in-Err-clause-no_memory c = item_makes c.args.bytes.now c.args.self.now c.in-Some.begun c.requires.is c.in-Some.ensures.found c.in-Err.ensures.no_memory
