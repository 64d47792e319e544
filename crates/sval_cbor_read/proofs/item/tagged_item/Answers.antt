use Rattle.std.proofs.Common.{arith}
use Rattle.sval_cbor_read.proofs.BegunItems.{tag_begins}
use Rattle.sval_cbor_read.proofs.item.tagged_item.Goals as goal

pub returns-in_default-clause-found : goal.returns-in_default-clause-found
returns-in_default-clause-found c = tag_begins c.args.bytes.now c.args.head c.requires.is (omega arith) (omega arith) c.requires.within
