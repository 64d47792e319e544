use Rattle.std.proofs.Common.{subst}
use Rattle.sval_cbor_read.specs.SeenFound.{AreFound}
use Rattle.sval_cbor_read.proofs.ItemCalls.{mark_calls}
use Rattle.sval_cbor_read.proofs.found.item_found.Goals as goal

pub returns-in-Some : goal.returns-in-Some
returns-in-Some c = subst (λ made. AreFound made c.in-Some.found) (mark_calls c.args.bytes.now c.args.at c.requires.within c.in-Some.ensures.mark) c.in-Some.ensures.found
