use Rattle.sval_cbor_read.proofs.WellFormedSteps.{item_is_next, key_is_next, items_end_next, pairs_end_next, no_item_next, no_pair_next}
use Rattle.sval_cbor_read.proofs.well_formed.next_in.Goals as goal

pub returns-in-Another : goal.returns-in-Another
returns-in-Another c = rw c.in-Items.is (item_is_next c.in-Items.left c.args.bytes.now c.args.at c.in-Another.left c.in-Another.ensures)

pub returns-in-End : goal.returns-in-End
returns-in-End c = rw c.in-Items.is (items_end_next c.in-Items.left c.args.bytes.now c.args.at c.in-End.next c.in-End.ensures)

pub returns-in-Nothing : goal.returns-in-Nothing
returns-in-Nothing c = rw c.in-Items.is (no_item_next c.in-Items.left c.args.bytes.now c.args.at c.in-Nothing.ensures)

pub returns-in-Another-next_part : goal.returns-in-Another-next_part
returns-in-Another-next_part c = rw c.in-Keys.is (key_is_next c.in-Keys.left c.args.bytes.now c.args.at c.in-Another-next_part.left c.in-Another-next_part.ensures)

pub returns-in-End-next_part : goal.returns-in-End-next_part
returns-in-End-next_part c = rw c.in-Keys.is (pairs_end_next c.in-Keys.left c.args.bytes.now c.args.at c.in-End-next_part.next c.in-End-next_part.ensures)

pub returns-in-Nothing-next_part : goal.returns-in-Nothing-next_part
returns-in-Nothing-next_part c = rw c.in-Keys.is (no_pair_next c.in-Keys.left c.args.bytes.now c.args.at c.in-Nothing-next_part.ensures)
