use Rattle.std.proofs.Common.{arith, subst, sym}
use Rattle.std.specs.Prelude.{option_map}
use Rattle.sval_tape.specs.ReadCalls.{tag_read, label_read, index_read}
use Rattle.sval_tape.specs.JsonAtFront.{SlotAt}
use Rattle.sval_tape.proofs.JsonFront.{labels_at, labels_and_indexes_at}
use Rattle.sval_tape.proofs.json.slot.Goals as goal

pub returns-in_ok-_tag-in-Labels : goal.returns-in_ok-_tag-in-Labels
returns-in_ok-_tag-in-Labels c =
    let at = labels_at (option_map tag_read c.in_ok-_tag-in-Labels._tag) (label_read c.in_ok-_tag-in-Labels.label) c.args.bytes.now c.in_ok-_tag-in-Labels.rest.now (λ i. omega (arith, c.type_inv.bytes i)) c.in_ok-_tag-in-Labels.ensures in
    subst (λ k. SlotAt k c.args.bytes.now (label_read c.in_ok-_tag-in-Labels.label) c.in_ok-_tag-in-Labels.rest.now) (sym c.in-Labels.is) at

pub returns-in_ok-_tag-in-LabelsAndIndexes : goal.returns-in_ok-_tag-in-LabelsAndIndexes
returns-in_ok-_tag-in-LabelsAndIndexes c =
    let at = labels_and_indexes_at (option_map tag_read c.in_ok-_tag-in-LabelsAndIndexes._tag) (label_read c.in_ok-_tag-in-LabelsAndIndexes.label) (index_read c.in_ok-_tag-in-LabelsAndIndexes._index)
    c.args.bytes.now c.in_ok-_tag-in-LabelsAndIndexes.rest.now (λ i. omega (arith, c.type_inv.bytes i)) c.in_ok-_tag-in-LabelsAndIndexes.ensures in
    subst (λ k. SlotAt k c.args.bytes.now (label_read c.in_ok-_tag-in-LabelsAndIndexes.label) c.in_ok-_tag-in-LabelsAndIndexes.rest.now) (sym c.in-LabelsAndIndexes.is) at
