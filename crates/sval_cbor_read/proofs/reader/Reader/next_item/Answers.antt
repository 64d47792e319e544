use Rattle.std.proofs.Common.{◌∷◌, sym, ap, ◌∙◌, refl}
use Rattle.sval_cbor_read.specs.declared.node.Kind.TheVariants.{EndSeq}
use Rattle.sval_cbor_read.specs.Reading.{Items}
use Rattle.sval_cbor_read.specs.SeenDue.{due_in_parts}
use Rattle.sval_cbor_read.proofs.HeadsGo.{item_is_due, part_goes_on, parts_end, seq_closes}
use Rattle.sval_cbor_read.proofs.ReadsOn.{part_begins, part_ends, part_makes, part_stuck, arrays_go_on, frame_goes_on, frame_ends, frame_stuck}
use Rattle.sval_cbor_read.proofs.reader.Reader.next_item.Goals as goal

pub returns-in-Nothing-clause-goes : goal.returns-in-Nothing-clause-goes
returns-in-Nothing-clause-goes c =
    part_stuck c.args.bytes.now c.args.self.now c.requires.is (frame_stuck arrays_go_on c.args.left c.args.bytes.now c.args.self.now.at c.args.self.now.opened c.requires.top.0 c.requires.top.1 c.in-Nothing.ensures) c.requires.within

pub returns-in-Another-clause-goes : goal.returns-in-Another-clause-goes
returns-in-Another-clause-goes c =
    part_begins c.args.bytes.now c.args.self.now c.requires.is c.begin_part.new.self (Items c.args.left) (Items c.in-Another.left) c.requires.top.0 c.requires.top.1
    (frame_goes_on arrays_go_on c.args.left c.args.bytes.now c.args.self.now.at c.in-Another.left c.requires.top.0 c.in-Another.ensures)
    (item_is_due c.in-Another.left c.requires.top.0 ∙ ap (λ x. due_in_parts (Items x ∷ c.requires.top.0)) (sym (part_goes_on c.args.left c.args.bytes.now c.args.self.now.at c.in-Another.left c.in-Another.ensures))) c.requires.within c.begin_part.ensures

pub returns-in-Ok-clause-goes : goal.returns-in-Ok-clause-goes
returns-in-Ok-clause-goes c =
    let opened = c.args.self.now.opened in
    part_ends c.args.bytes.now c.args.self.now c.requires.is c.end_parts.new.self EndSeq c.in-End.next
    (frame_ends arrays_go_on c.args.left c.args.bytes.now c.args.self.now.at c.in-End.next opened c.requires.top.0 c.requires.top.1 c.in-End.ensures) refl refl tt refl
    (λ deepest nodes. seq_closes c.args.bytes.now c.args.self.now.at c.in-End.next c.args.left opened c.requires.top.0 deepest nodes c.requires.top.1
    (parts_end c.args.left c.args.bytes.now c.args.self.now.at c.in-End.next c.in-End.ensures)) c.in-End.ensures.2 c.in-Ok.ensures

pub returns-in-Err-clause-no_memory : goal.returns-in-Err-clause-no_memory
returns-in-Err-clause-no_memory c =
    let opened = c.args.self.now.opened in
    part_makes c.args.bytes.now c.args.self.now c.requires.is EndSeq c.in-End.next
    (frame_ends arrays_go_on c.args.left c.args.bytes.now c.args.self.now.at c.in-End.next opened c.requires.top.0 c.requires.top.1 c.in-End.ensures) tt
