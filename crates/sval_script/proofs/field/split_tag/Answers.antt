use Rattle.std.proofs.Common.{◌+◌, ◌-◌, length, take, drop, sym, ap, ◌∙◌}
use Rattle.sval_script.specs.Lines.{tag_named}
use Rattle.sval_script.specs.Tags.{tag_of}
use Rattle.sval_script.specs.FieldValues.{parts_of}
use Rattle.sval_script.proofs.FieldCuts.{one_part, first_part}
use Rattle.sval_script.proofs.FieldParts.{parts_behind, none_behind, some_behind}
use Rattle.sval_script.proofs.field.split_tag.Goals as goal

pub returns-in-None : goal.returns-in-None
returns-in-None c = sym (ap parts_of (one_part 58 c.args.field.now c.in-None.ensures))

pub returns-in_err-read-in-Some : goal.returns-in_err-read-in-Some
returns-in_err-read-in-Some c =
    let field = c.args.field.now in
    let part = take c.in-Some.end field in
    let rest = take (length field - (c.in-Some.end + 1)) (drop (c.in-Some.end + 1) field) in
    rw c.from_residual.ensures (none_behind part (tag_named rest) c.in_err-read-in-Some.ensures.tag ∙ sym (ap parts_of (first_part 58 field c.in-Some.end c.in-Some.ensures) ∙ parts_behind part rest))

pub returns-in_ok-read-in-Some : goal.returns-in_ok-read-in-Some
returns-in_ok-read-in-Some c =
    let field = c.args.field.now in
    let part = take c.in-Some.end field in
    let rest = take (length field - (c.in-Some.end + 1)) (drop (c.in-Some.end + 1) field) in
    some_behind part (tag_of c.in_ok-read-in-Some.field-0) (tag_named rest) c.in_ok-read-in-Some.ensures.tag
    ∙ sym (ap parts_of (first_part 58 field c.in-Some.end c.in-Some.ensures) ∙ parts_behind part rest)
