use Rattle.std.proofs.Common.{sym, ap, ◌∙◌, option_map, Some}
use Rattle.sval_script.proofs.TagTable.{no_tag}
use Rattle.sval_script.proofs.tag.TagField.read.Goals as goal

pub returns-else-same-clause-named : goal.returns-else-same-clause-named
returns-else-same-clause-named c =
    sym (no_tag c.args.field.now c.row-tag.result.0.now (rw (← c.place.ensures) c.row-tag.ensures.text) (sym c.same.ensures ∙ c.if-same.false))

pub returns-else-same-clause-tag : goal.returns-else-same-clause-tag
returns-else-same-clause-tag c =
    let none = no_tag c.args.field.now c.row-tag.result.0.now (rw (← c.place.ensures) c.row-tag.ensures.text) (sym c.same.ensures ∙ c.if-same.false) in
    sym (ap (option_map Some) none)
