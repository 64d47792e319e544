use Rattle.std.proofs.Common.{rules, ◌≡◌, get_or, refl, sym, ◌∙◌}
use Rattle.sval_script.proofs.FirstFields.{in_line}
use Rattle.sval_script.proofs.DigitFields.{digits_end}
use Rattle.sval_script.proofs.fields.Fields.decode_expected.Goals as goal

pub returns : goal.returns
returns c =
    let s = c.self.inside.rest.now in
    let equals : get_or s 0 0 ≡ 61 = search rules in
    let line = sym c.self.view_is ∙ in_line c.self.inside c.if-self.false in
    rw line (digits_end s _ _ c.args.store.now.items c.decode.new.self.items c.expected_digits-len.result equals refl (search rules) (search rules) refl (search rules))
