use Rattle.std.proofs.Common.{◌≡◌, ◌∙◌, true}
use Rattle.sval_label.specs.Texts.{is_decimal}
use Rattle.sval_script.proofs.Decimals.{decimal_is_utf8, parsed}
use Rattle.sval_script.proofs.number.natural.Goals as goal

pub text-requires : goal.text-requires
text-requires c =
    let h : is_decimal c.args.field.now ≡ true = cc in
    decimal_is_utf8 _ h

pub returns : goal.returns
returns c =
    let h : is_decimal c.args.field.now ≡ true = cc in
    c.ok.ensures.value ∙ parsed 64 c.args.field.now c.parse.result h (rw c.text.ensures at c.parse.ensures.value.0)
