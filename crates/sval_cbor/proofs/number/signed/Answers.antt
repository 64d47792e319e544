use Rattle.sval_cbor.proofs.NormalForms.{form_is, form_has_digit}
use Rattle.sval_cbor.proofs.number.signed.Goals as goal

pub returns-clause-form : goal.returns-clause-form
returns-clause-form c = form_is c.args.negative c.args.text.now c.without_zeros-unsigned.result.now c.keeps_sign.result c.requires c.without_zeros-unsigned.ensures c.keeps_sign.ensures

pub returns-clause-unsigned : goal.returns-clause-unsigned
returns-clause-unsigned c = form_has_digit c.args.text.now c.without_zeros-unsigned.result.now c.requires c.without_zeros-unsigned.ensures
