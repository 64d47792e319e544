use Rattle.sval_script.proofs.DigitFields.{text_ahead, no_text_ahead}
use Rattle.sval_script.proofs.fields.Fields.long_text.Goals as goal

pub returns-then-decode_expected-clause-stored : goal.returns-then-decode_expected-clause-stored
returns-then-decode_expected-clause-stored c =
    text_ahead c.args.self.now c.decode_expected.new.self c.args.store.now.items c.decode_expected.new.store.items c.len-start.result c.text_len.result
    c.if-decode_expected.ensures c.len-start.ensures c.text_len.ensures.same c.text_len.ensures.text

pub returns-then-decode_expected-clause-bad : goal.returns-then-decode_expected-clause-bad
returns-then-decode_expected-clause-bad c bad =
    no_text_ahead c.args.self.now c.decode_expected.new.self c.args.store.now.items c.decode_expected.new.store.items c.len-start.result
    c.if-decode_expected.ensures c.len-start.ensures (c.text_len.ensures.bad bad)
