use Rattle.sval_tape.proofs.JsonTexts.{borrowed_read, computed_read}
use Rattle.sval_tape.proofs.json.text.fragment.Goals as goal

pub returns-in-Some : goal.returns-in-Some
returns-in-Some c = borrowed_read (λ x. (x.0.now, x.1.now)) c.read_text.result c.args.bytes.now c.in-Some.operand.now c.in-Some.ensures c.read_text.ensures

pub returns-in_ok-behind-in-None : goal.returns-in_ok-behind-in-None
returns-in_ok-behind-in-None c =
    computed_read (λ x. (x.0.now, x.1.now)) c.read_text-in-None.result c.args.bytes.now c.in_ok-behind-in-None.field-0.now c.in_ok-behind-in-None.ensures c.read_text-in-None.ensures
