use Rattle.std.specs.Prelude.{refl}
use Rattle.sval_tape.proofs.JsonTexts.{text_at_front}
use Rattle.sval_tape.proofs.json.text.text.Goals as goal

pub returns : goal.returns
returns c =
    text_at_front c.in_ok-given.given c.args.bytes.now c.in_ok-given.inner.now _ c.in_ok-rest.rest.now c.in_ok-given.ensures c.in_ok-put.ensures c.in_ok-rest.ensures refl (c.if-not-is_size.ensures refl)
    c.in_ok-put-2.ensures
