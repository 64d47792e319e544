use Rattle.std.proofs.Common.{sym}
use Rattle.std.specs.Prelude.{refl}
use Rattle.sval_tape.proofs.TextsRead.{text_kept, text_refused}
use Rattle.sval_tape.proofs.reading.read_text.Goals as goal

pub returns-in-Some : goal.returns-in-Some
returns-in-Some c =
    sym (text_kept c.args.bytes.now c.in-Some.text.now c.in_ok-block.block.now c.in_ok-block.rest.now (sym c.in_ok-block.ensures) c.in-Some.ensures.found.0 c.in-Some.ensures.found.1)

pub returns-in-None : goal.returns-in-None
returns-in-None c = sym (text_refused c.args.bytes.now c.in_ok-block.block.now c.in_ok-block.rest.now (sym c.in_ok-block.ensures) (c.in-None.ensures.nothing refl))
