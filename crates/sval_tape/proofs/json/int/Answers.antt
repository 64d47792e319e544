use Rattle.std.proofs.Common.{ap, ◌∙◌, ◌++◌}
use Rattle.sval_tape.specs.ReadCalls.{tape_int_type}
use Rattle.sval_tape.proofs.JsonFront.{int_at_front}
use Rattle.sval_tape.proofs.json.int.Goals as goal

pub returns : goal.returns
returns c =
    int_at_front (tape_int_type c.args.kind) c.in_ok-number.number c.args.bytes.now c.in_ok-number.rest.now c.in_ok-number.ensures
    (c.in_ok-put.ensures ∙ ap (λ x. c.args.out.now.bytes ++ x) (c.as_bytes.ensures.value ∙ c.format.ensures))
