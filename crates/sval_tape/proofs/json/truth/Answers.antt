use Rattle.std.proofs.Common.{ap, ◌∙◌, ◌++◌}
use Rattle.sval_tape.proofs.JsonFront.{truth_at_front}
use Rattle.sval_tape.proofs.json.truth.Goals as goal

pub returns : goal.returns
returns c =
    truth_at_front c.in_ok-value.value c.args.bytes.now c.in_ok-value.rest.now c.in_ok-value.ensures
    (c.in_ok-put.ensures ∙ ap (λ x. c.args.out.now.bytes ++ x) (c.as_bytes.ensures.value ∙ c.spelled.ensures))
