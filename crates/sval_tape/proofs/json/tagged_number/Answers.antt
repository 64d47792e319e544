use Rattle.std.proofs.Common.{ap, ◌∙◌, ◌∷◌}
use Rattle.sval_tape.proofs.JsonFront.{if_there, number_at}
use Rattle.sval_tape.proofs.json.tagged_number.Goals as goal

pub returns : goal.returns
returns c =
    if_there c.behind_number.result
    (λ behind ends. number_at c.args.bytes.now c.in_ok-rest.rest.now behind.now c.in_ok-rest.ensures (c.in_ok-behind.ensures ∙ ap (λ x. 25 ∷ x) ends))
    c.behind_number.ensures
