use Rattle.std.proofs.Common.{arith, ap, sym, subst}
use Rattle.std.proofs.lemmas.Grind.{common_steps}
use Rattle.std.proofs.lemmas.List.{nil_from_length}
use Rattle.sval_tape.specs.JsonAtFront.{IsJsonOf}
use Rattle.sval_tape.proofs.JsonTexts.{json_of_tape}
use Rattle.sval_tape.proofs.json.json_at_once.Goals as goal

pub returns-then-is_empty : goal.returns-then-is_empty
returns-then-is_empty c =
    let done = nil_from_length c.in_ok-rest.rest.now (grind (arith, common_steps)) in
    let whole = json_of_tape (λ i. omega (arith, c.type_inv.tape i)) c.in_ok-rest.ensures done (ap (λ taken. taken.bytes) c.in-Ok.ensures) in
    subst (IsJsonOf c.args.tape.now) (sym c.into_vec.ensures) whole
