use Rattle.std.specs.Prelude.{◌≡◌, Ok}
use Rattle.std.proofs.Common.{sym, subst}
use Rattle.sval_json.specs.Number.{normal}
use Rattle.sval_tape.proofs.Fractions.{positive_stays, negative_stays}
use Rattle.sval_tape.proofs.json.text.is_normal.Goals as goal

pub returns-in-Some : goal.returns-in-Some
returns-in-Some c is = subst (λ x. normal x ≡ Ok x) (sym c.in-Some.ensures) (negative_stays c.in-Some.unsigned.now (c.is_fraction.ensures is))

pub returns-in-None : goal.returns-in-None
returns-in-None c is = positive_stays c.args.text.now (c.is_fraction-in-None.ensures is)
