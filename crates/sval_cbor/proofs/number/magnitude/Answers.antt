use Rattle.std.proofs.Common.{◌≡◌, ◌∷◌, rules}
use Rattle.sval_cbor.proofs.Numbers.{too_large}
use Rattle.sval_cbor.proofs.number.magnitude.Goals as goal

pub returns-in_default-with_digit : goal.returns-in_default-with_digit
returns-in_default-with_digit c =
    let split : c.loop-digit.rest.now ≡ c.in-Some.digit.now ∷ c.in-Some.after.now = search rules in
    too_large c.loop-digit.number c.in-Some.digit.now c.in-Some.after.now c.loop-digit.rest.now c.args.text.now c.loop-digit.invariant.value split c.in_default-with_digit.ensures
