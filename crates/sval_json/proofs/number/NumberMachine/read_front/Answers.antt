use Rattle.std.proofs.Common.{◌≡◌, ◌∷◌, rules}
use Rattle.sval_json.proofs.Readings.{leads_to_word}
use Rattle.sval_json.proofs.number.NumberMachine.read_front.Goals as goal

pub returns-in-Word : goal.returns-in-Word
returns-in-Word c =
    let due : c.loop-byte.rest.now ≡ c.in-Some.byte.now ∷ c.in-Some.after.now = search rules in
    leads_to_word c.in-Some.byte.now c.in-Some.after.now c.loop-byte.invariant due c.in-Word.ensures c.at-in-Word.ensures c.writes.ensures
