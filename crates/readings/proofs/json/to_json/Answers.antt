use Rattle.std.proofs.Common.{◌≡◌, rules, Some, Err, refl, ap, ◌∙◌}
use Rattle.readings.specs.Readings.{readings_calls, readings_tree}
use Rattle.readings.proofs.Told.{readings_tell}
use Rattle.sval_json.specs.ErrorKinds.{refusal_kind}
use Rattle.sval_json.specs.Number.{Refusal, InvalidKey, InvalidNumber}
use Rattle.sval_json.proofs.Told.{told_json, never_refused}
use Rattle.readings.proofs.Written.{shape_is}
use Rattle.readings.proofs.json.to_json.Goals as goal

pub returns-in-Ok-clause-json : goal.returns-in-Ok-clause-json
returns-in-Ok-clause-json c =
    let readings = c.args.readings.now.readings.items in
    let wrote = c.in-Ok.ensures.tree (readings_tree readings) (readings_tell readings).spells in
    c.into_vec.ensures ∙ told_json (shape_is readings) wrote (ap (λ taken. Some taken.bytes) c.new-sink.ensures) refl

-- the tree has a JSON, so no step refuses
pub returns-in-Err-clause-no_memory : goal.returns-in-Err-clause-no_memory
returns-in-Err-clause-no_memory c =
    let readings = c.args.readings.now.readings.items in
    let never : (why : Refusal) → c.in-Err.error ≡ refusal_kind why → ⊥ =
    λ why is. never_refused (readings_calls readings) (readings_tree readings) (shape_is readings) (readings_tell readings).spells (c.in-Err.ensures.tree_refused why (ap Err is)) in
    let key = never InvalidKey in
    let number = never InvalidNumber in
    search rules
