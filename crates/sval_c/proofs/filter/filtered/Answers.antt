use Rattle.sval_c.proofs.Lefts.{left_gives, none_left}
use Rattle.sval_c.proofs.filter.filtered.Goals as goal

pub returns-in-Ok : goal.returns-in-Ok
returns-in-Ok c = left_gives c.args.rule c.in-Ok.paths c.args.input.now c.args.paths.now c.left_of.result (λ json. json.items) c.in-Ok.ensures c.left_of.ensures

pub returns-in-Err : goal.returns-in-Err
returns-in-Err c = none_left c.args.rule c.args.input.now c.args.paths.now c.in-Err.lack c.in-Err.ensures
