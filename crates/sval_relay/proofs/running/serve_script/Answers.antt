use Rattle.std.proofs.Common.{◌≡◌, Bool, ap, sym, subst}
use Rattle.sval_program.specs.Jobs.{ServesBytes}
use Rattle.sval_relay.specs.declared.way.Task.{Task}
use Rattle.sval_relay.specs.declared.way.Form.TheVariants.{Serve}
use Rattle.sval_relay.specs.Serves.{relay_terms}
use Rattle.sval_relay.specs.Verdict.{one_in}
use Rattle.sval_relay.proofs.running.serve_script.Goals as goal

pub returns-else-task : goal.returns-else-task
returns-else-task g c = λ bytes small is.
    let asked : Bool → Task = λ many. record { way = c.args.task.way; many = many } in
    let same : one_in c.args.task.way ≡ c.args.task = ap asked (sym c.if-task.false) in
    subst (λ task. ServesBytes relay_terms g.K.Sink.told (Serve task) bytes c.serve_value.result c.args.out.now c.serve_value.new.out) same (c.serve_value.ensures bytes small is)
