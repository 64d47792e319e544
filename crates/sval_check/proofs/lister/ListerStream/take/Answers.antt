use Rattle.sval_label.specs.Made.{call_of}
use Rattle.sval_check.specs.Checking.{checking}
use Rattle.sval_check.proofs.ListStops.{refused_in_list, passes_on}
use Rattle.sval_check.proofs.lister.ListerStream.take.Goals as goal

pub returns-in_err-take : goal.returns-in_err-take
returns-in_err-take g c =
    let call = call_of g.L.Lending.text g.L.Lending.bytes c.args.call in
    let ends = c.args.self.now.ends in
    passes_on c.from_residual.result c.from_residual.ensures.0 (refused_in_list ends (checking c.args.self.now.checker) (checking c.take.new.self) call c.in_err-take.ensures)
