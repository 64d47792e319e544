use Rattle.std.proofs.Common.{◌≡◌, [], arith}
use Rattle.std.proofs.lemmas.Grind.{common_steps}
use Rattle.sval_tool.proofs.DocumentCauses.{empty_done}
use Rattle.sval_tool.proofs.lines.write_line.Goals as goal

pub returns-then-is_empty-clause-ok : goal.returns-then-is_empty-clause-ok
returns-then-is_empty-clause-ok g c =
    let e : c.args.line.now ≡ [] = grind (arith, common_steps) in
    empty_done c.args.conversion.now c.args.line.now (g.K.Sink.told c.args.out.now) e
