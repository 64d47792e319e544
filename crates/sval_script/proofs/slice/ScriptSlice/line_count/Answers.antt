use Rattle.std.proofs.Common.{ap, arith, length}
use Rattle.sval_script.proofs.ScriptTexts.{length-calls_with}
use Rattle.sval_script.proofs.slice.ScriptSlice.line_count.Goals as goal

pub returns : goal.returns
returns c =
    let count = length-calls_with c.self.inside.bytes.now c.self.inside.numbers.now c.self.inside.lines.now in
    let seen = ap length c.self.view_is in
    omega (arith, count, seen)
