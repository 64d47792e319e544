use Rattle.std.proofs.Common.{ap, arith, length}
use Rattle.sval_script.proofs.ScriptTexts.{length-calls_with}
use Rattle.sval_script.proofs.script.Script.line_count.Goals as goal

pub returns : goal.returns
returns c =
    let count = length-calls_with c.self.inside.store.bytes.items c.self.inside.store.numbers.items c.self.inside.lines.items in
    let seen = ap length c.self.view_is in
    omega (arith, count, seen, c.len.ensures)
