use Rattle.std.proofs.Common.{take, drop, ◌++◌}
use Rattle.sval_script.proofs.ScriptSlices.{IsCutAt}
use Rattle.sval_script.proofs.slice.ScriptSlice.split_at_checked.Given as goal

abbrev pub invariant-loop-line : goal.invariant-loop-line
invariant-loop-line l = IsCutAt l.self l.self-inside.bytes.now l.self-inside.numbers.now l.left.bytes.now l.left.numbers.now
    (take l.line-index l.first) (drop l.line-index l.first ++ l.behind)
