use Rattle.std.proofs.Common.{drop}
use Rattle.sval_script.proofs.ScriptStreams.{IsStreamedUpTo}
use Rattle.sval_script.specs.LineCalls.{calls_with}
use Rattle.sval_script.proofs.slice.make_lines.Given as goal

abbrev pub invariant-loop-line : goal.invariant-loop-line
invariant-loop-line g l = IsStreamedUpTo g.S.Stream.law (g.S.Stream.standing l.initial.stream) (g.S.Stream.standing l.stream)
    (calls_with l.bytes l.numbers l.lines) l.left.bytes.now l.left.numbers.now (drop l.line-index l.lines)
