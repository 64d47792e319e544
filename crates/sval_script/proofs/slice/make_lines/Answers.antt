use Rattle.std.proofs.Common.{◌<◌, length, arith}
use Rattle.sval_core.proofs.Emissions.{passes_on}
use Rattle.sval_script.specs.declared.line.Line.TheVariants.{Alone}
use Rattle.sval_script.specs.declared.word.Alone.TheVariants.{Null}
use Rattle.sval_script.proofs.ScriptStreams.{stream-step, stream-stop}
use Rattle.sval_script.proofs.slice.make_lines.Goals as goal

pub returns-in_err-make : goal.returns-in_err-make
returns-in_err-make g c =
    let within : c.loop-line.line-index < length c.args.lines.now = omega arith in
    passes_on c.from_residual.result c.from_residual.ensures.0 (stream-stop _ c.args.lines.now c.loop-line.line-index (Alone Null) c.loop-line.invariant within c.in_err-make.ensures.call)

pub loop-line-preserved : goal.loop-line-preserved
loop-line-preserved g c =
    let within : c.loop-line.line-index < length c.args.lines.now = omega arith in
    rw (c.in_ok-make.ensures.bytes, c.in_ok-make.ensures.numbers)
    (stream-step _ c.args.lines.now c.loop-line.line-index (Alone Null) c.loop-line.invariant within c.in_ok-make.ensures.call)
