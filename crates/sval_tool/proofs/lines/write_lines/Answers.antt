use Rattle.std.proofs.Common.{◌≡◌, ◌+◌, ◌∙◌, arith, refl}
use Rattle.std.proofs.lemmas.Result.{err_from_is_err_and}
use Rattle.sval_tool.proofs.LinesConverted.{none_converted, one_converted, then_stopped}
use Rattle.sval_tool.proofs.lines.write_lines.Goals as goal

pub loop-init : goal.loop-init
loop-init g c = record { converted = none_converted g.K.Sink.told c.args.conversion.now _ _ _; faults = refl }

pub loop-smaller : goal.loop-smaller
loop-smaller g c =
    let more : c.convert_line.new.lines.number ≡ c.loop.lines.number + 1 = rw c.if-branch.true at c.in_ok-convert_line.ensures.number in
    omega (arith, more, c.in_ok-convert_line.ensures.below)

pub loop-preserved : goal.loop-preserved
loop-preserved g c = record {
  converted = one_converted g.K.Sink.told c.args.conversion.now _ _ _ _ _ _ _ _ _ (rw c.if-branch.true at c.in_ok-convert_line.ensures.number) c.loop.invariant.converted (rw c.if-branch.true at c.in_ok-convert_line.ensures.lines);
  faults = c.in_ok-convert_line.ensures.faults ∙ c.loop.invariant.faults;
}

pub returns-in_err-convert_line-clause-lines : goal.returns-in_err-convert_line-clause-lines
returns-in_err-convert_line-clause-lines g c =
    let p = err_from_is_err_and c.from_residual.result c.from_residual.ensures.1 in
    rw (p.1, p.2) (then_stopped g.K.Sink.told c.args.conversion.now _ _ _ _ _ _ c.in_err-convert_line.field-0.0 c.args.out.now _ _ c.in_err-convert_line.ensures.numbered c.loop.invariant.converted c.in_err-convert_line.ensures.lines)
