use Rattle.std.proofs.Common.{[], ap, arith, length, refl}
use Rattle.std.proofs.lemmas.Result.{err_from_is_err_and}
use Rattle.sval_tool.proofs.InputsConverted.{none_so_far, one_so_far, all_so_far, nothing_left, then_input_stopped, source_passed, stops_passed}
use Rattle.sval_tool.proofs.inputs.convert_all.Goals as goal

pub loop-source-init : goal.loop-source-init
loop-source-init g c = record {
  converted = none_so_far g.I.Source.told g.K.Sink.told c.args.conversion.now c.args.form _ _;
  passed = ([], refl);
}

pub loop-source-smaller : goal.loop-source-smaller
loop-source-smaller g c = omega (arith, ap length c.in-Some.ensures.items)

pub loop-source-preserved : goal.loop-source-preserved
loop-source-preserved g c = record {
  converted = one_so_far g.I.Source.told g.K.Sink.told c.args.conversion.now c.args.form _ _ _ c.in-Some.source _ _ _ c.in-Some.ensures.items c.loop-source.invariant.converted c.in_ok-convert_input.ensures.text;
  passed = source_passed _ _ _ c.in-Some.source c.in-Some.ensures.items c.loop-source.invariant.passed;
}

pub returns-in_err-convert_input-clause-err : goal.returns-in_err-convert_input-clause-err
returns-in_err-convert_input-clause-err g c =
    let p = err_from_is_err_and c.from_residual.result c.from_residual.ensures.1 in
    rw (p.1, p.2) (then_input_stopped g.I.Source.told g.K.Sink.told c.args.conversion.now c.args.form _ _ _ c.in-Some.source c.in_err-convert_input.field-0.0 _ _ _ _ c.in-Some.ensures.items c.loop-source.invariant.converted c.in_err-convert_input.ensures.text)

pub returns-in_err-convert_input-clause-behind : goal.returns-in_err-convert_input-clause-behind
returns-in_err-convert_input-clause-behind g c =
    let p = err_from_is_err_and c.from_residual.result c.from_residual.ensures.1 in
    rw (p.1, p.2) (stops_passed g.I.Source.told c.in_err-convert_input.field-0.0 _ _ _ c.in-Some.source c.in-Some.ensures.items c.loop-source.invariant.passed c.in_err-convert_input.ensures.err)

pub returns-clause-ok : goal.returns-clause-ok
returns-clause-ok g c =
    all_so_far g.I.Source.told g.K.Sink.told c.args.conversion.now c.args.form _ _ _ _ (nothing_left _ _ c.in_default.ensures.items c.in_default.ensures.rest) c.loop-source.invariant.converted
