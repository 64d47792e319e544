use Rattle.sval.specs.Structs.{value_variant_emission}
use Rattle.sval.proofs.WholeStructs.{value_variant_is_whole}
use Rattle.sval.proofs.Bracketed.{begin_refused, inside_stopped, end_answered}
use Rattle.sval.proofs.structs.stream_value_variant.Goals as goal

pub returns-then-skip_around : goal.returns-then-skip_around
returns-then-skip_around g c =
    let whole = c.skip_around.ensures.whole c.if-skip_around.true in
    c.skip_around.ensures.skipped c.if-skip_around.true (value_variant_emission (g.N.Named.text c.args.name) (g.M.Named.text c.args.variant) c.args.number (g.T.Value.emission c.args.value.now)) (value_variant_is_whole (g.N.Named.text c.args.name) (g.M.Named.text c.args.variant) c.args.number (g.T.Value.emission c.args.value.now) whole)

pub returns-in_err-begin_enum : goal.returns-in_err-begin_enum
unfolding value_variant_emission
returns-in_err-begin_enum g c =
    begin_refused _ _ c.from_residual.result c.from_residual.ensures.0 (rw (c.skip_around.ensures.left c.if-skip_around.false) at c.in_err-begin_enum.ensures)

pub returns-in_err-stream_tagged : goal.returns-in_err-stream_tagged
unfolding value_variant_emission
returns-in_err-stream_tagged g c =
    inside_stopped _ c.from_residual-in_err-stream_tagged.result c.from_residual-in_err-stream_tagged.ensures.0 (rw (c.skip_around.ensures.left c.if-skip_around.false) at c.in_ok-begin_enum.ensures) c.in_err-stream_tagged.ensures

pub returns : goal.returns
unfolding value_variant_emission
returns g c = end_answered _ _ c.end_enum.result (rw (c.skip_around.ensures.left c.if-skip_around.false) at c.in_ok-begin_enum.ensures) c.in_ok-stream_tagged.ensures c.end_enum.ensures
