use Rattle.sval.specs.Structs.{unit_variant_emission}
use Rattle.sval.proofs.WholeStructs.{unit_variant_is_whole}
use Rattle.sval.proofs.Bracketed.{begin_refused, inside_stopped, end_answered}
use Rattle.sval.proofs.structs.stream_unit_variant.Goals as goal

pub returns-then-skip_value : goal.returns-then-skip_value
returns-then-skip_value g c =
    c.skip_value.ensures.skipped c.if-skip_value.true (unit_variant_emission (g.N.Named.text c.args.name) (g.M.Named.text c.args.variant) c.args.number) (unit_variant_is_whole (g.N.Named.text c.args.name) (g.M.Named.text c.args.variant) c.args.number)

pub returns-in_err-begin_enum : goal.returns-in_err-begin_enum
unfolding unit_variant_emission
returns-in_err-begin_enum g c =
    begin_refused _ _ c.from_residual.result c.from_residual.ensures.0 (rw (c.skip_value.ensures.left c.if-skip_value.false) at c.in_err-begin_enum.ensures)

pub returns-in_err-stream_name : goal.returns-in_err-stream_name
unfolding unit_variant_emission
returns-in_err-stream_name g c =
    inside_stopped _ c.from_residual-in_err-stream_name.result c.from_residual-in_err-stream_name.ensures.0 (rw (c.skip_value.ensures.left c.if-skip_value.false) at c.in_ok-begin_enum.ensures) c.in_err-stream_name.ensures

pub returns : goal.returns
unfolding unit_variant_emission
returns g c = end_answered _ _ c.end_enum.result (rw (c.skip_value.ensures.left c.if-skip_value.false) at c.in_ok-begin_enum.ensures) c.in_ok-stream_name.ensures c.end_enum.ensures
