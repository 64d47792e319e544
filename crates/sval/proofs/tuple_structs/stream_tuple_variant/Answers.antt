use Rattle.sval.specs.Structs.{tuple_variant_emission}
use Rattle.sval.proofs.WholeStructs.{tuple_variant_is_whole}
use Rattle.sval.proofs.Bracketed.{begin_refused, inside_stopped, end_answered}
use Rattle.sval.proofs.tuple_structs.stream_tuple_variant.Goals as goal

pub returns-then-skip_fields : goal.returns-then-skip_fields
returns-then-skip_fields g c =
    let whole = c.skip_fields.ensures.whole c.if-skip_fields.true in
    c.skip_fields.ensures.skipped c.if-skip_fields.true (tuple_variant_emission (g.N.Named.text c.args.name) (g.M.Named.text c.args.variant) c.args.number (g.F.TupleFields.listed c.args.fields)) (tuple_variant_is_whole (g.N.Named.text c.args.name) (g.M.Named.text c.args.variant) c.args.number (g.F.TupleFields.listed c.args.fields) whole)

pub returns-in_err-begin_enum : goal.returns-in_err-begin_enum
unfolding tuple_variant_emission
returns-in_err-begin_enum g c =
    begin_refused _ _ c.from_residual.result c.from_residual.ensures.0 (rw (c.skip_fields.ensures.left c.if-skip_fields.false) at c.in_err-begin_enum.ensures)

pub returns-in_err-stream_variant_fields : goal.returns-in_err-stream_variant_fields
unfolding tuple_variant_emission
returns-in_err-stream_variant_fields g c =
    inside_stopped _ c.from_residual-in_err-stream_variant_fields.result c.from_residual-in_err-stream_variant_fields.ensures.0 (rw (c.skip_fields.ensures.left c.if-skip_fields.false) at c.in_ok-begin_enum.ensures) c.in_err-stream_variant_fields.ensures

pub returns : goal.returns
unfolding tuple_variant_emission
returns g c = end_answered _ _ c.end_enum.result (rw (c.skip_fields.ensures.left c.if-skip_fields.false) at c.in_ok-begin_enum.ensures) c.in_ok-stream_variant_fields.ensures c.end_enum.ensures
