use Rattle.sval.specs.Structs.{tuple_struct_emission}
use Rattle.sval.proofs.WholeStructs.{tuple_struct_is_whole}
use Rattle.sval.proofs.Bracketed.{begin_refused, inside_stopped, end_answered}
use Rattle.sval.proofs.tuple_structs.stream_tuple_struct.Goals as goal

pub returns-then-skip_fields : goal.returns-then-skip_fields
returns-then-skip_fields g c =
    let whole = c.skip_fields.ensures.whole c.if-skip_fields.true in
    c.skip_fields.ensures.skipped c.if-skip_fields.true (tuple_struct_emission (g.N.Named.text c.args.name) (g.F.TupleFields.listed c.args.fields)) (tuple_struct_is_whole (g.N.Named.text c.args.name) (g.F.TupleFields.listed c.args.fields) whole)

pub returns-in_err-begin_struct : goal.returns-in_err-begin_struct
unfolding tuple_struct_emission
returns-in_err-begin_struct g c =
    begin_refused _ _ c.from_residual.result c.from_residual.ensures.0 (rw (c.skip_fields.ensures.left c.if-skip_fields.false, c.count.ensures) at c.in_err-begin_struct.ensures)

pub returns-in_err-stream_fields : goal.returns-in_err-stream_fields
unfolding tuple_struct_emission
returns-in_err-stream_fields g c =
    inside_stopped _ c.from_residual-in_err-stream_fields.result c.from_residual-in_err-stream_fields.ensures.0 (rw (c.skip_fields.ensures.left c.if-skip_fields.false, c.count.ensures) at c.in_ok-begin_struct.ensures) c.in_err-stream_fields.ensures

pub returns : goal.returns
unfolding tuple_struct_emission
returns g c = end_answered _ _ c.end_struct.result (rw (c.skip_fields.ensures.left c.if-skip_fields.false, c.count.ensures) at c.in_ok-begin_struct.ensures) c.in_ok-stream_fields.ensures c.end_struct.ensures
