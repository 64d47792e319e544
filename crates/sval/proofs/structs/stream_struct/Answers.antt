use Rattle.sval.specs.Structs.{struct_emission}
use Rattle.sval.proofs.WholeStructs.{struct_is_whole}
use Rattle.sval.proofs.Bracketed.{begin_refused, inside_stopped, end_answered}
use Rattle.sval.proofs.structs.stream_struct.Goals as goal

pub returns-then-skip_fields : goal.returns-then-skip_fields
returns-then-skip_fields g c =
    let whole = c.skip_fields.ensures.whole c.if-skip_fields.true in
    c.skip_fields.ensures.skipped c.if-skip_fields.true (struct_emission (g.N.Named.text c.args.name) (g.F.Fields.listed c.args.fields)) (struct_is_whole (g.N.Named.text c.args.name) (g.F.Fields.listed c.args.fields) whole)

pub returns-in_err-begin_struct : goal.returns-in_err-begin_struct
unfolding struct_emission
returns-in_err-begin_struct g c =
    begin_refused _ _ c.from_residual.result c.from_residual.ensures.0 (rw (c.skip_fields.ensures.left c.if-skip_fields.false, c.count.ensures) at c.in_err-begin_struct.ensures)

pub returns-in_err-stream_placed : goal.returns-in_err-stream_placed
unfolding struct_emission
returns-in_err-stream_placed g c =
    inside_stopped _ c.from_residual-in_err-stream_placed.result c.from_residual-in_err-stream_placed.ensures.0 (rw (c.skip_fields.ensures.left c.if-skip_fields.false, c.count.ensures) at c.in_ok-begin_struct.ensures) c.in_err-stream_placed.ensures

pub returns : goal.returns
unfolding struct_emission
returns g c = end_answered _ _ c.end_struct.result (rw (c.skip_fields.ensures.left c.if-skip_fields.false, c.count.ensures) at c.in_ok-begin_struct.ensures) c.in_ok-stream_placed.ensures c.end_struct.ensures
