use Rattle.sval.specs.Structs.{newtype_emission}
use Rattle.sval.proofs.WholeStructs.{newtype_is_whole}
use Rattle.sval.proofs.Bracketed.{begin_refused, inside_stopped, end_answered}
use Rattle.sval.proofs.tuple_structs.stream_newtype.Goals as goal

pub returns-then-skip_around : goal.returns-then-skip_around
returns-then-skip_around g c =
    let whole = c.skip_around.ensures.whole c.if-skip_around.true in
    c.skip_around.ensures.skipped c.if-skip_around.true (newtype_emission (g.N.Named.text c.args.name) (g.T.Value.emission c.args.value.now)) (newtype_is_whole (g.N.Named.text c.args.name) (g.T.Value.emission c.args.value.now) whole)

pub returns-in_err-begin_newtype : goal.returns-in_err-begin_newtype
unfolding newtype_emission
returns-in_err-begin_newtype g c =
    begin_refused _ _ c.from_residual.result c.from_residual.ensures.0 (rw (c.skip_around.ensures.left c.if-skip_around.false) at c.in_err-begin_newtype.ensures)

pub returns-in_err-stream : goal.returns-in_err-stream
unfolding newtype_emission
returns-in_err-stream g c =
    inside_stopped _ c.from_residual-in_err-stream.result c.from_residual-in_err-stream.ensures.0 (rw (c.skip_around.ensures.left c.if-skip_around.false) at c.in_ok-begin_newtype.ensures) c.in_err-stream.ensures

pub returns : goal.returns
unfolding newtype_emission
returns g c = end_answered _ _ c.end_newtype.result (rw (c.skip_around.ensures.left c.if-skip_around.false) at c.in_ok-begin_newtype.ensures) c.in_ok-stream.ensures c.end_newtype.ensures
