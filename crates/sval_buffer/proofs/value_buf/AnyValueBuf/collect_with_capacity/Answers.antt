use Rattle.std.proofs.Common.{sym, subst}
use Rattle.sval_buffer.specs.Capture.{IsNoAlloc}
use Rattle.sval_buffer.specs.CapturedValues.{IsCollectCause}
use Rattle.sval_buffer.specs.SeenBuffers.{capture_of}
use Rattle.sval_buffer.proofs.Collecting.{collected, collect_cause, keeps_tree, only_no_alloc}
use Rattle.sval_buffer.proofs.value_buf.AnyValueBuf.collect_with_capacity.Goals as goal

pub returns-in-Ok-clause-ok : goal.returns-in-Ok-clause-ok
returns-in-Ok-clause-ok g c = collected (g.V.Value.emission c.args.v.now) (capture_of c.with_capacity-buffer.result) (capture_of c.stream.new.stream) c.with_capacity-buffer.ensures c.in-Ok.ensures

pub returns-in-Ok-clause-keeps_the_tree : goal.returns-in-Ok-clause-keeps_the_tree
returns-in-Ok-clause-keeps_the_tree g c =
    let e = g.V.Value.emission c.args.v.now in
    keeps_tree e (capture_of c.stream.new.stream).forest (collected e (capture_of c.with_capacity-buffer.result) (capture_of c.stream.new.stream) c.with_capacity-buffer.ensures c.in-Ok.ensures).taken

pub returns-in-Err-clause-err : goal.returns-in-Err-clause-err
returns-in-Err-clause-err g c =
    let e = g.V.Value.emission c.args.v.now in
    subst (IsCollectCause e) (sym c.cause.ensures) (collect_cause e (capture_of c.with_capacity-buffer.result) (capture_of c.stream.new.stream) c.with_capacity-buffer.ensures c.in-Err.ensures)

pub returns-in-Err-clause-complete : goal.returns-in-Err-clause-complete
returns-in-Err-clause-complete g c tree willing spells =
    let e = g.V.Value.emission c.args.v.now in
    let cause = collect_cause e (capture_of c.with_capacity-buffer.result) (capture_of c.stream.new.stream) c.with_capacity-buffer.ensures c.in-Err.ensures in
    subst IsNoAlloc (sym c.cause.ensures) (only_no_alloc e tree _ willing spells cause)
