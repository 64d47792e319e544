use Rattle.std.proofs.Common.{sym, subst}
use Rattle.sval_buffer.specs.Capture.{IsNoAlloc}
use Rattle.sval_buffer.specs.CapturedValues.{IsOwnedCause}
use Rattle.sval_buffer.specs.SeenBuffers.{capture_of}
use Rattle.sval_buffer.proofs.OwnedCollect.{collected_owned, owning_cause, owned_tree, only_no_memory}
use Rattle.sval_buffer.proofs.value_buf.AnyValueBuf.collect_owned.Goals as goal

pub returns-in-Ok-clause-ok : goal.returns-in-Ok-clause-ok
returns-in-Ok-clause-ok g c = collected_owned (g.V.Value.emission c.args.v.now) (capture_of c.new-owning.result.buffer) (capture_of c.take_all.new.self.buffer) c.new-owning.ensures c.in-Ok.ensures

pub returns-in-Ok-clause-keeps_the_tree : goal.returns-in-Ok-clause-keeps_the_tree
returns-in-Ok-clause-keeps_the_tree g c =
    let e = g.V.Value.emission c.args.v.now in
    owned_tree e (capture_of c.take_all.new.self.buffer) (collected_owned e (capture_of c.new-owning.result.buffer) (capture_of c.take_all.new.self.buffer) c.new-owning.ensures c.in-Ok.ensures)

pub returns-in-Err-clause-err : goal.returns-in-Err-clause-err
returns-in-Err-clause-err g c =
    let e = g.V.Value.emission c.args.v.now in
    subst (IsOwnedCause e) (sym c.cause.ensures) (owning_cause e (capture_of c.new-owning.result.buffer) (capture_of c.take_all.new.self.buffer) c.new-owning.ensures c.in-Err.ensures)

pub returns-in-Err-clause-complete : goal.returns-in-Err-clause-complete
returns-in-Err-clause-complete g c tree willing spells =
    let e = g.V.Value.emission c.args.v.now in
    let cause = owning_cause e (capture_of c.new-owning.result.buffer) (capture_of c.take_all.new.self.buffer) c.new-owning.ensures c.in-Err.ensures in
    subst IsNoAlloc (sym c.cause.ensures) (only_no_memory e tree _ willing spells cause)
