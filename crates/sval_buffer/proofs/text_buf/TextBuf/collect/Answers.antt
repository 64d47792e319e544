use Rattle.std.specs.Prelude.{Err}
use Rattle.std.proofs.Common.{sym, subst}
use Rattle.sval_buffer.specs.Capture.{IsNoAlloc}
use Rattle.sval_buffer.specs.Collected.{IsHeldDue, text_collected}
use Rattle.sval_buffer.specs.SeenCollectors.{text_collecting}
use Rattle.sval_buffer.proofs.CallSteps.{text_stream}
use Rattle.sval_buffer.proofs.text_buf.TextBuf.collect.Goals as goal

pub returns-in-Ok-clause-due : goal.returns-in-Ok-clause-due
returns-in-Ok-clause-due g c =
    text_stream.on_ok (g.V.Value.emission c.args.value.now) (text_collecting c.new-collector.result) (text_collecting c.stream.new.stream) c.new-collector.ensures c.in-Ok.ensures

pub returns-clause-due : goal.returns-clause-due
returns-clause-due g c =
    let e = g.V.Value.emission c.args.value.now in
    subst (λ why. IsHeldDue (text_collected e) (Err why)) (sym c.cause.ensures)
    (text_stream.on_err e (text_collecting c.new-collector.result) (text_collecting c.stream.new.stream) c.new-collector.ensures c.in-Err.ensures)

pub returns-clause-memory : goal.returns-clause-memory
returns-clause-memory g c no_alloc =
    text_stream.on_want (g.V.Value.emission c.args.value.now) (text_collecting c.new-collector.result) (text_collecting c.stream.new.stream) c.new-collector.ensures c.in-Err.ensures
    (subst IsNoAlloc c.cause.ensures no_alloc)
