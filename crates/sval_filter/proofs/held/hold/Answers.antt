use Rattle.std.proofs.Common.{ap, ◌∙◌}
use Rattle.sval_label.specs.Made.{call_of, lent_call}
use Rattle.sval_core.specs.Law.{computed}
use Rattle.sval_buffer.specs.SeenBuffers.{capture_of}
use Rattle.sval_filter.specs.Held.{is_end}
use Rattle.sval_filter.proofs.Holding.{holds_end, holds_none}
use Rattle.sval_filter.proofs.held.hold.Goals as goal

pub returns-in-Err : goal.returns-in-Err
returns-in-Err g c =
    holds_end (capture_of c.args.held.now) (capture_of c.take.new.self) (call_of g.L.Lending.text g.L.Lending.bytes c.args.call) (lent_call c.call.result) (c.call.ensures _ _ ∙ c.as_computed.ensures _ _ ∙ ap computed (c.grouped-call.ensures g.L.Lending.text g.L.Lending.bytes))
    (c.if-is_end.ensures g.L.Lending.text g.L.Lending.bytes ∙ ap is_end (c.grouped-call.ensures g.L.Lending.text g.L.Lending.bytes)) c.in-Err.ensures

pub returns-in-Err-2 : goal.returns-in-Err-2
returns-in-Err-2 g c =
    holds_none (capture_of c.args.held.now) (capture_of c.take.new.self) (call_of g.L.Lending.text g.L.Lending.bytes c.args.call) (lent_call c.call.result) (c.call.ensures _ _ ∙ c.as_computed.ensures _ _ ∙ ap computed (c.grouped-call.ensures g.L.Lending.text g.L.Lending.bytes))
    (c.if-is_end.ensures g.L.Lending.text g.L.Lending.bytes ∙ ap is_end (c.grouped-call.ensures g.L.Lending.text g.L.Lending.bytes)) c.in-Err-2.ensures
