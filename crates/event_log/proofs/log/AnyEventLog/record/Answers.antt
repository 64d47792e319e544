use Rattle.std.proofs.Common.{sym, ap, subst}
use Rattle.std.proofs.lemmas.Result.{err_from_is_err_and}
use Rattle.circular_buffer.specs.Buffer.{Buffer}
use Rattle.sval_buffer.specs.FlatForest.{FlatForest}
use Rattle.event_log.specs.Logs.{Log, AreLines, KeepsEvent}
use Rattle.event_log.proofs.Captured.{has_line, kept, lines_pushed, only_no_memory}
use Rattle.event_log.proofs.log.AnyEventLog.record.Goals as goal

pub returns-in_err-check_event-clause-comes : goal.returns-in_err-check_event-clause-comes
returns-in_err-check_event-clause-comes g c = λ has.
    let e = err_from_is_err_and c.from_residual.result c.from_residual.ensures.1 in
    rw (e.1, e.2) (only_no_memory (g.V.Value.emission c.args.event.now) c.in_err-check_event.field-0.0 has c.in_err-check_event.ensures.cause)

-- an event that has a JSON is captured, unless memory is wanting
pub want_of-requires : goal.want_of-requires
want_of-requires g c = let has = c.in_ok-check_event.ensures.ok in c.in-Err.ensures.complete has.tree has.willing has.spells

-- the event that is kept has a line
pub invariant_of-self : goal.invariant_of-self
invariant_of-self g c =
    let line = has_line (g.V.Value.emission c.args.event.now) c.in-Ok.captured c.in_ok-check_event.ensures.ok c.in-Ok.ensures.keeps_the_tree in
    subst (λ (ring : Buffer FlatForest). AreLines ring.items) (sym c.push_back.ensures.items)
    (lines_pushed c.self.inside.ring.capacity c.self.inside.ring.items c.in-Ok.captured c.self.invariant line)

pub returns-in-Ok-clause-kept : goal.returns-in-Ok-clause-kept
returns-in-Ok-clause-kept g c =
    let e = g.V.Value.emission c.args.event.now in
    let new : Log = record { events = c.push_back.new.self.items; capacity = c.push_back.new.self.capacity } in
    let events = ap (λ (ring : Buffer FlatForest). ring.items) c.push_back.ensures.items in
    let capacity = ap (λ (ring : Buffer FlatForest). ring.capacity) c.push_back.ensures.items in
    subst (λ (old : Log). KeepsEvent e old new) c.self.view_is
    (kept e c.in-Ok.captured c.in_ok-check_event.ensures.ok c.in-Ok.ensures.keeps_the_tree c.in-Ok.ensures.ok events capacity)
