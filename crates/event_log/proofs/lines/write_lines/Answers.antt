use Rattle.std.proofs.lemmas.Result.{err_from_is_err_and}
use Rattle.event_log.proofs.Joined.{writes_next, stops_next, writes_last}
use Rattle.event_log.proofs.lines.write_lines.Goals as goal

pub loop-event-preserved : goal.loop-event-preserved
loop-event-preserved g c = writes_next c.args.events.now c.loop-event.event-index c.event-item.result c.loop-event-test.true c.event-item.is c.loop-event.invariant c.in_ok-write_line.ensures

pub returns-in_err-write_line : goal.returns-in_err-write_line
returns-in_err-write_line g c =
    let e = err_from_is_err_and c.from_residual.result c.from_residual.ensures.1 in
    rw (e.1, e.2) (stops_next c.args.events.now c.loop-event.event-index c.event-item.result c.loop-event-test.true c.event-item.is c.loop-event.invariant c.in_err-write_line.ensures)

pub returns : goal.returns
returns g c = writes_last c.args.events.now c.loop-event.event-index c.loop-event-test.false c.loop-event.invariant
