use Rattle.std.proofs.Common.{sym, subst, Ok}
use Rattle.event_log.specs.Events.{IsRecordCause}
use Rattle.event_log.proofs.Checked.{check_cause, has_no_json}
use Rattle.event_log.proofs.checking.check_event.Goals as goal

pub returns-in-Err : goal.returns-in-Err
returns-in-Err g c =
    let e = g.V.Value.emission c.args.event.now in
    record { ok = tt; cause = subst (λ why. IsRecordCause why e) (sym c.unfit.ensures) (check_cause e c.in-Err.error (c.in-Err.ensures.comes (Ok tt)) c.in-Err.ensures.no_memory) }

pub returns-in-Err-stream_to_io_write-clause-cause : goal.returns-in-Err-stream_to_io_write-clause-cause
returns-in-Err-stream_to_io_write-clause-cause g c = has_no_json c.new.result c.stream_to_io_write.new.out c.in-Err-stream_to_io_write.field-0 c.in-Ok.ensures.ok c.in-Err-stream_to_io_write.ensures
