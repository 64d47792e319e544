use Rattle.std.specs.Prelude.{Some}
use Rattle.std.proofs.Common.{◌∙◌, ap}
use Rattle.sval_label.specs.Made.{lent_call}
use Rattle.sval_buffer.specs.declared.error.ErrorKind.{ErrorKind}
use Rattle.sval_buffer.specs.declared.refusals.Refusals.{Refusals}
use Rattle.sval_buffer.specs.Capture.{wants_after_error}
use Rattle.sval_buffer.specs.CollectSteps.{text_collects}
use Rattle.sval_buffer.specs.SeenCollectors.{text_collecting}
use Rattle.sval_buffer.proofs.CollectAnswers.{takes_by, refuses_by}
use Rattle.sval_buffer.proofs.collect_text.TextCollectorStreamLent.take.Goals as goal

pub returns-in-Ok : goal.returns-in-Ok
returns-in-Ok c = takes_by text_collects (text_collecting c.args.self.now) c.collect_call.new.self (lent_call c.args.call) c.in-Ok.ensures

pub returns-in-Err : goal.returns-in-Err
returns-in-Err c =
    let kept = c.keep.ensures.kept
    ∙ ap (λ (why : ErrorKind). let r : Refusals = record { last = Some why; wants = wants_after_error why c.args.self.now.refusals.wants } in r) c.kind.ensures in
    refuses_by text_collects (text_collecting c.args.self.now) c.collect_call.new.self c.keep.new.self (lent_call c.args.call) c.in-Err.error
    c.in-Err.ensures.0 c.in-Err.ensures.1 kept c.keep.ensures.rises
