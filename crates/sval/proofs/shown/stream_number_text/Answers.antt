use Rattle.sval_label.specs.Calls.{Call}
use Rattle.sval_core.specs.Law.{emits, then_emits}
use Rattle.sval_core.specs.Names.{number_tag, tag_alone}
use Rattle.sval_core.specs.Values.{makes}
use Rattle.sval.specs.Shown.{shown_calls}
use Rattle.sval.proofs.Bracketed.{begin_refused, inside_stopped, end_answered}
use Rattle.sval.proofs.shown.stream_number_text.Goals as goal

pub returns-in_err-tagged_begin : goal.returns-in_err-tagged_begin
unfolding emits then_emits
returns-in_err-tagged_begin g c =
    begin_refused (Call.TaggedEnd (tag_alone number_tag)) (makes (shown_calls c.args.text.now)) c.from_residual.result c.from_residual.ensures.0 (rw c.number.ensures at c.in_err-tagged_begin.ensures)

pub returns-in_err-stream_text : goal.returns-in_err-stream_text
unfolding emits then_emits
returns-in_err-stream_text g c =
    inside_stopped (Call.TaggedEnd (tag_alone number_tag)) c.from_residual-in_err-stream_text.result c.from_residual-in_err-stream_text.ensures.0 (rw c.number.ensures at c.in_ok-tagged_begin.ensures) c.in_err-stream_text.ensures

pub returns : goal.returns
unfolding emits then_emits
returns g c =
    end_answered (Call.TaggedEnd (tag_alone number_tag)) _ c.tagged_end.result (rw c.number.ensures at c.in_ok-tagged_begin.ensures) c.in_ok-stream_text.ensures (rw c.number-2.ensures at c.tagged_end.ensures)
