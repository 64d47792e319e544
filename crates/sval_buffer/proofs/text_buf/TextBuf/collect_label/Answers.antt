use Rattle.std.specs.Prelude.{true, false}
use Rattle.sval_buffer.specs.declared.error.Word.TheVariants as word
use Rattle.sval_buffer.proofs.CollectAnswers.{label_collected}
use Rattle.sval_buffer.proofs.text_buf.TextBuf.collect_label.Goals as goal

pub returns-in-Some : goal.returns-in-Some
returns-in-Some c =
    label_collected word.Text c.args.self.now c.collect_fragment.new.self c.collect_fragment.result c.args.label.now true c.in-Some.text.now
    c.in-Some.ensures.exactly c.in-Some.ensures.text c.collect_fragment.ensures

pub returns-in-None : goal.returns-in-None
returns-in-None c =
    label_collected word.Text c.args.self.now c.collect_fragment-in-None.new.self c.collect_fragment-in-None.result c.args.label.now false c.as_str.result.now
    c.in-None.ensures.exactly c.as_str.ensures c.collect_fragment-in-None.ensures
