use Rattle.std.specs.Prelude.{Option}
use Rattle.std.proofs.Common.{subst}
use Rattle.sval_label.specs.Calls.{Label}
use Rattle.sval_buffer.specs.declared.error.Word.TheVariants as word
use Rattle.sval_buffer.specs.CollectSteps.{CollectsBy, push_label, label_takes_memory}
use Rattle.sval_buffer.proofs.text_buf.TextBuf.collect_tag.Goals as goal

pub returns-in-Some : goal.returns-in-Some
returns-in-Some c =
    subst (λ (label : Option Label). CollectsBy word.Text (label_takes_memory c.args.self.now label) (push_label c.args.self.now label) c.args.self.now c.collect_label.result c.collect_label.new.self)
    c.in-Some.ensures c.collect_label.ensures
