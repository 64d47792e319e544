use Rattle.std.proofs.Common.{Global, arith, string_bytes}
use Rattle.sval_tool.proofs.PathTexts.{label_added}
use Rattle.sval_tool.proofs.path_word.add_labels.Goals as goal

pub loop-label-preserved : goal.loop-label-preserved
loop-label-preserved c =
    label_added (string_bytes {Z = Global}) c.args.paths.now c.loop-label.paths c.extend_path.new.self c.args.labels.now c.in-Some.others.now c.in-Some.first.now c.label-item.result c.loop-label.label-index _
    c.as_str-in-loop-label.result.now (omega arith) c.in-Some.ensures.cases.0 c.label-item.is c.as_str-in-loop-label.ensures.value c.loop-label.invariant c.in_ok-extend_path.ensures
