use Rattle.std.proofs.Common.{Global, [], ap, chars, map, string_bytes, ◌∙◌}
use Rattle.sval_tool.specs.PathWords.{path_labels}
use Rattle.sval_tool.proofs.PathTexts.{some_items, some_labels}
use Rattle.sval_tool.proofs.path_word.add_path.Goals as goal

pub add_labels-requires : goal.add_labels-requires
add_labels-requires c =
    some_items (string_bytes {Z = Global}) c.deref-2.result.now (path_labels c.args.word.now) (ap (map (string_bytes {Z = Global})) c.deref-2.ensures.value ∙ c.in_ok-labels.ensures) (some_labels [] (chars c.args.word.now))
