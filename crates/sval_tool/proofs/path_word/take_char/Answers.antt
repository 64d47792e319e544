use Rattle.std.proofs.Common.{Global, arith, map, rules, string_bytes}
use Rattle.sval_tool.proofs.PathTexts.{dot_taken, pushed_view}
use Rattle.sval_tool.proofs.path_word.take_char.Goals as goal

pub returns-then-not-escaped : goal.returns-then-not-escaped
returns-then-not-escaped c =
    dot_taken (map (string_bytes {Z = Global}) c.args.labels.now.items) (map (string_bytes {Z = Global}) c.push.new.self.items) (string_bytes c.args.label) (string_bytes c.new.result) c.args.escaped c.args.ch
    (first_of (search rules, grind arith)) (first_of (search rules, grind arith)) (pushed_view (string_bytes {Z = Global}) c.args.labels.now.items c.push.new.self.items c.args.label c.in_ok-push.ensures.items) c.new.ensures.bytes
