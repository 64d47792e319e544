use Rattle.std.proofs.Common.{◌≡◌, [], sym, ap, ◌∙◌, rules, arith}
use Rattle.std.proofs.lemmas.Grind.{common_steps}
use Rattle.sval_filter.specs.SeenPaths.{paths_in}
use Rattle.sval_filter.specs.declared.paths.Rule.TheVariants.{Drop}
use Rattle.sval_tool.proofs.LeftBytes.{whole_put, left_put}
use Rattle.sval_tool.proofs.packed.put_left.Goals as goal

pub returns-then-is_empty : goal.returns-then-is_empty
returns-then-is_empty c = λ input read.
    let r : c.args.rule ≡ Drop = search rules in
    let none : c.as_slice.result.now ≡ [] = grind (arith, common_steps) in
    let p : c.args.paths.now ≡ [] = sym c.as_slice.ensures ∙ ap paths_in none in
    whole_put c.args.rule c.args.paths.now input c.args.doc.now read c.put_whole.result c.args.out.now c.put_whole.new.out r p c.put_whole.ensures

pub returns : goal.returns
returns c = λ input read.
    left_put c.args.rule c.args.paths.now input c.args.doc.now read c.put_by_walk.result c.args.out.now c.put_by_walk.new.out c.put_by_walk.ensures
