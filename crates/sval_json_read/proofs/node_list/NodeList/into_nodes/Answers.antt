use Rattle.std.proofs.Common.{◌-◌, ◌<◌, ◌^◌, map, length, sym, ap, subst, ◌∙◌, arith}
use Rattle.std.specs.List.{AllByRecursion}
use Rattle.sval_json_read.specs.declared.node.Node.TheVariants.{Null}
use Rattle.sval_json_read.specs.declared.node.Place.TheVariants.{Alone}
use Rattle.sval_json_read.specs.NodeCounts.{uncounted}
use Rattle.sval_json_read.specs.SeenNodes.{seen_node, StandsIn}
use Rattle.sval_json_read.proofs.NodeCounts.{settling_start, settling_end, settles_within, settles_on, same_uncounted, seen_uncounted, stand_uncounted}
use Rattle.sval_json_read.proofs.node_list.NodeList.into_nodes.Goals as goal

pub loop-innermost-init : goal.loop-innermost-init
loop-innermost-init c = (settling_start c.self.inside.nodes.items c.self.inside.innermost c.self.invariant.0, (c.self.view_is, c.self.invariant.1))

pub count_from-innermost-requires-clause-begin : goal.count_from-innermost-requires-clause-begin
count_from-innermost-requires-clause-begin c =
    settles_within c.loop-innermost.nodes.items c.loop-innermost.innermost c.loop-innermost.invariant.0 (omega (arith, c.loop-innermost-test.true)) (Null Alone)

pub loop-innermost-preserved : goal.loop-innermost-preserved
loop-innermost-preserved c =
    let nodes = c.loop-innermost.nodes.items in
    let innermost = c.loop-innermost.innermost in (
      (settles_on nodes innermost c.loop-innermost.invariant.0 (omega (arith, c.loop-innermost-test.true)) (Null Alone) c.count_from-innermost.new.nodes.items c.count_from-innermost.result
          c.count_from-innermost.ensures.counts c.count_from-innermost.ensures.held).0,
      (
        ap (map uncounted) c.count_from-innermost.ensures.counts ∙ same_uncounted (length nodes - (innermost - 1)) (innermost - 1) nodes (Null Alone) ∙ c.loop-innermost.invariant.1.0,
        subst (λ n. n < 2 ^ 48) (sym c.count_from-innermost.ensures.as_many) c.loop-innermost.invariant.1.1,
      ),
    )

pub loop-innermost-smaller : goal.loop-innermost-smaller
loop-innermost-smaller c =
    (settles_on c.loop-innermost.nodes.items c.loop-innermost.innermost c.loop-innermost.invariant.0 (omega (arith, c.loop-innermost-test.true)) (Null Alone) c.count_from-innermost.new.nodes.items c.count_from-innermost.result
    c.count_from-innermost.ensures.counts c.count_from-innermost.ensures.held).1

pub returns-clause-seen : goal.returns-clause-seen
returns-clause-seen c = sym (seen_uncounted c.loop-innermost.nodes.items) ∙ ap (map seen_node) c.loop-innermost.invariant.1.0

pub returns-clause-stand : goal.returns-clause-stand
returns-clause-stand c bytes stand =
    stand_uncounted bytes c.loop-innermost.nodes.items (subst (AllByRecursion (StandsIn bytes)) (sym c.loop-innermost.invariant.1.0) stand)

pub returns-clause-counted : goal.returns-clause-counted
returns-clause-counted c =
    settling_end c.loop-innermost.nodes.items c.loop-innermost.innermost c.loop-innermost.invariant.0 (omega (arith, c.loop-innermost-test.false))
