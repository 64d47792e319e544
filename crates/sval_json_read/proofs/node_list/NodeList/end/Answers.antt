use Rattle.std.proofs.Common.{◌∷◌, [], ◌++◌, ◌-◌, ◌<◌, ◌^◌, length, map, get_or, slice_set, sym, ap, subst, ◌∙◌, arith}
use Rattle.sval_json_read.specs.declared.node.Node.TheVariants.{Null}
use Rattle.sval_json_read.specs.declared.node.Place.TheVariants.{Alone}
use Rattle.sval_json_read.specs.NodeCounts.{IsChain, end_of, count_in, with_count, uncounted}
use Rattle.sval_json_read.proofs.NodeCounts.{innermost_of, chain_end, chain_stray, set_is, outer_is, same_uncounted, seen_more, end_stays}
use Rattle.sval_json_read.proofs.node_list.NodeList.end.Goals as goal

pub invariant_of-self-then-self-gt0 : goal.invariant_of-self-then-self-gt0
invariant_of-self-then-self-gt0 c =
    let at = c.self.inside.innermost - 1 in
    let end = end_of c.args.container c.args.place in
    let items = c.in_ok-keep.ensures.kept ∙ ap (λ one. c.self.inside.nodes.items ++ (one ∷ [])) c.end_of.ensures in
    let i = innermost_of c.self.invariant.0 (omega (arith, c.if-self-gt0.true)) in
    let chain = chain_end c.args.container c.args.place i c.count_from-self-inside.new.nodes.items c.count_from-self-inside.result
    (c.count_from-self-inside.ensures.counts ∙ ap (λ row. slice_set row at (with_count (length row - at) (get_or row at (Null Alone)))) items ∙ set_is i (end ∷ []) (Null Alone))
    (c.count_from-self-inside.ensures.held ∙ ap (λ row. count_in (get_or row at (Null Alone))) items ∙ outer_is i (end ∷ []) (Null Alone)) in
    (chain, subst (λ n. n < 2 ^ 48) (sym c.count_from-self-inside.ensures.as_many) c.in_ok-keep.ensures.few)

pub invariant_of-self-else-self-gt0 : goal.invariant_of-self-else-self-gt0
invariant_of-self-else-self-gt0 c =
    let items = c.in_ok-keep.ensures.kept ∙ ap (λ one. c.self.inside.nodes.items ++ (one ∷ [])) c.end_of.ensures in
    let chain = chain_stray c.args.container c.args.place c.self.invariant.0 (omega (arith, c.if-self-gt0.false)) in
    (subst (λ row. IsChain row c.self.inside.innermost) (sym items) chain, c.in_ok-keep.ensures.few)

pub returns-then-self-gt0 : goal.returns-then-self-gt0
returns-then-self-gt0 c =
    let at = c.self.inside.innermost - 1 in
    let old = c.self.inside.nodes.items in
    let items = c.in_ok-keep.ensures.kept ∙ ap (λ one. old ++ (one ∷ [])) c.end_of.ensures in
    ap (map uncounted) c.count_from-self-inside.ensures.counts ∙ same_uncounted (length c.keep.new.nodes.items - at) at c.keep.new.nodes.items (Null Alone) ∙ ap (map uncounted) items
    ∙ seen_more old (end_of c.args.container c.args.place) ∙ ap (λ one. map uncounted old ++ (one ∷ [])) (end_stays c.args.container c.args.place)
    ∙ ap (λ row. row ++ (end_of c.args.container c.args.place ∷ [])) c.self.view_is
