use Rattle.std.proofs.Common.{◌∷◌, [], ◌++◌, length, sym, ap, subst, ◌∙◌}
use Rattle.sval_json_read.specs.NodeCounts.{IsChain}
use Rattle.sval_json_read.proofs.NodeCounts.{chain_begin}
use Rattle.sval_json_read.proofs.node_list.NodeList.begin.Goals as goal

pub invariant_of-self-2 : goal.invariant_of-self-2
invariant_of-self-2 c =
    let items = c.in_ok-keep.ensures.kept ∙ ap (λ one. c.self.inside.nodes.items ++ (one ∷ [])) c.begin_of.ensures in
    let chain = subst (λ row. IsChain row (length row)) (sym items) (chain_begin c.args.container c.args.place c.self.invariant.0) in
    (subst (IsChain c.keep.new.nodes.items) (sym (c.len-self-inside.ensures ∙ c.keep.new.nodes.ok.0)) chain, c.in_ok-keep.ensures.few)
