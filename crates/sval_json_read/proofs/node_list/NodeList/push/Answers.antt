use Rattle.std.proofs.Common.{sym, subst}
use Rattle.sval_json_read.specs.NodeCounts.{IsChain}
use Rattle.sval_json_read.proofs.NodeCounts.{chain_leaf}
use Rattle.sval_json_read.proofs.node_list.NodeList.push.Goals as goal

pub invariant_of-self-2 : goal.invariant_of-self-2
invariant_of-self-2 c = (
  subst (λ row. IsChain row c.self.inside.innermost) (sym c.in_ok-keep.ensures.kept) (chain_leaf c.args.node c.requires c.self.invariant.0),
  c.in_ok-keep.ensures.few,
)
