use Rattle.std.proofs.Common.{sym, subst, arith}
use Rattle.sval_json_read.specs.NodeCounts.{IsFewChain}
use Rattle.sval_json_read.proofs.NodeCounts.{chain_start}
use Rattle.sval_json_read.proofs.node_list.NodeList.new.Goals as goal

pub invariant_of-result : goal.invariant_of-result
invariant_of-result c = subst (λ row. IsFewChain row 0) (sym c.new.ensures.items) (chain_start, omega arith)
