use Rattle.std.proofs.Common.{◌≡◌, ◌<◌, ◌^◌, map, length}
use Rattle.sval_json_read.specs.NodeCounts.{uncounted}
use Rattle.sval_json_read.proofs.NodeCounts.{IsSettling}
use Rattle.sval_json_read.proofs.node_list.NodeList.into_nodes.Given as goal

-- the begins before some place are left to count, and nothing else changed
abbrev pub invariant-loop-innermost : goal.invariant-loop-innermost
invariant-loop-innermost l = IsSettling l.nodes.items l.innermost × ((map uncounted l.nodes.items ≡ l.fn.self) × (length l.nodes.items < 2 ^ 48))

abbrev pub decreases-loop-innermost : goal.decreases-loop-innermost
decreases-loop-innermost l = l.innermost
