use Rattle.std.proofs.Common.{◌*◌, ◌^◌, ◌≤◌, drop}
use Rattle.sval_cbor_read.proofs.NodeScripts.{AreMeasuredUpTo}
use Rattle.sval_cbor_read.proofs.node_script.chunks_len.Given as goal

-- each chunk is of less than 2^64 bytes
abbrev pub invariant-loop-node : goal.invariant-loop-node
invariant-loop-node l = AreMeasuredUpTo l.bytes l.nodes (drop l.node-index l.nodes) l.len × (l.len ≤ l.node-index * 2 ^ 64)
