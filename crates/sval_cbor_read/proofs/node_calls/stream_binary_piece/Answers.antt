use Rattle.std.proofs.Common.{arith}
use Rattle.sval_cbor_read.proofs.ItemCalls.{piece_within}
use Rattle.sval_cbor_read.proofs.node_calls.stream_binary_piece.Goals as goal

pub read_head-requires : goal.read_head-requires
read_head-requires g c = omega (arith, piece_within 2 c.args.bytes.now c.args.at c.requires)
