use Rattle.std.proofs.Common.{arith}
use Rattle.sval_cbor_read.proofs.ItemCalls.{piece_within}
use Rattle.sval_cbor_read.proofs.cbor_text.byte_chunk_at.Goals as goal

pub read_head-requires : goal.read_head-requires
read_head-requires c = omega (arith, piece_within 2 c.args.bytes.now c.args.at c.requires)
