use Rattle.sval_cbor_read.specs.declared.node.Place.TheVariants.{Alone}
use Rattle.sval_cbor_read.specs.declared.node.Kind.TheVariants.{Item}
use Rattle.sval_cbor_read.proofs.CborChunks.{bytes_none}
use Rattle.sval_cbor_read.proofs.cbor_text.byte_chunk.Goals as goal

pub returns-in_default : goal.returns-in_default
returns-in_default c = record { chunk = bytes_none c.args.bytes.now c.args.nodes.now (record { low = 0; high = 0; kind = Item; place = Alone }) c.requires c.in_default.not-BinaryPiece; some = tt }
