use Rattle.std.proofs.Common.{drop, arith}
use Rattle.sval_cbor_read.proofs.ItemCalls.{whole_piece, piece_within, utf8_content}
use Rattle.sval_cbor_read.proofs.cbor_text.text_chunk_at.Goals as goal

pub read_head-requires : goal.read_head-requires
read_head-requires c = omega (arith, piece_within 3 c.args.bytes.now c.args.at c.requires)

pub from_utf8_unchecked-requires : goal.from_utf8_unchecked-requires
from_utf8_unchecked-requires c =
    let head = c.in-Some.head in
    utf8_content head.number (drop head.next c.args.bytes.now) c.content_behind.result.now (whole_piece 3 c.args.bytes.now c.args.at head c.requires c.in-Some.ensures.found.1) c.content_behind.ensures
