use Rattle.std.proofs.Common.{drop}
use Rattle.sval_cbor_read.proofs.ItemCalls.{whole_string, utf8_content}
use Rattle.sval_cbor_read.proofs.found.text_behind_head.Goals as goal

pub from_utf8_unchecked-requires : goal.from_utf8_unchecked-requires
from_utf8_unchecked-requires c =
    let after = drop c.args.head.next c.args.bytes.now in
    utf8_content c.args.head.number after c.content_behind.result.now (whole_string 3 c.args.head.number after c.requires.some) c.content_behind.ensures
