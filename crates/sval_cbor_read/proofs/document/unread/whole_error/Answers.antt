use Rattle.sval_cbor_read.proofs.UnreadCauses.{malformed_behind}
use Rattle.sval_cbor_read.proofs.document.unread.whole_error.Goals as goal

pub returns-then-end-bytes : goal.returns-then-end-bytes
returns-then-end-bytes c =
    malformed_behind c.args.bytes.now c.in-At.at c.in-Ok-Some.end (rw c.in-At.is at c.requires) (rw c.in-Ok-Some.field-0-is at c.in-Ok-Some.ensures.found) c.if-end-bytes.true
