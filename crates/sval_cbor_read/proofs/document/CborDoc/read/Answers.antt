use Rattle.sval_cbor_read.proofs.Loop.{all_is_read}
use Rattle.sval_cbor_read.proofs.UnreadCauses.{malformed_more}
use Rattle.sval_cbor_read.proofs.document.CborDoc.read.Goals as goal

-- bytes follow the item
pub returns-then-used-bytes-clause-err : goal.returns-then-used-bytes-clause-err
returns-then-used-bytes-clause-err c = malformed_more c.args.bytes.now _ c.in-Ok.used c.in-Ok.ensures.front c.in-Ok.ensures.ended c.if-used-bytes.true

-- none do
pub returns-else-used-bytes-clause-ok : goal.returns-else-used-bytes-clause-ok
returns-else-used-bytes-clause-ok c = all_is_read c.args.bytes.now _ c.in-Ok.used c.in-Ok.ensures.ended c.if-used-bytes.false
