use Rattle.std.proofs.Common.{subst}
use Rattle.sval_cbor_read.specs.CborLimits.{EndsWithin}
use Rattle.sval_cbor_read.proofs.Bignums.{nothing_at}
use Rattle.sval_cbor_read.proofs.LimitedHeads.{more_within}
use Rattle.sval_cbor_read.proofs.Loop.{all_is_read}
use Rattle.sval_cbor_read.proofs.UnreadCauses.{malformed_more}
use Rattle.sval_cbor_read.proofs.document.CborDoc.read_with.Goals as goal

-- bytes follow the item
pub returns-then-used-bytes-clause-err : goal.returns-then-used-bytes-clause-err
returns-then-used-bytes-clause-err c = (
  malformed_more c.args.bytes.now _ c.in-Ok.used c.in-Ok.ensures.front c.in-Ok.ensures.ended c.if-used-bytes.true,
  more_within c.args.bytes.now c.args.limits c.in-Ok.used c.in-Ok.ensures.within,
)

-- none do
pub returns-else-used-bytes-clause-ok : goal.returns-else-used-bytes-clause-ok
returns-else-used-bytes-clause-ok c = all_is_read c.args.bytes.now _ c.in-Ok.used c.in-Ok.ensures.ended c.if-used-bytes.false

pub returns-else-used-bytes-clause-within : goal.returns-else-used-bytes-clause-within
returns-else-used-bytes-clause-within c = subst (EndsWithin c.args.bytes.now c.args.limits) (nothing_at c.args.bytes.now c.in-Ok.used c.if-used-bytes.false) c.in-Ok.ensures.within
