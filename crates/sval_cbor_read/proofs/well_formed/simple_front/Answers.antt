use Rattle.sval_cbor_read.proofs.WellFormedFronts.{simple_is_front, simple_is_none}
use Rattle.sval_cbor_read.proofs.well_formed.simple_front.Goals as goal
use Rattle.sval_cbor_read.proofs.well_formed.simple_front.Goals.{else-bytes-at-via-then-bytes-at+else-head-lt32, else-bytes-at-via-else-bytes-at}

pub returns-then-head-lt32 : goal.returns-then-head-lt32
returns-then-head-lt32 c = simple_is_none c.args.bytes.now c.args.at c.args.head c.requires.within c.requires.is c.requires.major c.if-bytes-at.true c.if-head-lt32.true

pub returns : goal.returns
returns c =
    simple_is_front c.args.bytes.now c.args.at c.args.head c.requires.within c.requires.is c.requires.major
    (λ e. elim c.else-bytes-at.branch [ else-bytes-at-via-then-bytes-at+else-head-lt32 w ↦ w.if-head-lt32.false | else-bytes-at-via-else-bytes-at w ↦ absurd (w.if-bytes-at.false e) ])
