use Rattle.std.proofs.Common.{refl}
use Rattle.sval_cbor_read.proofs.WellFormedFronts.{string_ends, string_lacks}
use Rattle.sval_cbor_read.proofs.well_formed.string_end.Goals as goal

pub returns-in-None-binary_behind : goal.returns-in-None-binary_behind
returns-in-None-binary_behind c =
    rw (← c.if-head-major.true) (string_lacks c.in-Some.head.major c.args.bytes.now c.args.at c.in-Some.head c.in-Some.ensures.found (c.in-None-binary_behind.ensures.nothing refl))

pub returns-in-Some-binary_behind : goal.returns-in-Some-binary_behind
returns-in-Some-binary_behind c =
    string_ends c.args.major c.args.bytes.now c.args.at c.in-Some.head c.in-Some-binary_behind.piece.content.now c.in-Some-binary_behind.piece.next c.in-Some.ensures.found c.if-head-major.true
    c.in-Some-binary_behind.ensures.found
