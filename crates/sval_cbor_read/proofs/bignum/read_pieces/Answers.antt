use Rattle.std.proofs.Common.{refl}
use Rattle.sval_cbor_read.proofs.Bignums.{pieces_go_on, pieces_end, pieces_lack, pieces_stop, pieces_too_large}
use Rattle.sval_cbor_read.proofs.bignum.read_pieces.Goals as goal

pub returns-then-bytes-at-clause-found : goal.returns-then-bytes-at-clause-found
returns-then-bytes-at-clause-found c = pieces_end c.loop-at.invariant c.loop-at-test.true c.if-bytes-at.true

pub returns-in-None-clause-nothing : goal.returns-in-None-clause-nothing
returns-in-None-clause-nothing c = λ none. pieces_stop c.loop-at.invariant c.loop-at-test.true c.if-bytes-at.false (c.in-None.ensures.nothing refl)

pub returns-in-None-extended-clause-nothing : goal.returns-in-None-extended-clause-nothing
returns-in-None-extended-clause-nothing c = λ none.
    pieces_too_large c.loop-at.invariant c.in-Some.piece.content.now c.in-Some.piece.next c.in-Some.ensures.found (c.in-None-extended.ensures.nothing refl)

pub loop-at-preserved : goal.loop-at-preserved
loop-at-preserved c =
    pieces_go_on c.loop-at.invariant c.in-Some.piece.content.now c.in-Some.piece.next c.in-Some-extended.number c.in-Some.ensures.found c.in-Some-extended.ensures.found c.in-Some-extended.ensures.small

pub returns-clause-nothing : goal.returns-clause-nothing
returns-clause-nothing c = λ none. pieces_lack c.loop-at.invariant c.loop-at-test.false
