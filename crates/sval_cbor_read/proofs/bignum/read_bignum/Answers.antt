use Rattle.std.proofs.Common.{refl}
use Rattle.sval_cbor_read.proofs.ReadStrings.{some_map}
use Rattle.sval_cbor_read.proofs.Bignums.{no_number_left, number_in_pieces, no_number_in_pieces, number_stands, not_pieces, no_definite_number, definite_too_large}
use Rattle.sval_cbor_read.proofs.bignum.read_bignum.Goals as goal

pub returns-then-bytes-at-eq95-clause-found : goal.returns-then-bytes-at-eq95-clause-found
returns-then-bytes-at-eq95-clause-found c =
    some_map c.read_pieces.result (λ bignum h. number_in_pieces c.args.bytes.now c.args.at bignum c.if-at-bytes.false c.if-bytes-at-eq95.true h) c.read_pieces.ensures.found

pub returns-then-bytes-at-eq95-clause-nothing : goal.returns-then-bytes-at-eq95-clause-nothing
returns-then-bytes-at-eq95-clause-nothing c = λ none.
    no_number_in_pieces c.args.bytes.now c.args.at c.if-at-bytes.false c.if-bytes-at-eq95.true (c.read_pieces.ensures.nothing none)

pub returns-in-None-clause-nothing : goal.returns-in-None-clause-nothing
returns-in-None-clause-nothing c = λ none. no_definite_number c.args.bytes.now c.args.at (not_pieces c.args.bytes.now c.args.at (λ l. c.if-bytes-at-eq95.false)) (c.in-None.ensures.nothing refl)

pub returns-in-None-extended-clause-nothing : goal.returns-in-None-extended-clause-nothing
returns-in-None-extended-clause-nothing c = λ none.
    definite_too_large c.args.bytes.now c.args.at c.in-Some.piece.content.now c.in-Some.piece.next (not_pieces c.args.bytes.now c.args.at (λ l. c.if-bytes-at-eq95.false)) c.in-Some.ensures.found
    (c.in-None-extended.ensures.nothing refl)

pub returns-in-Some-extended-clause-found : goal.returns-in-Some-extended-clause-found
returns-in-Some-extended-clause-found c =
    number_stands c.args.bytes.now c.args.at c.in-Some.piece.content.now c.in-Some-extended.number c.in-Some.piece.next c.in-Some.ensures.found c.in-Some-extended.ensures.found c.in-Some-extended.ensures.small

pub returns-then-at-bytes-clause-nothing : goal.returns-then-at-bytes-clause-nothing
returns-then-at-bytes-clause-nothing c = λ none. no_number_left c.args.bytes.now c.args.at c.if-at-bytes.true
