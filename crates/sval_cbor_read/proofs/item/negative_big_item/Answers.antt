use Rattle.std.proofs.Common.{◌<◌, ◌^◌, refl, arith}
use Rattle.sval_cbor_read.specs.Items.{big_endian}
use Rattle.sval_cbor_read.proofs.Sound as sound
use Rattle.sval_cbor_read.proofs.Complete as complete
use Rattle.sval_cbor_read.proofs.BegunItems.{negative_big_begins, lacks_number, same_number}
use Rattle.sval_cbor_read.proofs.item.negative_big_item.Goals as goal

pub returns-in-None-clause-nothing : goal.returns-in-None-clause-nothing
returns-in-None-clause-nothing c = λ none.
    lacks_number 3 c.args.bytes.now c.args.head c.requires.is c.requires.tag (λ after frames. refl)
    (λ content rest s f. let large = c.in-None.ensures.nothing refl content rest s in let small = sound.fits_3 content f in omega arith)

pub returns-then-bignum-clause-found : goal.returns-then-bignum-clause-found
returns-then-bignum-clause-found c =
    let number = c.in-Some.ensures.found in
    let small : big_endian number.content < 2 ^ 127 = let v = number.value in let s = c.if-bignum.true in omega arith in
    negative_big_begins c.args.bytes.now c.args.head c.in-Some.bignum c.requires.is c.requires.tag number (complete.fits_3 number.content small)

pub returns-else-bignum-clause-nothing : goal.returns-else-bignum-clause-nothing
returns-else-bignum-clause-nothing c = λ none.
    let number = c.in-Some.ensures.found in
    lacks_number 3 c.args.bytes.now c.args.head c.requires.is c.requires.tag (λ after frames. refl)
    (λ content rest s f.
    let same = same_number number.stands s in
    let small = sound.fits_3 content f in
    let large = c.if-bignum.false in
    let v = number.value in
    omega arith)
