use Rattle.std.proofs.Common.{◌<◌, ◌^◌, refl, arith}
use Rattle.sval_cbor_read.specs.Items.{big_endian}
use Rattle.sval_cbor_read.proofs.Sound as sound
use Rattle.sval_cbor_read.proofs.Complete as complete
use Rattle.sval_cbor_read.proofs.BegunItems.{big_begins, lacks_number}
use Rattle.sval_cbor_read.proofs.item.big_item.Goals as goal

pub returns-in-None-clause-nothing : goal.returns-in-None-clause-nothing
returns-in-None-clause-nothing c = λ none.
    lacks_number 2 c.args.bytes.now c.args.head c.requires.is c.requires.tag (λ after frames. refl)
    (λ content rest s f. let large = c.in-None.ensures.nothing refl content rest s in let small = sound.fits_2 content f in omega arith)

pub returns-in-Some-clause-found : goal.returns-in-Some-clause-found
returns-in-Some-clause-found c =
    let number = c.in-Some.ensures.found in
    let small : big_endian number.content < 2 ^ 128 = let v = number.value in let s = number.small in omega arith in
    big_begins c.args.bytes.now c.args.head c.in-Some.bignum c.requires.is c.requires.tag number (complete.fits_2 number.content small)
