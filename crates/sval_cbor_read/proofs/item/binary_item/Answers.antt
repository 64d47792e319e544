use Rattle.std.proofs.Common.{refl}
use Rattle.sval_cbor_read.proofs.BegunItems.{binary_begins, no_binary}
use Rattle.sval_cbor_read.proofs.item.binary_item.Goals as goal

pub returns-in-None-clause-nothing : goal.returns-in-None-clause-nothing
returns-in-None-clause-nothing c = λ none. no_binary c.args.bytes.now c.args.head c.requires.is c.requires.within (c.in-None.ensures.nothing refl)

pub returns-in-Some-clause-found : goal.returns-in-Some-clause-found
returns-in-Some-clause-found c =
    binary_begins c.args.bytes.now c.args.head c.in-Some.piece.content.now c.in-Some.piece.next c.requires.is c.in-Some.ensures.found
