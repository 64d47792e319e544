use Rattle.std.proofs.Common.{arith, refl}
use Rattle.sval_cbor_read.proofs.ReadStrings.{some_map, string_stands, string_needs}
use Rattle.sval_cbor_read.proofs.string.binary_at.Goals as goal

pub returns-then-head-eq2-clause-found : goal.returns-then-head-eq2-clause-found
returns-then-head-eq2-clause-found c =
    some_map c.binary_behind.result (λ piece h. string_stands 2 c.args.bytes.now c.args.at c.in-Some.head piece.content.now piece.next c.in-Some.ensures.found c.if-head-eq2.true h refl) c.binary_behind.ensures.found

pub returns-then-head-eq2-clause-nothing : goal.returns-then-head-eq2-clause-nothing
returns-then-head-eq2-clause-nothing c = λ none content rest s.
    let needs = string_needs 2 c.args.bytes.now c.args.at c.in-Some.head content rest c.in-Some.ensures.found s in
    omega (arith, needs.1, c.binary_behind.ensures.nothing none)
