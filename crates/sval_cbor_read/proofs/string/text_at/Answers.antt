use Rattle.std.proofs.lemmas.Str.{IsUtf8-from_is_utf8, is_utf8-from_IsUtf8}
use Rattle.sval_cbor_read.proofs.ReadStrings.{some_map, string_stands, string_needs}
use Rattle.sval_cbor_read.proofs.string.text_at.Goals as goal

pub returns-then-head-eq3-clause-found : goal.returns-then-head-eq3-clause-found
returns-then-head-eq3-clause-found c =
    some_map c.text_behind.result (λ piece h. string_stands 3 c.args.bytes.now c.args.at c.in-Some.head piece.content.now piece.next c.in-Some.ensures.found c.if-head-eq3.true h.0 (is_utf8-from_IsUtf8 piece.content.now h.1)) c.text_behind.ensures.found

pub returns-then-head-eq3-clause-nothing : goal.returns-then-head-eq3-clause-nothing
returns-then-head-eq3-clause-nothing c = λ none content rest s.
    let needs = string_needs 3 c.args.bytes.now c.args.at c.in-Some.head content rest c.in-Some.ensures.found s in
    c.text_behind.ensures.nothing none needs.1 (IsUtf8-from_is_utf8 _ needs.2)
