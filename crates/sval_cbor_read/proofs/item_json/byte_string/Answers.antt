use Rattle.std.proofs.Common.{◌≡◌, ◌++◌, ◌≤◌, arith, codes, length, subst}
use Rattle.sval_cbor_read.specs.ItemJson.{text_of}
use Rattle.sval_cbor_read.proofs.ItemJson.{bytes_done, bytes_body}
use Rattle.sval_cbor_read.proofs.item_json.byte_string.Goals as goal

pub returns : goal.returns
returns c =
    let content = c.in_ok-piece.piece.content.now in
    let past : length content ≤ c.loop-index.index = omega (arith, c.loop-index-test.false) in
    let all = bytes_done content c.loop-index.index (text_of c.loop-index.out) _ past c.loop-index.invariant in
    bytes_body c.args.bytes.now content c.args.head c.in_ok-piece.piece.next c.requires.is c.requires.within c.in_ok-piece.ensures.found c.join.ensures.text all
    (subst (λ now. text_of c.join-2.new.self ≡ now ++ codes "]") c.in_ok-make_room-2.ensures.same c.join-2.ensures.text)
