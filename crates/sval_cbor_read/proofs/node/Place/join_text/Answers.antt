use Rattle.std.specs.Prelude.{◌≤◌, ◌+◌, codes, take, refl}
use Rattle.std.specs.List.{AllPass}
use Rattle.std.proofs.Common.{ap, subst, arith}
use Rattle.std.proofs.lemmas.List.{take_rest}
use Rattle.sval_json.specs.Escape.{is_plain}
use Rattle.sval_cbor_read.specs.JoinedNodes.{quoted_in}
use Rattle.sval_cbor_read.proofs.JoinedNodes.{text_joined}
use Rattle.sval_cbor_read.proofs.node.Place.join_text.Goals as goal

pub returns-then-is_key : goal.returns-then-is_key
returns-then-is_key c =
    let h = c.args.head in
    let short : h.number ≤ c.plain_front.result = omega arith in
    let plain = subst (λ rest. AllPass is_plain (take c.plain_front.result rest)) (take_rest c.args.bytes.now h.next) c.plain_front.ensures.plain in
    text_joined c.args.self c.args.is_first c.args.bytes.now h.next h.number (h.next + h.number) c.plain_front.result c.args.joined.now c.join_comma.new.joined c.add.new.self c.add_part.new.self c.add-then-is_key.new.self (codes "\":")
    c.join_comma.ensures.joins c.add.ensures c.add_part.ensures c.add-then-is_key.ensures refl short plain (λ text. ap (λ p. quoted_in p text) (c.if-is_key.ensures.key refl))

pub returns-else-is_key : goal.returns-else-is_key
returns-else-is_key c =
    let h = c.args.head in
    let short : h.number ≤ c.plain_front.result = omega arith in
    let plain = subst (λ rest. AllPass is_plain (take c.plain_front.result rest)) (take_rest c.args.bytes.now h.next) c.plain_front.ensures.plain in
    text_joined c.args.self c.args.is_first c.args.bytes.now h.next h.number (h.next + h.number) c.plain_front.result c.args.joined.now c.join_comma.new.joined c.add.new.self c.add_part.new.self c.add-else-is_key.new.self (codes "\"")
    c.join_comma.ensures.joins c.add.ensures c.add_part.ensures c.add-else-is_key.ensures refl short plain (c.if-is_key.ensures.other refl)
