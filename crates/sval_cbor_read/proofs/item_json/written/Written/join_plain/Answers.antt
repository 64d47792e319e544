use Rattle.std.proofs.Common.{arith, refl, ◌+◌}
use Rattle.std.proofs.lemmas.List.{take_rest}
use Rattle.sval_cbor_read.proofs.ItemJson.{plain_joined}
use Rattle.sval_cbor_read.proofs.item_json.written.Written.join_plain.Goals as goal

pub returns-clause-joins : goal.returns-clause-joins
returns-clause-joins c =
    let h = c.args.head in
    let j = plain_joined c.args.bytes.now _ h.next h.number (h.next + h.number) _ _ c.args.self.now.passed.bytes c.args.self.now.joined c.add_part.new.self (take_rest c.args.bytes.now h.next) refl (omega (arith, c.if-plain_front-count.false)) (omega (arith, c.if-ascii_front-count.false)) c.plain_front.ensures.plain c.ascii_front.ensures.ascii c.add_part.ensures in
    (omega (arith, c.if-head.false, c.if-bytes-head-lt-SHORT.false, c.requires.within), j.0, j.1)
