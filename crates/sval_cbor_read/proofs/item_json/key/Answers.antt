use Rattle.std.proofs.Common.{subst, ◌++◌}
use Rattle.sval_json.specs.Json.{comma}
use Rattle.sval_cbor_read.specs.ItemJson.{text_of, KeyAt}
use Rattle.sval_cbor_read.proofs.ReadStrings.{some_map}
use Rattle.sval_cbor_read.proofs.ItemJson.{key_by_head}
use Rattle.sval_cbor_read.proofs.item_json.key.Goals as goal

pub returns : goal.returns
returns c =
    some_map c.key_body.result
    (λ next b.
    let k = key_by_head c.args.bytes.now c.args.at c.in_ok-head.head next c.in_ok-head.ensures b in
    subst (λ old. KeyAt c.args.bytes.now c.args.at next (old ++ comma c.args.is_first) (text_of c.key_body.new.out)) c.in_ok-make_room.ensures.same k)
    c.key_body.ensures
