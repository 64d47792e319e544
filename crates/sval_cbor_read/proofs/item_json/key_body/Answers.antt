use Rattle.std.proofs.Common.{ap, ◌∙◌, ◌++◌}
use Rattle.sval_json.specs.Json.{comma}
use Rattle.sval_cbor_read.specs.ItemJson.{text_of}
use Rattle.sval_cbor_read.proofs.ReadStrings.{some_map}
use Rattle.sval_cbor_read.proofs.ItemJson.{text_key, number_key}
use Rattle.sval_cbor_read.proofs.item_json.key_body.Goals as goal

pub returns-then-head-eq3 : goal.returns-then-head-eq3
returns-then-head-eq3 c = some_map c.text.result (λ next t. text_key c.args.bytes.now c.args.head next c.if-head-eq3.true c.requires.within t) c.text.ensures

pub returns : goal.returns
returns c =
    number_key c.args.bytes.now c.args.head (text_of c.args.out.now) (comma c.args.is_first) c.requires.within (c.join.ensures.text ∙ ap (λ x. text_of c.args.out.now ++ x) c.opening_quote.ensures.same) c.in_ok-number.ensures.written c.join-2.ensures.text
