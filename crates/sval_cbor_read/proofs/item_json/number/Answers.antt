use Rattle.std.proofs.Common.{ap, ◌∙◌, ◌++◌, negsuc, rules}
use Rattle.std.specs.Fmt.{signed_decimal}
use Rattle.sval_cbor_read.specs.ItemJson.{text_of}
use Rattle.sval_cbor_read.proofs.ItemJson.{unsigned_at, negative_at}
use Rattle.sval_cbor_read.proofs.item_json.number.Goals as goal

pub returns-in-0-clause-written : goal.returns-in-0-clause-written
returns-in-0-clause-written c = unsigned_at c.args.head c.in-0.is (c.join.ensures.text ∙ ap (λ x. text_of c.args.out.now ++ x) (c.as_bytes.ensures.value ∙ c.format.ensures.text))

pub returns-in-1-clause-written : goal.returns-in-1-clause-written
returns-in-1-clause-written c = negative_at c.args.head c.in-1.is (c.join-in-1.ensures.text ∙ ap (λ x. text_of c.args.out.now ++ x) (c.as_bytes-in-1.ensures.value ∙ c.format-in-1.ensures.text ∙ ap signed_decimal {y = negsuc c.args.head.number} (search rules)))
