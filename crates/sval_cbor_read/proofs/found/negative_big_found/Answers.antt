use Rattle.std.proofs.Common.{drop}
use Rattle.sval_cbor_read.specs.SeenNodes.{byte_string}
use Rattle.sval_cbor_read.proofs.CborFound.{negative_found}
use Rattle.sval_cbor_read.proofs.found.negative_big_found.Goals as goal

pub returns : goal.returns
returns c = negative_found (byte_string (drop c.args.at c.args.bytes.now)) c.negative_big_at.result c.negative_big_at.ensures.value
