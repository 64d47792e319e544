use Rattle.std.proofs.Common.{drop}
use Rattle.sval_cbor_read.specs.SeenNodes.{byte_string}
use Rattle.sval_cbor_read.proofs.CborFound.{unsigned_found}
use Rattle.sval_cbor_read.proofs.found.big_found.Goals as goal

pub returns : goal.returns
returns c = unsigned_found (byte_string (drop c.args.at c.args.bytes.now)) c.big_at.result c.big_at.ensures
