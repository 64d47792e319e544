use Rattle.std.proofs.Common.{rules}
use Rattle.sval_json.proofs.EscapedPieces.{escaped_whole}
use Rattle.sval_json.proofs.escape.is_all_plain.Goals as goal

pub returns : goal.returns
returns c = λ whole. escaped_whole c.args.bytes.now c.first_escape.result (search rules) c.first_escape.ensures.plain
