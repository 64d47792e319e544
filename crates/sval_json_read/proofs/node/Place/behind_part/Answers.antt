use Rattle.std.proofs.Common.{◌≡◌, subst, arith}
use Rattle.sval_json_read.specs.SeenNodes.{node_place}
use Rattle.sval_json_read.specs.TextParts.{IsTextPiece}
use Rattle.sval_json_read.specs.TokenTexts.{comma_at}
use Rattle.sval_json_read.proofs.TextParts.{own_piece, pieces_joined}
use Rattle.sval_json_read.proofs.node.Place.behind_part.Goals as goal

pub returns-else-begin-from : goal.returns-else-begin-from
returns-else-begin-from c =
    let same : c.in-Some.begin ≡ c.args.from = omega arith in
    let comma = subst (λ place. IsTextPiece c.args.bytes.now c.args.at place (comma_at c.args.is_first (node_place c.args.self))) same c.in-Some.ensures in
    pieces_joined comma (own_piece c.args.bytes.now c.args.from c.args.to c.requires.order c.requires.within)
