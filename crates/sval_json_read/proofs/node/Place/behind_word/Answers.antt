use Rattle.sval_json_read.proofs.TextParts.{pieces_joined, piece_by_test}
use Rattle.sval_json_read.proofs.node.Place.behind_word.Goals as goal

pub returns-then-starts_with : goal.returns-then-starts_with
returns-then-starts_with c =
    pieces_joined c.in-Some.ensures
    (piece_by_test c.args.bytes.now c.args.word.now c.in-Some.begin c.in-Some.ensures.within c.if-starts_with.ensures.value)
