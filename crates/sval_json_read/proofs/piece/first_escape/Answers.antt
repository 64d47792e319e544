use Rattle.sval_json_read.proofs.StringCuts.{decoded_piece, behind_decoded}
use Rattle.sval_json_read.proofs.piece.first_escape.Goals as goal

pub range_from-requires : goal.range_from-requires
range_from-requires c = λ some.
    (behind_decoded c.args.raw.now c.as_bytes.result.now c.requires.some c.requires.backslash c.as_bytes.ensures.value
    c.unescape-character.result.character c.unescape-character.result.follow c.unescape-character.ensures.stands_for c.unescape-character.ensures.follow c.utf8.raw c.requires.is_raw).boundary

pub returns-clause-pieces : goal.returns-clause-pieces
returns-clause-pieces c =
    rw c.range_from.ensures.value
    (decoded_piece c.args.raw.now c.as_bytes.result.now c.requires.some c.requires.backslash c.as_bytes.ensures.value
    c.unescape-character.result.character c.unescape-character.result.follow c.unescape-character.ensures.stands_for c.unescape-character.ensures.follow)

pub returns-clause-is_raw : goal.returns-clause-is_raw
returns-clause-is_raw c =
    rw c.range_from.ensures.value
    (behind_decoded c.args.raw.now c.as_bytes.result.now c.requires.some c.requires.backslash c.as_bytes.ensures.value
    c.unescape-character.result.character c.unescape-character.result.follow c.unescape-character.ensures.stands_for c.unescape-character.ensures.follow c.utf8.raw c.requires.is_raw).is_raw
