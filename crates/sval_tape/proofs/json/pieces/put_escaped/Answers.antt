use Rattle.std.proofs.Common.{rules, sym, ap, ◌∙◌, ◌++◌}
use Rattle.sval_json.proofs.EscapedPieces.{escaped_whole}
use Rattle.sval_tape.proofs.JsonFront.{if_there}
use Rattle.sval_tape.proofs.json.pieces.put_escaped.Goals as goal

pub returns-then-first_escape-text : goal.returns-then-first_escape-text
returns-then-first_escape-text c =
    let plain = escaped_whole c.args.text.now c.first_escape.result (search rules) c.first_escape.ensures.plain in
    if_there c.put.result (λ done put. put ∙ ap (λ x. c.args.out.now.bytes ++ x) (sym plain)) c.put.ensures
