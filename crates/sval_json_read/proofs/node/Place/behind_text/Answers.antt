use Rattle.std.proofs.Common.{◌≡◌, ◌++◌, IfSome, subst, arith}
use Rattle.std.specs.List.{between}
use Rattle.sval_json.specs.Escape.{escaped, in_quotes}
use Rattle.sval_json_read.specs.SeenNodes.{node_place}
use Rattle.sval_json_read.specs.SeenValues.{text_in}
use Rattle.sval_json_read.specs.TextParts.{IsTextPiece}
use Rattle.sval_json_read.specs.TokenTexts.{colon_behind}
use Rattle.sval_json_read.proofs.TextParts.{joined_if, ready_string}
use Rattle.sval_json_read.proofs.node.Place.behind_text.Goals as goal

pub returns-in-Some : goal.returns-in-Some
returns-in-Some c =
    let colon = colon_behind (node_place c.args.self) in
    let text = c.args.bytes.now in
    let at = c.args.at in
    let found = c.behind_colon.result in
    let raw = between c.args.from c.args.to text in
    let same : raw ≡ escaped (text_in raw) = ready_string c.requires.ready c.requires.order (omega arith) c.requires.raw (omega arith) (λ l. c.in-Some.ensures.quote) in
    subst (λ row. IfSome found (λ upto. IsTextPiece text at upto (in_quotes row ++ colon))) same
    (joined_if colon found c.in-Some.ensures.piece c.behind_colon.ensures)
