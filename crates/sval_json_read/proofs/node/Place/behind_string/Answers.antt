use Rattle.std.proofs.Common.{◌++◌}
use Rattle.std.specs.List.{between}
use Rattle.sval_json.specs.Escape.{escaped, in_quotes}
use Rattle.sval_json_read.specs.SeenNodes.{node_place}
use Rattle.sval_json_read.specs.SeenValues.{text_in}
use Rattle.sval_json_read.specs.TokenTexts.{colon_behind}
use Rattle.sval_json_read.proofs.TextParts.{joined_if}
use Rattle.sval_json_read.proofs.node.Place.behind_string.Goals as goal

pub returns-in-Some : goal.returns-in-Some
returns-in-Some c =
    let token = in_quotes (escaped (text_in (between c.args.from c.args.to c.args.bytes.now))) ++ colon_behind (node_place c.args.self) in
    joined_if token c.behind_text.result c.in-Some.ensures c.behind_text.ensures
