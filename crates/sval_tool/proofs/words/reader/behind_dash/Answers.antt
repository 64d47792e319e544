use Rattle.std.proofs.Common.{lit<}
use Rattle.std.proofs.lemmas.Str.Pattern.{strip_prefix_char}
use Rattle.sval_tool.proofs.Dashes.{dash_stripped}
use Rattle.sval_tool.proofs.words.reader.behind_dash.Goals as goal

pub returns : goal.returns
returns c =
    let word = c.args.word.now in
    dash_stripped word c.strip_prefix.result (strip_prefix_char 45 word c.strip_prefix.result c.strip_prefix.ensures.cases (lit< tt))
