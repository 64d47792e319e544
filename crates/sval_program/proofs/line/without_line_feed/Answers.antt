use Rattle.std.proofs.Common.{Bor, List, ℕ, lit<, ap, ◌∙◌}
use Rattle.std.proofs.lemmas.Str.Pattern.{strip_suffix_char}
use Rattle.sval_program.proofs.LineTexts.{stripped}
use Rattle.sval_program.proofs.line.without_line_feed.Goals as goal

pub returns : goal.returns
returns c =
    ap (λ (text : Bor (List ℕ)). text.now) c.unwrap_or.ensures
    ∙ stripped c.args.text c.strip_suffix.result (strip_suffix_char 10 c.args.text.now c.strip_suffix.result c.strip_suffix.ensures.cases (lit< tt))
