use Rattle.std.specs.Prelude.{◌≡◌, false, length, ◌==◌}
use Rattle.std.proofs.Common.{rules, tests, ◌∙◌}
use Rattle.std.proofs.lemmas.Iterator.{YieldsList-from_slice}
use Rattle.std.proofs.lemmas.Iterator.Search.{all_from_yields_List}
use Rattle.logfmt.specs.Pairs.{is_key_byte}
use Rattle.logfmt.proofs.Nonempty.{filled_key}
use Rattle.logfmt.proofs.writer.is_key.Goals as goal

pub returns-then-not-is_empty : goal.returns-then-not-is_empty
returns-then-not-is_empty c =
    let filled : (length c.args.text.now == 0) ≡ false = search rules in
    let all = all_from_yields_List is_key_byte _ _ c.all.result c.all.ensures.ran (YieldsList-from_slice c.args.text.now cc) (λ x b q k. search (rules, tests)) in
    all ∙ filled_key c.args.text.now filled
