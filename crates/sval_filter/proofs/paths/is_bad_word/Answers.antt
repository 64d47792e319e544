use Rattle.std.proofs.Common.{◌≡◌, ◌==◌, true, false, length, lit<}
use Rattle.std.proofs.lemmas.Iterator.{cases_from_any}
use Rattle.std.proofs.lemmas.Iterator.Splits.{YieldsList-from_str_split}
use borrow.Author.Tests.{tests}
use Rattle.std.proofs.Common.{rules}
use Rattle.sval_filter.specs.Paths.{labels_of}
use Rattle.sval_filter.proofs.PathTexts.{some_empty}
use Rattle.sval_filter.proofs.paths.is_bad_word.Goals as goal

pub returns : goal.returns
returns c =
    some_empty c.any.result (labels_of c.args.word.now)
    (cases_from_any _ _ _ (λ piece. true ≡ (length piece == 0)) (λ piece. false ≡ (length piece == 0)) c.any.ensures.ran
    (YieldsList-from_str_split 46 c.args.word.now (lit< tt) c.split.ensures.text c.split.ensures.has_more c.split.ensures.pattern)
    (λ x q k. search (rules, tests)) (λ x q k. search (rules, tests)))
