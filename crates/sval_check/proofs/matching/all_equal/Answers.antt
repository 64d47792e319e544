use Rattle.std.proofs.Common.{rules, arith}
use Rattle.sval_check.proofs.TokensEqual.{tokens_decide}
use Rattle.sval_check.proofs.TokensMatch.{one_more, all_same, same_place, never, denied}
use Rattle.sval_check.proofs.matching.all_equal.Goals as goal

pub returns-then-ne : goal.returns-then-ne
returns-then-ne c =
    let place = same_place c.args.tokens.now c.args.expected.now c.loop-index.index c.index-tokens-index.result c.index-expected-index.result
    (omega arith) (omega arith) c.index-tokens-index.is c.index-expected-index.is in
    let decides = tokens_decide c.index-tokens-index.result c.index-expected-index.result in
    never (λ same. denied _ decides (search rules) (place same))

pub loop-index-preserved : goal.loop-index-preserved
loop-index-preserved c =
    let decides = tokens_decide c.index-tokens-index.result c.index-expected-index.result in
    one_more c.args.tokens.now c.args.expected.now c.loop-index.index c.index-tokens-index.result c.index-expected-index.result
    (omega arith) (omega arith) c.index-tokens-index.is c.index-expected-index.is (decides.0 (search rules)) c.loop-index.invariant

pub returns : goal.returns
returns c = (λ yes. all_same c.args.tokens.now c.args.expected.now (omega arith) (search rules), λ same. search rules)
