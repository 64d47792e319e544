use Rattle.std.specs.Int.{trailing_zeros}
use Rattle.std.specs.List.{AllPass}
use Rattle.std.proofs.Common.{◌≤◌, length, take, subst, w64}
use Rattle.std.proofs.lemmas.Bool.{eqb-true}
use Rattle.sval_json.specs.Grammar.{is_space}
use Rattle.sval_json_read.proofs.Lanes.{lowest_within, lowest_passes}
use Rattle.sval_json_read.proofs.reader.runs.has_spaces.Goals as goal

pub returns-then-others-ne0-clause-within : goal.returns-then-others-ne0-clause-within
returns-then-others-ne0-clause-within c = λ same.
    subst (λ n. n ≤ length c.args.bytes.now) (eqb-true (trailing_zeros w64 c.others_than_spaces-others.result) c.args.count same)
    (lowest_within is_space c.args.bytes.now c.others_than_spaces-others.result c.if-bytes-lt-LANES.false c.others_than_spaces-others.ensures c.if-others-ne0.true)

pub returns-then-others-ne0-clause-spaces : goal.returns-then-others-ne0-clause-spaces
returns-then-others-ne0-clause-spaces c = λ same.
    subst (λ n. AllPass is_space (take n c.args.bytes.now)) (eqb-true (trailing_zeros w64 c.others_than_spaces-others.result) c.args.count same)
    (lowest_passes is_space c.args.bytes.now c.others_than_spaces-others.result c.if-bytes-lt-LANES.false c.others_than_spaces-others.ensures c.if-others-ne0.true)
