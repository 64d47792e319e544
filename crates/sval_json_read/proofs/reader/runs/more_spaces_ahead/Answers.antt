use Rattle.sval_json.specs.Grammar.{is_space}
use Rattle.sval_json_read.proofs.Lanes.{lowest_within, lowest_passes}
use Rattle.sval_json_read.proofs.reader.runs.more_spaces_ahead.Goals as goal

pub returns-then-others-ne0-clause-within : goal.returns-then-others-ne0-clause-within
returns-then-others-ne0-clause-within c = lowest_within is_space c.args.bytes.now c.others_than_spaces-others.result c.if-bytes-ge-LANES.true c.others_than_spaces-others.ensures c.if-others-ne0.true

pub returns-then-others-ne0-clause-spaces : goal.returns-then-others-ne0-clause-spaces
returns-then-others-ne0-clause-spaces c = lowest_passes is_space c.args.bytes.now c.others_than_spaces-others.result c.if-bytes-ge-LANES.true c.others_than_spaces-others.ensures c.if-others-ne0.true
