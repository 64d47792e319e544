use Rattle.sval_json.specs.Escape.{is_plain}
use Rattle.sval_json_read.proofs.Lanes.{lowest_within, lowest_passes}
use Rattle.sval_json_read.proofs.reader.runs.plain_ahead.Goals as goal

pub returns-then-others-ne0-clause-within : goal.returns-then-others-ne0-clause-within
returns-then-others-ne0-clause-within c = lowest_within is_plain c.args.bytes.now c.others_than_plain-others.result c.if-bytes-ge-LANES.true c.others_than_plain-others.ensures c.if-others-ne0.true

pub returns-then-others-ne0-clause-plain : goal.returns-then-others-ne0-clause-plain
returns-then-others-ne0-clause-plain c = lowest_passes is_plain c.args.bytes.now c.others_than_plain-others.result c.if-bytes-ge-LANES.true c.others_than_plain-others.ensures c.if-others-ne0.true
