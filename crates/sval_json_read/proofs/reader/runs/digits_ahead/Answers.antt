use Rattle.std.specs.Char.{is_ascii_digit}
use Rattle.sval_json_read.proofs.Lanes.{lowest_within, lowest_passes}
use Rattle.sval_json_read.proofs.reader.runs.digits_ahead.Goals as goal

pub returns-then-others-ne0-clause-within : goal.returns-then-others-ne0-clause-within
returns-then-others-ne0-clause-within c = lowest_within is_ascii_digit c.args.bytes.now c.others_than_digits-others.result c.if-bytes-ge-LANES.true c.others_than_digits-others.ensures c.if-others-ne0.true

pub returns-then-others-ne0-clause-digits : goal.returns-then-others-ne0-clause-digits
returns-then-others-ne0-clause-digits c = lowest_passes is_ascii_digit c.args.bytes.now c.others_than_digits-others.result c.if-bytes-ge-LANES.true c.others_than_digits-others.ensures c.if-others-ne0.true
