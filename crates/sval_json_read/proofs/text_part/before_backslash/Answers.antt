use Rattle.std.proofs.Common.{length}
use Rattle.sval_json_read.proofs.BackslashLanes.{lowest_within, lowest_before, lowest_found}
use Rattle.sval_json_read.proofs.StringCuts.{no_backslashes}
use Rattle.sval_json_read.proofs.text_part.before_backslash.Goals as goal

pub returns-then-backslashes-ne0-clause-within : goal.returns-then-backslashes-ne0-clause-within
returns-then-backslashes-ne0-clause-within c = lowest_within c.args.bytes.now c.backslashes_ahead-backslashes.result c.if-bytes-ge-LANES.true c.backslashes_ahead-backslashes.ensures c.if-backslashes-ne0.true

pub returns-then-backslashes-ne0-clause-before : goal.returns-then-backslashes-ne0-clause-before
returns-then-backslashes-ne0-clause-before c = lowest_before c.args.bytes.now c.backslashes_ahead-backslashes.result c.if-bytes-ge-LANES.true c.backslashes_ahead-backslashes.ensures c.if-backslashes-ne0.true

pub returns-then-backslashes-ne0-clause-found : goal.returns-then-backslashes-ne0-clause-found
returns-then-backslashes-ne0-clause-found c = λ l. lowest_found c.args.bytes.now c.backslashes_ahead-backslashes.result c.if-bytes-ge-LANES.true c.backslashes_ahead-backslashes.ensures c.if-backslashes-ne0.true

pub returns-in-Some-clause-before : goal.returns-in-Some-clause-before
returns-in-Some-clause-before c = no_backslashes c.args.bytes.now c.in-Some.place c.in-Some.ensures.0.before

pub returns-in-None-clause-before : goal.returns-in-None-clause-before
returns-in-None-clause-before c = no_backslashes c.args.bytes.now (length c.args.bytes.now) c.in-None.ensures
