use Rattle.sval_json_read.proofs.BackslashLanes.{backslash_mask}
use Rattle.sval_json_read.proofs.text_part.backslashes_ahead.Goals as goal

pub returns : goal.returns
returns c = backslash_mask c.args.bytes.now c.requires
