use Rattle.sval_json_read.proofs.Lanes.{space_mask}
use Rattle.sval_json_read.proofs.reader.lanes.others_than_spaces.Goals as goal

pub returns : goal.returns
returns c = space_mask c.args.bytes.now c.requires
