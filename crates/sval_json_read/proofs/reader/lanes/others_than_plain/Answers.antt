use Rattle.sval_json_read.proofs.Lanes.{plain_mask}
use Rattle.sval_json_read.proofs.reader.lanes.others_than_plain.Goals as goal

pub returns : goal.returns
returns c = plain_mask c.args.bytes.now c.requires
