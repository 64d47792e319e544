use Rattle.sval_json_read.proofs.Lanes.{digit_mask}
use Rattle.sval_json_read.proofs.reader.lanes.others_than_digits.Goals as goal

pub returns : goal.returns
returns c = digit_mask c.args.bytes.now c.requires
