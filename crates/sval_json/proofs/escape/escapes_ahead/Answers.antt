use Rattle.sval_json.proofs.EscapeLanes.{escape_mask}
use Rattle.sval_json.proofs.escape.escapes_ahead.Goals as goal

pub returns : goal.returns
returns g c = escape_mask g.row.N c.args.bytes.now c.requires.long c.requires.few
