use Rattle.std.proofs.lemmas.Bool.{eqb-true}
use Rattle.sval_script.proofs.AsciiLanes.{ascii_lanes}
use Rattle.sval_script.proofs.text.is_ascii_ahead.Goals as goal

pub returns : goal.returns
returns g c = λ none. ascii_lanes g.row.N c.args.bytes.now c.requires.long c.requires.few (eqb-true _ 0 none)
