use Rattle.sval_tool.proofs.Rows.{name_by_table}
use Rattle.sval_tool.proofs.switch.name_of.Goals as goal

pub returns : goal.returns
returns c = name_by_table c.rows.result.now c.place_of.result _ _ _ c.rows.ensures c.place_of.ensures.place
