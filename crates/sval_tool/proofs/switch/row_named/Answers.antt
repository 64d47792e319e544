use Rattle.std.proofs.Common.{sym, ◌∙◌, arith}
use Rattle.sval_tool.proofs.Rows.{rows_counted, named_found, named_none}
use Rattle.sval_tool.proofs.switch.row_named.Goals as goal

pub returns-then-eq : goal.returns-then-eq
returns-then-eq c =
    let count = rows_counted c.rows-table.result.now c.rows-table.ensures in
    sym (named_found c.rows-table.result.now c.loop-row.row-index _ c.args.name.now (omega arith) c.if-eq.ensures) ∙ c.loop-row.invariant

pub returns : goal.returns
returns c =
    let count = rows_counted c.rows-table.result.now c.rows-table.ensures in
    sym (named_none c.rows-table.result.now c.loop-row.row-index c.args.name.now (omega arith)) ∙ c.loop-row.invariant
