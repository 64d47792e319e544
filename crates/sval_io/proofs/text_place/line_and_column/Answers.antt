use Rattle.std.proofs.Common.{ap, ◌∙◌, arith}
use Rattle.sval_io.specs.Counted.{counted}
use Rattle.sval_io.specs.TextPlaces.{line_feeds, behind_line_feed}
use Rattle.sval_io.proofs.TextPlaces.{none_counted, one_more, all_lines, all_columns}
use Rattle.sval_io.proofs.text_place.line_and_column.Goals as goal

pub loop-next-init : goal.loop-next-init
loop-next-init c = (omega arith, none_counted c.first_bytes-front.result.now)

pub loop-next-preserved : goal.loop-next-preserved
loop-next-preserved c =
    let l = c.loop-next in
    (omega arith, one_more c.first_bytes-front.result.now l.next l.lines l.columns c.after_byte-more_lines.result.0 c.after_byte-more_lines.result.1 c.loop-next-test.true l.invariant.1 c.after_byte-more_lines.ensures.lines c.after_byte-more_lines.ensures.columns)

pub returns-clause-line : goal.returns-clause-line
returns-clause-line c =
    let l = c.loop-next in
    c.saturating_add-line.ensures
    ∙ ap (counted 1) (all_lines c.first_bytes-front.result.now l.next l.lines l.columns l.invariant.1 c.loop-next-test.false ∙ ap line_feeds c.first_bytes-front.ensures)

pub returns-clause-column : goal.returns-clause-column
returns-clause-column c =
    let l = c.loop-next in
    c.saturating_add-column.ensures
    ∙ ap (counted 1) (all_columns c.first_bytes-front.result.now l.next l.lines l.columns l.invariant.1 c.loop-next-test.false ∙ ap (behind_line_feed 0) c.first_bytes-front.ensures)
