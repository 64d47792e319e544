use Rattle.std.proofs.Common.{refl}
use Rattle.std.proofs.lemmas.Result.{err_from_is_err_and}
use Rattle.sval_tool.proofs.InputsConverted.{lines_unread, lines_done, lines_stopped, cause_of_lines}
use Rattle.sval_tool.proofs.inputs.convert_lines.Goals as goal

pub returns-in_err-lines-clause-text : goal.returns-in_err-lines-clause-text
returns-in_err-lines-clause-text g c =
    let p = err_from_is_err_and c.from_residual.result c.from_residual.ensures.1 in
    rw (p.1, p.2) (lines_unread g.K.Sink.told c.args.conversion.now (g.I.Source.told c.args.source).left _ c.args.out.now)

pub returns-in_err-lines-clause-err : goal.returns-in_err-lines-clause-err
returns-in_err-lines-clause-err g c =
    let p = err_from_is_err_and c.from_residual.result c.from_residual.ensures.1 in
    rw (p.1, p.2) (record { last = c.args.source; cause = (0, refl) })

pub returns-in-Ok-clause-text : goal.returns-in-Ok-clause-text
returns-in-Ok-clause-text g c =
    lines_done g.K.Sink.told c.args.conversion.now _ _ _ c.args.out.now c.write_lines.new.out c.in_ok-lines.ensures.left c.in-Ok.ensures.lines

pub returns-in-Err-clause-text : goal.returns-in-Err-clause-text
returns-in-Err-clause-text g c =
    rw (c.of_lines.ensures, c.into_line.ensures) (lines_stopped g.K.Sink.told c.args.conversion.now _ _ _ _ _ c.in-Err.why c.args.out.now c.write_lines.new.out c.in_ok-lines.ensures.left c.in_ok-lines.ensures.number c.in-Err.ensures.lines)

pub returns-in-Err-clause-err : goal.returns-in-Err-clause-err
returns-in-Err-clause-err g c =
    rw c.of_lines.ensures (record { last = c.write_lines.new.lines.source; cause = cause_of_lines c.in-Err.why _ _ _ _ c.in_ok-lines.ensures.source c.in-Err.ensures.err })
