use Rattle.std.specs.Prelude.{None}
use Rattle.std.proofs.Common.{sym, subst}
use Rattle.sval_c.specs.OfTapes.{CompactOfTape}
use Rattle.sval_c.proofs.TapeTexts.{unlaid, lays_out}
use Rattle.sval_c.proofs.from_tape.pretty.Goals as goal

pub returns-in-Ok : goal.returns-in-Ok
returns-in-Ok c =
    let due = subst (CompactOfTape c.args.tape.now None) (sym c.as_slice.ensures.value) c.in-Ok.ensures in
    lays_out c.args.tape.now c.as_slice.result.now c.laid_out.result (λ bytes. bytes.items) due c.laid_out.ensures.laid c.laid_out.ensures.want

pub returns-in-Err : goal.returns-in-Err
returns-in-Err c = unlaid c.args.tape.now c.in-Err.lack c.in-Err.ensures
