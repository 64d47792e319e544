use Rattle.std.specs.Prelude.{None}
use Rattle.std.proofs.Common.{sym, subst}
use Rattle.sval_c.specs.Due.{CompactDue}
use Rattle.sval_c.proofs.Texts.{unlaid, lays_out}
use Rattle.sval_c.proofs.from_json.to_pretty.Goals as goal

pub returns-in-Ok : goal.returns-in-Ok
returns-in-Ok c =
    let due = subst (CompactDue c.args.input.now None) (sym c.as_slice.ensures.value) c.in-Ok.ensures in
    lays_out c.args.input.now c.as_slice.result.now c.laid_out.result (λ bytes. bytes.items) due c.laid_out.ensures.laid c.laid_out.ensures.want

pub returns-in-Err : goal.returns-in-Err
returns-in-Err c = unlaid c.args.input.now c.in-Err.lack c.in-Err.ensures
