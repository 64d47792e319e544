use Rattle.std.proofs.Common.{true, sym, subst}
use Rattle.sval_relay.specs.Verdict.{Script}
use Rattle.sval_relay.specs.WrittenTrees.{StopsTree}
use Rattle.sval_relay.proofs.CanonTexts.{writes_script, stops_script}
use Rattle.sval_relay.proofs.trees.print_lines.Goals as goal

pub returns-in-Ok : goal.returns-in-Ok
returns-in-Ok g c = λ tree s p. writes_script tree p (c.in-Ok.ensures tree s p)

pub returns-in-Err : goal.returns-in-Err
returns-in-Err g c = λ tree s p.
    subst (λ why. StopsTree why true g.K.Sink.told Script tree c.args.out.now c.print_captured.new.out) (sym c.into.ensures)
    (stops_script g.K.Sink.told tree c.args.out.now c.print_captured.new.out c.in-Err.error (c.in-Err.ensures tree s p))
