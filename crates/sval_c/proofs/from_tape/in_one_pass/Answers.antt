use Rattle.std.specs.Prelude.{None}
use Rattle.std.proofs.Common.{ap, sym, subst}
use Rattle.std.proofs.lemmas.Bool.{OnTrue_at}
use Rattle.sval_io.specs.Taken.{Taken}
use Rattle.sval_c.specs.OfTapes.{CompactOfTape}
use Rattle.sval_c.proofs.TapeTexts.{at_once}
use Rattle.sval_c.proofs.from_tape.in_one_pass.Goals as goal

pub returns-then-write_tape : goal.returns-then-write_tape
returns-then-write_tape c =
    let empty = ap (λ (sink : Taken). sink.bytes) c.in-Ok.ensures in
    subst (CompactOfTape c.args.tape.now None) (sym c.into_vec.ensures)
    (at_once c.args.tape.now c.in-Ok.sink c.write_tape.new.out empty (OnTrue_at c.if-write_tape.true c.write_tape.ensures))
