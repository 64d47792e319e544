use Rattle.std.proofs.lemmas.Bool.{OnTrue_from}
use Rattle.sval_c.proofs.TapeAtOnce.{whole_passed}
use Rattle.sval_c.proofs.from_tape.stream_checked.Goals as goal

pub returns-in-Ok-Ok : goal.returns-in-Ok-Ok
returns-in-Ok-Ok g c = OnTrue_from c.is_whole-whole.result _ (λ whole.
    whole_passed g.S.Stream.law g.S.Stream.standing c.args.tape.now c.new-checked.result c.stream_tape.new.stream c.args.stream c.into_inner.result c.new-checked.ensures.inner c.into_inner.ensures c.new-checked.ensures.stands_for
    (rw c.in-Ok-Ok.field-0-is at c.in-Ok-Ok.ensures) (λ calls stands. (c.is_whole-whole.ensures calls stands).0 whole))
