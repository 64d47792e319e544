use Rattle.std.specs.Prelude.{Some}
use Rattle.sval_core.specs.Values.{option_emission}
use Rattle.sval_core.proofs.SurelyWhole.{some_is_whole}
use Rattle.sval_core.proofs.values.options.OptionValueLent.stream.Goals as goal

pub returns-then-skip_around : goal.returns-then-skip_around
returns-then-skip_around g c =
    rw c.in-Some.is
    (c.skip_around.ensures.skipped c.if-skip_around.true (option_emission g.T.Value.emission (Some c.in-Some.value)) (some_is_whole g.T.Value.emission c.in-Some.value (c.skip_around.ensures.whole c.if-skip_around.true)))
