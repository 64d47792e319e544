use Rattle.std.proofs.Common.{subst}
use Rattle.sval_core.specs.OneValue.{EachIsOneValue}
use Rattle.sval_core.specs.Values.{array_emission}
use Rattle.sval_core.proofs.SurelyWhole.{array_is_whole}
use Rattle.sval_core.proofs.values.arrays.ArrayValueLent.stream.Goals as goal

pub returns-then-skip_items : goal.returns-then-skip_items
returns-then-skip_items g c =
    let whole = subst (EachIsOneValue g.T.Value.emission) c.as_slice.ensures (c.skip_items.ensures.whole c.if-skip_items.true) in
    c.skip_items.ensures.skipped c.if-skip_items.true (array_emission g.T.Value.emission c.args.self.now) (array_is_whole g.T.Value.emission c.args.self.now whole)
