use Rattle.sval_core.specs.Values.{seq_emission}
use Rattle.sval_core.proofs.SurelyWhole.{seq_is_whole}
use Rattle.sval_core.proofs.values.sequences.stream_seq.Goals as goal

pub returns-then-skip_items : goal.returns-then-skip_items
returns-then-skip_items g c =
    let whole = c.skip_items.ensures.whole c.if-skip_items.true in
    c.skip_items.ensures.skipped c.if-skip_items.true (seq_emission g.T.Value.emission c.args.items.now) (seq_is_whole g.T.Value.emission c.args.items.now whole)
