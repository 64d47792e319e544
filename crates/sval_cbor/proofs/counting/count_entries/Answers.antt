use Rattle.std.proofs.Common.{ap, ◌∙◌}
use Rattle.sval_cbor.specs.Counting.{Counting, counting}
use Rattle.sval_cbor.specs.CounterLaw.{counter_view}
use Rattle.sval_cbor.proofs.CounterRan.{ran_counted}
use Rattle.sval_cbor.proofs.counting.count_entries.Goals as goal

pub returns-in-Ok-clause-ok : goal.returns-in-Ok-clause-ok
returns-in-Ok-clause-ok g c =
    let calls = (g.V.Value.emission c.args.v.now).calls in
    ap (λ (c : Counting). c.counts) (ran_counted calls (counter_view c.new-counter.result) (counter_view c.stream.new.stream) c.in-Ok.ensures.ran)
    ∙ ap (λ (start : Counting). (counting calls start).counts) c.new-counter.ensures
