use Rattle.std.specs.Map.Iter.{deref_pair, TakesFirst}
use Rattle.std.proofs.Common.{subst}
use Rattle.std.proofs.lemmas.Iterator.{YieldsList}
use Rattle.std.proofs.lemmas.Iterator.Consumers.{YieldsList-from_rest, YieldsList-end}
use Rattle.sval_core.specs.OneValue.{EachEntryIsWhole}
use Rattle.sval_core.proofs.SurelyWhole.{one_more_entry}
use Rattle.sval_core.proofs.values.maps.are_entries_whole.Goals as goal

pub loop-key-preserved : goal.loop-key-preserved
loop-key-preserved g c =
    one_more_entry g.K.Value.emission g.V.Value.emission deref_pair c.loop-key.yielded (c.in-Some.key, c.in-Some.value) c.loop-key.invariant
    (c.is_surely_whole.ensures c.if-not-is_surely_whole.false, c.is_surely_whole-else-not-is_surely_whole.ensures c.if-not-is_surely_whole-2.false)

pub returns : goal.returns
returns g c = λ is.
    let list : YieldsList (TakesFirst deref_pair) deref_pair c.into_iter-key-iterator.result c.args.map.now.entries = YieldsList-from_rest c.args.map.now.entries c.into_iter-key-iterator.ensures.into_iter_gives.0 in
    let all = YieldsList-end list c.loop-key.yielded c.loop-key.key-iterator c.loop-key.yielded_by c.next.result c.next.new.self c.in-None.is c.next.ensures.steps in
    subst (EachEntryIsWhole g.K.Value.emission g.V.Value.emission) all.0 c.loop-key.invariant
