use Rattle.std.proofs.Common.{sym, ◌∙◌}
use Rattle.std.proofs.lemmas.Iterator.Consumers.{YieldsList-from_deque}
use Rattle.sval_core.proofs.values.collections.VecDequeValueLent.stream.Goals as goal

pub returns : goal.returns
returns g c =
    let list = YieldsList-from_deque c.args.self.now.items c.iter.ensures.rest in
    c.stream_items.ensures c.args.self.now.items list.runs (sym (c.len.ensures ∙ c.args.self.now.ok.0))
