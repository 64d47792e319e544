use Rattle.std.specs.Map.Iter.{deref}
use Rattle.std.proofs.Common.{sym}
use Rattle.std.proofs.lemmas.Iterator.Consumers.{YieldsList-from_rest}
use Rattle.sval_core.proofs.values.collections.BTreeSetValueLent.stream.Goals as goal

pub returns : goal.returns
returns g c =
    let list = YieldsList-from_rest {shows = deref {X = g.row.T.Denot}} c.args.self.now.keys c.iter.ensures.rest in
    c.stream_items.ensures c.args.self.now.keys list.runs (sym c.len.ensures.len)
