use Rattle.std.specs.Prelude.{[], ◌∷◌}
use Rattle.sval_core.proofs.values.tuples.Tuple1ValueLent.stream.Goals as goal

pub returns : goal.returns
returns g c =
    let fields = g.A.Value.emission c.args.self.now.0 ∷ [] in
    c.end.ensures _ fields (c.field.ensures _ _ c.begin.ensures)
