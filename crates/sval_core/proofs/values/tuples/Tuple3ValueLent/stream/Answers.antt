use Rattle.std.specs.Prelude.{[], ◌∷◌}
use Rattle.sval_core.proofs.values.tuples.Tuple3ValueLent.stream.Goals as goal

pub returns : goal.returns
returns g c =
    let fields = g.A.Value.emission c.args.self.now.0 ∷ g.B.Value.emission c.args.self.now.1 ∷ g.C.Value.emission c.args.self.now.2 ∷ [] in
    c.end.ensures _ fields (c.field-3.ensures _ _ (c.field-2.ensures _ _ (c.field.ensures _ _ c.begin.ensures)))
