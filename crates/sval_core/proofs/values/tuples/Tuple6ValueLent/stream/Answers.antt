use Rattle.std.specs.Prelude.{[], ◌∷◌}
use Rattle.sval_core.proofs.values.tuples.Tuple6ValueLent.stream.Goals as goal

pub returns : goal.returns
returns g c =
    let fields = g.A.Value.emission c.args.self.now.0 ∷ g.B.Value.emission c.args.self.now.1 ∷ g.C.Value.emission c.args.self.now.2 ∷
    g.D.Value.emission c.args.self.now.3 ∷ g.E.Value.emission c.args.self.now.4 ∷ g.F.Value.emission c.args.self.now.5 ∷ [] in
    c.end.ensures _ fields (c.field-6.ensures _ _ (c.field-5.ensures _ _ (c.field-4.ensures _ _
    (c.field-3.ensures _ _ (c.field-2.ensures _ _ (c.field.ensures _ _ c.begin.ensures))))))
