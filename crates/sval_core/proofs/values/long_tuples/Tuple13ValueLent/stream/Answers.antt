use Rattle.std.specs.Prelude.{[], ◌∷◌}
use Rattle.sval_core.proofs.values.long_tuples.Tuple13ValueLent.stream.Goals as goal

pub returns : goal.returns
returns g c =
    let fields = g.A.Value.emission c.args.self.now.0 ∷ g.B.Value.emission c.args.self.now.1.0 ∷ g.C.Value.emission c.args.self.now.1.1.0 ∷
    g.D.Value.emission c.args.self.now.1.1.1.0 ∷ g.E.Value.emission c.args.self.now.1.1.1.1.0 ∷ g.F.Value.emission c.args.self.now.1.1.1.1.1.0 ∷
    g.G.Value.emission c.args.self.now.1.1.1.1.1.1.0 ∷ g.H.Value.emission c.args.self.now.1.1.1.1.1.1.1.0 ∷ g.I.Value.emission c.args.self.now.1.1.1.1.1.1.1.1.0 ∷
    g.J.Value.emission c.args.self.now.1.1.1.1.1.1.1.1.1.0 ∷ g.K.Value.emission c.args.self.now.1.1.1.1.1.1.1.1.1.1.0 ∷ g.L.Value.emission c.args.self.now.1.1.1.1.1.1.1.1.1.1.1.0 ∷
    g.M.Value.emission c.args.self.now.1.1.1.1.1.1.1.1.1.1.1.1.0 ∷ [] in
    c.end.ensures _ fields (c.field-13.ensures _ _ (c.field-12.ensures _ _ (c.field-11.ensures _ _
    (c.field-10.ensures _ _ (c.field-9.ensures _ _ (c.field-8.ensures _ _ (c.field-7.ensures _ _
    (c.field-6.ensures _ _ (c.field-5.ensures _ _ (c.field-4.ensures _ _ (c.field-3.ensures _ _
    (c.field-2.ensures _ _ (c.field.ensures _ _ c.begin.ensures)))))))))))))
