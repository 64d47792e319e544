use Rattle.std.proofs.Common.{arith, ◌≡◌, ◌≤◌, ◌-◌, ◌∙◌, ap, sym, Option, Some, None, IfSome, List, ℕ, length, take, drop}
use Rattle.std.proofs.lemmas.List.{take_rest, length-take-le}
use Rattle.sval_script.specs.SeenBytes.{SeenBytes}
use Rattle.sval_script.proofs.RoomBytes.{first_here}
use Rattle.sval_script.proofs.bytes.Bytes.text_from.Goals as goal

of_each : (P Q : List ℕ → Type 0) → ((text : List ℕ) → P text → Q text) → (found : Option (List ℕ)) → IfSome found P → IfSome found Q
of_each P Q each None is = is
of_each P Q each (Some text) is = each text is

pub returns-clause-text : goal.returns-clause-text
returns-clause-text c =
    let len = c.self.inside.len in
    let before = c.self.inside.room.items in
    let items : c.args.self.now.items ≡ take len before = ap (λ (s : SeenBytes). s.items) (sym c.self.view_is) in
    let size : length c.args.self.now.items ≡ len = ap length items ∙ length-take-le len before c.self.invariant in
    rw size (of_each _ _
    (λ text is. first_here c.args.self.now.items before c.deref.result.now text len c.args.start items c.deref.ensures.value c.self.invariant (omega (arith, size)) (omega arith)
    (is ∙ ap (take 16) (take_rest c.deref.result.now c.args.start)))
    c.first_sixteen.result c.first_sixteen.ensures)
