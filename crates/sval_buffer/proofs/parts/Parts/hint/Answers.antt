use Rattle.std.specs.Prelude.{not, if◌then◌else◌}
use Rattle.std.proofs.Common.{◌≡◌, Bool, true, false, refl, ap, sym, ◌∙◌, subst}
use Rattle.sval_label.specs.Calls as calls
use Rattle.sval_label.specs.SeenTags.{seen_ref_tag}
use Rattle.sval_buffer.specs.Forest as forest
use Rattle.sval_buffer.specs.Forest.{Becomes, add}
use Rattle.sval_buffer.specs.Capture.{Captures}
use Rattle.sval_buffer.specs.FlatForest.{forest_in}
use Rattle.sval_buffer.proofs.Steps.{within_it}
use Rattle.sval_buffer.proofs.KeptParts.{holds_it}
use Rattle.sval_buffer.proofs.parts.Parts.hint.Goals as goal

pub returns-then-self : goal.returns-then-self
returns-then-self g c =
    let h = holds_it (forest_in c.args.self.now) c.self.invariant (ap forest_in c.self.view_is) in
    let e : (forest_in c.args.self.now).in_fragments ≡ true = sym (within_it h.is) ∙ c.if-self.true in
    rw e refl

pub returns : goal.returns
returns g c =
    let h = holds_it (forest_in c.args.self.now) c.self.invariant (ap forest_in c.self.view_is) in
    let e : (forest_in c.args.self.now).in_fragments ≡ false = sym (within_it h.is) ∙ c.if-self.false in
    let was = forest_in c.args.self.now in
    let node = forest.Single (calls.TagHint (seen_ref_tag c.args.tag)) in
    subst (λ (within : Bool). Captures (not within) (Becomes (if within then was else add node was)) was c.single_named.result (forest_in c.single_named.new.self)) (sym e) c.single_named.ensures
