use Rattle.std.proofs.Common.{◌≡◌, ◌∙◌, Some, ap, reverse}
use Rattle.sval_label.specs.SeenName.{seen_name}
use Rattle.sval_core.specs.Stacks.{top_of}
use Rattle.sval_check.specs.declared.frame.Frame.TheVariants as frame
use Rattle.sval_check.specs.Tops.{is_tagged}
use Rattle.sval_check.proofs.Tops.{top_is}
use Rattle.sval_check.proofs.stack.Stack.is_tagged.Goals as goal

pub returns-in-Some-Tagged : goal.returns-in-Some-Tagged
returns-in-Some-Tagged c =
    let inside = c.self.inside in
    let top : top_of (reverse inside.frames.items) ≡ Some (frame.Tagged c.in-Some-Tagged.parts) = cc (c.in-Some-Tagged.ensures) in
    c.is_name.ensures ∙ ap (λ top. is_tagged top (seen_name c.args.name)) (top_is (reverse inside.frames.items) (reverse inside.lefts.items) inside.names _ top ∙ ap (λ frames. top_of frames) c.self.view_is)
