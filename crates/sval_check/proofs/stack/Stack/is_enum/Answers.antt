use Rattle.std.proofs.Common.{◌≡◌, ◌∙◌, Some, ap, reverse}
use Rattle.sval_label.specs.SeenName.{seen_name}
use Rattle.sval_core.specs.Stacks.{top_of}
use Rattle.sval_check.specs.declared.frame.Frame.TheVariants as frame
use Rattle.sval_check.specs.Tops.{is_enum}
use Rattle.sval_check.proofs.Tops.{top_is}
use Rattle.sval_check.proofs.stack.Stack.is_enum.Goals as goal

pub returns-in-Some-Enum : goal.returns-in-Some-Enum
returns-in-Some-Enum c =
    let inside = c.self.inside in
    let top : top_of (reverse inside.frames.items) ≡ Some (frame.Enum c.in-Some-Enum.parts) = cc (c.in-Some-Enum.ensures) in
    c.is_name.ensures ∙ ap (λ top. is_enum top (seen_name c.args.name)) (top_is (reverse inside.frames.items) (reverse inside.lefts.items) inside.names _ top ∙ ap (λ frames. top_of frames) c.self.view_is)
