use Rattle.std.proofs.Common.{◌≡◌, ◌∙◌, true, false, [], ◌∷◌, ◌++◌, ap}
use Rattle.sval_label.specs.SeenName.{seen_name}
use Rattle.sval_core.specs.Trees.{plain_name}
use Rattle.sval_check.specs.Kept.{is_container_value, value_frame}
use Rattle.sval_check.specs.Tops.{named_frame}
use Rattle.sval_check.proofs.Tops.{single_opened, container_opened}
use Rattle.sval_check.proofs.stack.Stack.push_named.Goals as goal

pub returns-then-not-is_container : goal.returns-then-not-is_container
returns-then-not-is_container c =
    let inside = c.self.inside in
    let name = plain_name (seen_name c.args.name) in
    let frames = c.in_ok-push_frame.ensures.frames ∙ ap (λ frame. inside.frames.items ++ (frame ∷ [])) (c.named-frame.ensures ∙ ap (named_frame c.args.value) c.of.ensures) in
    let is : is_container_value c.args.value ≡ false = cc (c.is_container.ensures, c.if-not-is_container.true) in
    single_opened c.args.value name c.args.left inside.frames.items _ _ inside.names _ frames c.in_ok-push_frame.ensures.names is
    ∙ ap (λ around. value_frame c.args.value name c.args.left ∷ around) c.self.view_is

pub returns : goal.returns
returns c =
    let inside = c.self.inside in
    let name = plain_name (seen_name c.args.name) in
    let frames = c.in_ok-push_frame-2.ensures.frames ∙ ap (λ frame. inside.frames.items ++ (frame ∷ [])) (c.named-frame.ensures ∙ ap (named_frame c.args.value) c.of.ensures) in
    let lefts = c.push_reserved.ensures.items ∙ ap (λ lefts. lefts ++ (c.new.result ∷ [])) c.reserve.ensures.items
    ∙ ap (λ left. inside.lefts.items ++ (left ∷ [])) c.new.ensures in
    let is : is_container_value c.args.value ≡ true = cc (c.is_container.ensures, c.if-not-is_container.false) in
    container_opened c.args.value name c.args.left inside.frames.items _ inside.lefts.items _ inside.names _ frames lefts c.in_ok-push_frame-2.ensures.names is
    ∙ ap (λ around. value_frame c.args.value name c.args.left ∷ around) c.self.view_is
