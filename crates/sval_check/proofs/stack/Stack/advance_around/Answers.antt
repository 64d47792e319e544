use Rattle.std.proofs.Common.{◌∙◌, ap, reverse, drop, length, arith}
use Rattle.sval_check.specs.Tops.{after_part, under_top, on_top, advanced, lefts_after_around}
use Rattle.sval_check.proofs.Tops.{refilled, advanced_around, counted_around}
use Rattle.sval_check.proofs.stack.Stack.advance_around.Goals as goal

pub invariant_of-self : goal.invariant_of-self
invariant_of-self c =
    let inside = c.self.inside in
    let now = c.advance_around.new in
    let frames = ap (λ frames. reverse frames) (refilled inside.frames.len now.frames (drop (length now.frames) inside.frames.items) (omega arith))
    ∙ c.advance_around.ensures.frames ∙ ap (λ frames. under_top (on_top advanced) (reverse frames)) c.deref_mut.ensures.value in
    let lefts = ap (λ lefts. reverse lefts) (refilled inside.lefts.len now.lefts (drop (length now.lefts) inside.lefts.items) (omega arith))
    ∙ c.advance_around.ensures.lefts ∙ ap (λ frames. lefts_after_around c.args.left (reverse frames) (reverse c.deref_mut-2.result.now)) c.deref_mut.ensures.value
    ∙ ap (λ lefts. lefts_after_around c.args.left (reverse inside.frames.items) (reverse lefts)) c.deref_mut-2.ensures.value in
    counted_around c.args.left (reverse inside.frames.items) _ (reverse inside.lefts.items) _ frames lefts c.self.invariant

pub returns : goal.returns
returns c =
    let inside = c.self.inside in
    let now = c.advance_around.new in
    let frames = ap (λ frames. reverse frames) (refilled inside.frames.len now.frames (drop (length now.frames) inside.frames.items) (omega arith))
    ∙ c.advance_around.ensures.frames ∙ ap (λ frames. under_top (on_top advanced) (reverse frames)) c.deref_mut.ensures.value in
    let lefts = ap (λ lefts. reverse lefts) (refilled inside.lefts.len now.lefts (drop (length now.lefts) inside.lefts.items) (omega arith))
    ∙ c.advance_around.ensures.lefts ∙ ap (λ frames. lefts_after_around c.args.left (reverse frames) (reverse c.deref_mut-2.result.now)) c.deref_mut.ensures.value
    ∙ ap (λ lefts. lefts_after_around c.args.left (reverse inside.frames.items) (reverse lefts)) c.deref_mut-2.ensures.value in
    advanced_around c.args.left (reverse inside.frames.items) _ (reverse inside.lefts.items) _ inside.names frames lefts c.self.invariant
    ∙ ap (λ frames. under_top (after_part c.args.left) frames) c.self.view_is
