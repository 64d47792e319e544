use Rattle.std.proofs.Common.{◌≡◌, ◌∙◌, ◌&&◌, Some, sym, ap, reverse}
use Rattle.sval_label.specs.SeenName.{seen_name}
use Rattle.sval_label.specs.Grouped.{seen_head}
use Rattle.sval_core.specs.CheckerSteps.{is_used_up}
use Rattle.sval_core.specs.SameNames.{same_name}
use Rattle.sval_core.specs.Stacks.{top_of}
use Rattle.sval_check.specs.declared.frame.Frame.TheVariants as frame
use Rattle.sval_check.specs.Kept.{innermost_name}
use Rattle.sval_check.specs.Frames.{frame_in, innermost_left}
use Rattle.sval_check.specs.Tops.{may_end_with}
use Rattle.sval_check.proofs.Tops.{top_is}
use Rattle.sval_check.proofs.stack.Stack.ends.Goals as goal

pub returns-in-Some-Record-Record : goal.returns-in-Some-Record-Record
returns-in-Some-Record-Record c =
    let inside = c.self.inside in
    let parts = c.in-Some-Record-Record.parts in
    let left = innermost_left (reverse inside.lefts.items) in
    let top : top_of (reverse inside.frames.items) ≡ Some (frame.Record parts) = cc (c.in-Some-Record-Record.ensures) in
    c.named_ends.ensures
    ∙ ap (λ lefts. same_name (seen_name c.in-Some-Record-Record.name) (innermost_name parts inside.names) && is_used_up (innermost_left (reverse lefts))) c.deref-in-Some-Record-Record.ensures.value
    ∙ ap (λ head. may_end_with (Some (frame_in (frame.Record parts) left inside.names)) (seen_head head)) (sym c.in-Some-Record-Record.is-1)
    ∙ ap (λ top. may_end_with top (seen_head c.args.head)) (top_is (reverse inside.frames.items) (reverse inside.lefts.items) inside.names _ top ∙ ap (λ frames. top_of frames) c.self.view_is)

pub returns-in-Some-Tuple-Tuple : goal.returns-in-Some-Tuple-Tuple
returns-in-Some-Tuple-Tuple c =
    let inside = c.self.inside in
    let parts = c.in-Some-Tuple-Tuple.parts in
    let left = innermost_left (reverse inside.lefts.items) in
    let top : top_of (reverse inside.frames.items) ≡ Some (frame.Tuple parts) = cc (c.in-Some-Tuple-Tuple.ensures) in
    c.named_ends-in-Some-Tuple-Tuple.ensures
    ∙ ap (λ lefts. same_name (seen_name c.in-Some-Tuple-Tuple.name) (innermost_name parts inside.names) && is_used_up (innermost_left (reverse lefts))) c.deref-in-Some-Tuple-Tuple.ensures.value
    ∙ ap (λ head. may_end_with (Some (frame_in (frame.Tuple parts) left inside.names)) (seen_head head)) (sym c.in-Some-Tuple-Tuple.is-1)
    ∙ ap (λ top. may_end_with top (seen_head c.args.head)) (top_is (reverse inside.frames.items) (reverse inside.lefts.items) inside.names _ top ∙ ap (λ frames. top_of frames) c.self.view_is)

pub returns-in-Some-RecordTuple-RecordTuple : goal.returns-in-Some-RecordTuple-RecordTuple
returns-in-Some-RecordTuple-RecordTuple c =
    let inside = c.self.inside in
    let parts = c.in-Some-RecordTuple-RecordTuple.parts in
    let left = innermost_left (reverse inside.lefts.items) in
    let top : top_of (reverse inside.frames.items) ≡ Some (frame.RecordTuple parts) = cc (c.in-Some-RecordTuple-RecordTuple.ensures) in
    c.named_ends-in-Some-RecordTuple-RecordTuple.ensures
    ∙ ap (λ lefts. same_name (seen_name c.in-Some-RecordTuple-RecordTuple.name) (innermost_name parts inside.names) && is_used_up (innermost_left (reverse lefts))) c.deref-in-Some-RecordTuple-RecordTuple.ensures.value
    ∙ ap (λ head. may_end_with (Some (frame_in (frame.RecordTuple parts) left inside.names)) (seen_head head)) (sym c.in-Some-RecordTuple-RecordTuple.is-1)
    ∙ ap (λ top. may_end_with top (seen_head c.args.head)) (top_is (reverse inside.frames.items) (reverse inside.lefts.items) inside.names _ top ∙ ap (λ frames. top_of frames) c.self.view_is)
