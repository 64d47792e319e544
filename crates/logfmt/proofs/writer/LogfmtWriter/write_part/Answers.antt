use Rattle.std.specs.Prelude.{◌≡◌, ◌<◌, length, ℕ, List, Some}
use Rattle.std.specs.Borrow.{Bor}
use Rattle.std.proofs.Common.{rules, sym, ap, subst, ◌∙◌, arith, length-append}
use Rattle.sval_label.specs.Grouped.{text_call}
use Rattle.sval_json.specs.Escape.{escaped}
use Rattle.logfmt.specs.declared.writer.Due.TheVariants as due
use Rattle.logfmt.specs.Steps.{LogfmtStep, adds_text, step_at}
use Rattle.logfmt.specs.Writing.{Writing, DoesStep, LeavesText}
use Rattle.logfmt.proofs.Nonempty.{escaped_some, stops_writing}
use Rattle.logfmt.proofs.writer.LogfmtWriter.write_part.Goals.{in-Borrowed, in-Borrowed-2}
use Rattle.logfmt.proofs.writer.LogfmtWriter.write_part.Goals as goal

pub returns-in-Err : goal.returns-in-Err
returns-in-Err c =
    let text = c.match-part.text.now in
    let before = c.args.self.now.begun.text in
    let some : 0 < length (escaped text) = escaped_some text (sym c.is_empty.ensures ∙ c.if-is_empty.false) in
    let has : LeavesText (adds_text before (escaped text) due.Text) = omega (arith, length-append before (escaped text), some) in
    let same : step_at (text_call {T = Bor (List ℕ)} (λ text. text.now) c.args.part) due.Text before ≡ adds_text before (escaped text) due.Text =
    elim c.match-part.branch [ in-Borrowed w ↦ search rules | in-Borrowed-2 w ↦ search rules ] in
    subst (λ (step : LogfmtStep). DoesStep step c.refuse.result c.args.self.now c.refuse.new.self) (sym same)
    (stops_writing (adds_text before (escaped text) due.Text) c.in-Err.why (escaped c.as_bytes.result.now) c.self.inside.text c.write_escaped.new.sink
    c.args.self.now c.refuse.new.self c.refuse.result (record {}) c.in-Err.ensures has
    (sym (ap (λ (w : Writing). w.wants) c.self.view_is)) (ap (λ (w : Writing). w.wants) c.refuse.ensures.refused)
    (ap (λ (w : Writing). w.why) c.refuse.ensures.refused ∙ ap Some c.want_of.ensures) c.refuse.ensures.answer)
