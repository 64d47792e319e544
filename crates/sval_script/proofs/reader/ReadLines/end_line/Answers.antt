use Rattle.std.proofs.Common.{◌≡◌, ◌+◌, ◌++◌, ◌∙◌, append_assoc, ap, sym, take, drop}
use Rattle.std.proofs.lemmas.List.{take-append-drop}
use Rattle.std.proofs.lemmas.Result.{err_from_is_err_and}
use Rattle.sval_script.specs.LineCalls.{stored}
use Rattle.sval_script.specs.Readings.{lines_after}
use Rattle.sval_script.specs.ReadLines.{line_calls}
use Rattle.sval_script.proofs.ScriptPieces.{bad-more}
use Rattle.sval_script.proofs.WholeLines.{up_to_feed, has_feed, ends-drop, ends-more}
use Rattle.sval_script.proofs.reader.ReadLines.end_line.Goals as goal

pub unreachable-requires : goal.unreachable-requires
unreachable-requires c = has_feed c.args.whole.now c.requires.whole c.requires.some c.in_default.ensures

pub read_lines-requires-clause-whole : goal.read_lines-requires-clause-whole
read_lines-requires-clause-whole c =
    let (ends, some) = up_to_feed c.args.whole.now c.in-Some.feed c.in-Some.ensures.0.high c.in-Some.ensures.1 in
    rw (c.deref.ensures.value, c.in_ok-extend_from_slice.ensures.items, c.split_at.ensures.front)
    (ends-more c.args.self.now.begun.items (take (c.in-Some.feed + 1) c.args.whole.now) ends some)

pub returns-in_err-read_lines-clause-bad : goal.returns-in_err-read_lines-clause-bad
returns-in_err-read_lines-clause-bad c =
    let p = err_from_is_err_and c.from_residual-in_err-read_lines.result c.from_residual-in_err-read_lines.ensures.1 in
    let calls = line_calls c.args.self.now.lines.items (stored c.args.self.now.store) in
    let begun = c.args.self.now.begun.items in
    let last : c.deref.result.now ≡ begun ++ take (c.in-Some.feed + 1) c.args.whole.now =
    c.deref.ensures.value ∙ c.in_ok-extend_from_slice.ensures.items ∙ ap (λ first. begun ++ first) c.split_at.ensures.front in
    let whole : begun ++ c.args.whole.now ≡ c.deref.result.now ++ drop (c.in-Some.feed + 1) c.args.whole.now =
    ap (λ bytes. begun ++ bytes) (sym (take-append-drop (c.in-Some.feed + 1) c.args.whole.now)) ∙ sym (append_assoc begun (take (c.in-Some.feed + 1) c.args.whole.now) (drop (c.in-Some.feed + 1) c.args.whole.now))
    ∙ ap (λ front. front ++ drop (c.in-Some.feed + 1) c.args.whole.now) (sym last) in
    rw (p.1, p.2, whole) (bad-more calls c.deref.result.now (drop (c.in-Some.feed + 1) c.args.whole.now) c.in_err-read_lines.field-0.0 c.in_err-read_lines.ensures.bad)

pub returns-clause-ended : goal.returns-clause-ended
returns-clause-ended c = record {
  holds = c.in_ok-read_lines.ensures.read.holds;
  begun = c.clear.ensures.items;
  ends = rw c.split_at.ensures.back (ends-drop c.args.whole.now (c.in-Some.feed + 1) c.requires.whole);
  goes_on = λ more.
      let begun = c.args.self.now.begun.items in
      let first = take (c.in-Some.feed + 1) c.args.whole.now in
      let rest = drop (c.in-Some.feed + 1) c.args.whole.now in
      let calls = line_calls c.args.self.now.lines.items (stored c.args.self.now.store) in
      let last : c.deref.result.now ≡ begun ++ first = c.deref.ensures.value ∙ c.in_ok-extend_from_slice.ensures.items ∙ ap (λ first. begun ++ first) c.split_at.ensures.front in
      rw c.split_at.ensures.back (
      sym (c.in_ok-read_lines.ensures.read.goes_on (rest ++ more)) ∙ ap (λ bytes. lines_after calls (bytes ++ (rest ++ more))) last
      ∙ ap (lines_after calls) (append_assoc begun first (rest ++ more) ∙ ap (λ bytes. begun ++ bytes) (sym (append_assoc first rest more) ∙ ap (λ bytes. bytes ++ more) (take-append-drop (c.in-Some.feed + 1) c.args.whole.now)))
      );
}
