use Rattle.std.proofs.Common.{◌≡◌, ◌+◌, ◌++◌, ◌∙◌, append_assoc, ap, sym, take, drop}
use Rattle.std.proofs.lemmas.List.{take-append-drop}
use Rattle.std.proofs.lemmas.Result.{err_from_is_err_and}
use Rattle.sval_script.specs.LineCalls.{stored}
use Rattle.sval_script.specs.ReadLines.{line_calls}
use Rattle.sval_script.proofs.ScriptPieces.{bad-more, begun-on, pieces-on, bad-behind}
use Rattle.sval_script.proofs.BadLines.{none_ended, good_piece}
use Rattle.sval_script.proofs.WholeLines.{up_to_feed, without_feed, behind_last, begun-more}
use Rattle.sval_script.proofs.reader.ReadLines.take.Goals as goal

pub returns-in_default-clause-taken : goal.returns-in_default-clause-taken
returns-in_default-clause-taken c =
    let begun = c.args.self.now.begun.items in
    let piece = c.args.piece.now in
    let none = begun-more begun piece c.requires.begun (without_feed piece c.in_default.ensures) in
    record {
      is_read = record { holds = c.requires.holds; begun = rw c.in_ok-extend_from_slice.ensures.items none };
      good = λ place. none_ended (begun ++ piece) place none;
      goes_on = λ more. rw c.in_ok-extend_from_slice.ensures.items (begun-on (line_calls c.args.self.now.lines.items (stored c.args.self.now.store)) begun piece more);
    }

pub end_line-requires-clause-whole : goal.end_line-requires-clause-whole
end_line-requires-clause-whole c = rw c.split_at.ensures.front (up_to_feed c.args.piece.now c.in-Some.feed c.in-Some.ensures.0.high c.in-Some.ensures.1).0

pub returns-in_err-behind-clause-bad : goal.returns-in_err-behind-clause-bad
returns-in_err-behind-clause-bad c =
    let p = err_from_is_err_and c.from_residual-in_err-behind.result c.from_residual-in_err-behind.ensures.1 in
    let calls = line_calls c.args.self.now.lines.items (stored c.args.self.now.store) in
    let begun = c.args.self.now.begun.items in
    let first = take (c.in-Some.feed + 1) c.args.piece.now in
    let rest = drop (c.in-Some.feed + 1) c.args.piece.now in
    let piece : begun ++ c.args.piece.now ≡ begun ++ c.split_at.result.0.now ++ rest =
    ap (λ bytes. begun ++ bytes) (sym (take-append-drop (c.in-Some.feed + 1) c.args.piece.now)) ∙ sym (append_assoc begun first rest)
    ∙ ap (λ bytes. begun ++ bytes ++ rest) (sym c.split_at.ensures.front) in
    rw (p.1, p.2, piece) (bad-more calls (begun ++ c.split_at.result.0.now) rest c.in_err-behind.field-0.0 c.in_err-behind.ensures.bad)

pub returns-in_err-read_lines-clause-bad : goal.returns-in_err-read_lines-clause-bad
returns-in_err-read_lines-clause-bad c =
    let p = err_from_is_err_and c.from_residual-in_err-read_lines.result c.from_residual-in_err-read_lines.ensures.1 in
    let rest = drop (c.in-Some.feed + 1) c.args.piece.now in
    let same : c.split_at.result.0.now ++ rest ≡ c.args.piece.now =
    ap (λ bytes. bytes ++ rest) c.split_at.ensures.front ∙ take-append-drop (c.in-Some.feed + 1) c.args.piece.now in
    rw (p.1, p.2)
    (bad-behind c.args.self.now c.end_line.new.self c.split_at.result.0.now c.in_ok-behind.behind.now rest c.args.piece.now c.in_err-read_lines.field-0.0 c.in_ok-behind.ensures.ended c.in_err-read_lines.ensures.bad same)

pub returns-clause-taken : goal.returns-clause-taken
returns-clause-taken c =
    let rest = drop (c.in-Some.feed + 1) c.args.piece.now in
    let same : c.split_at.result.0.now ++ rest ≡ c.args.piece.now =
    ap (λ bytes. bytes ++ rest) c.split_at.ensures.front ∙ take-append-drop (c.in-Some.feed + 1) c.args.piece.now in
    let begun : c.extend_from_slice-2.new.self.items ≡ rest =
    c.in_ok-extend_from_slice-2.ensures.items ∙ ap (λ bytes. bytes ++ c.split_at.result.1.now) c.in_ok-behind.ensures.ended.begun ∙ c.split_at.ensures.back in
    let none = behind_last c.args.piece.now c.in-Some.feed c.in-Some.ensures in
    record {
      is_read = record { holds = c.in_ok-read_lines.ensures.read.holds; begun = rw begun none };
      good = good_piece c.args.self.now c.end_line.new.self c.split_at.result.0.now c.in_ok-behind.behind.now rest c.args.piece.now c.read_lines.new.lines.items (stored c.read_lines.new.store) c.in_ok-behind.ensures.ended c.in_ok-read_lines.ensures.read same none;
      goes_on = λ more.
          rw begun
          (pieces-on c.args.self.now c.end_line.new.self c.split_at.result.0.now c.in_ok-behind.behind.now rest c.args.piece.now more c.read_lines.new.lines.items (stored c.read_lines.new.store) c.in_ok-behind.ensures.ended c.in_ok-read_lines.ensures.read same);
    }
