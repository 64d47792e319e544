use Rattle.std.proofs.Common.{rules, ◌≡◌, ◌++◌, take}
use Rattle.sval_lines.specs.SourceLines.{unread}
use Rattle.sval_lines.specs.LineParts.{IsFeedAt}
use Rattle.sval_lines.proofs.Feeds.{moves_to}
use Rattle.sval_lines.proofs.lines.Lines.take_unread.Goals as goal

pub returns-in_ok-extend_from_slice-in-Some-clause-ok :
    goal.returns-in_ok-extend_from_slice-in-Some-clause-ok
returns-in_ok-extend_from_slice-in-Some-clause-ok g c =
    let old = c.args.self.now in
    let place : IsFeedAt (unread old.chunk.items old.from old.upto) c.in-Some.feed = search rules in
    let line : c.extend_from_slice.new.self.items ≡ old.line.items ++ take c.in-Some.feed (unread old.chunk.items old.from old.upto) = search rules in
    moves_to old.chunk.items old.line.items c.extend_from_slice.new.self.items old.from old.upto c.in-Some.feed place line
