use Rattle.std.proofs.Common.{rules, ◌≡◌, ◌++◌, length}
use Rattle.sval_script.specs.LineCalls.{stored}
use Rattle.sval_script.specs.ReadLines.{line_calls}
use Rattle.sval_script.proofs.BadLines.{reads_nothing, names_bad_line}
use Rattle.sval_script.proofs.reader.ReadLines.take_piece.Goals as goal

pub returns-then-is_empty-clause-taken : goal.returns-then-is_empty-clause-taken
returns-then-is_empty-clause-taken c =
    let empty : length c.args.piece.now ≡ 0 = search rules in
    reads_nothing c.args.self.now c.args.piece.now c.requires empty

pub returns-clause-names : goal.returns-clause-names
returns-clause-names c =
    let read = c.args.self.now in
    names_bad_line (line_calls read.lines.items (stored read.store)) (read.begun.items ++ c.args.piece.now) c.take.result c.take.ensures.bad
