use Rattle.std.proofs.Common.{rules, arith, ◌≡◌, ◌<◌, length}
use Rattle.sval_script.specs.LineCalls.{stored}
use Rattle.sval_script.specs.ReadLines.{line_calls}
use Rattle.sval_script.proofs.ScriptTexts.{length-calls_with}
use Rattle.sval_script.proofs.ScriptPieces.{never-ends}
use Rattle.sval_script.proofs.reader.ScriptReader.finish.Goals as goal

pub returns-then-not-is_empty-clause-answer : goal.returns-then-not-is_empty-clause-answer
returns-then-not-is_empty-clause-answer c =
    let read = c.self.inside.read in
    let some : 0 < length read.begun.items = search rules in
    let count : length (line_calls read.lines.items (stored read.store)) ≡ length read.lines.items = length-calls_with read.store.bytes.items read.store.numbers.items read.lines.items in
    let bad = never-ends (line_calls read.lines.items (stored read.store)) read.begun.items (c.self.invariant c.in_default.is).begun some in
    rw (← c.self.view_is, c.in_default.is, bad, count) (search rules)

pub returns-clause-few : goal.returns-clause-few
returns-clause-few c =
    let read = c.self.inside.read in
    let count = length-calls_with read.store.bytes.items read.store.numbers.items read.lines.items in
    omega (arith, count, read.lines.ok, read.lines.small)
