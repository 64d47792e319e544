use Rattle.std.proofs.Common.{ap}
use Rattle.sval_script.specs.Readings.{answer_to}
use Rattle.sval_script.proofs.ScriptPieces.{none-yet}
use Rattle.sval_script.proofs.reader.ScriptReader.new.Goals as goal

pub returns : goal.returns
returns c more = rw (c.new.ensures.lines, c.new.ensures.begun) (ap answer_to (none-yet more))
