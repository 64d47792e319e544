use Rattle.std.specs.Prelude.{map, string_bytes}
use Rattle.sval_program.specs.Streams.{on_words}
use Rattle.sval_program.proofs.process.run_process.Goals as goal

pub returns-in-Ok-clause-ends : goal.returns-in-Ok-clause-ends
returns-in-Ok-clause-ends g c = rw c.from.ensures (on_words (map string_bytes c.deref.result.now) c.run_streams-status.ensures.ends)
