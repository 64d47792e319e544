use Rattle.sval_buffer.specs.SeenBuffers.{capture_of}
use Rattle.sval_cbor.proofs.ScriptAnswers.{captured_verdict}
use Rattle.sval_cbor.proofs.running.write_tree.Goals as goal

pub returns-in-Ok : goal.returns-in-Ok
returns-in-Ok g c = λ bytes good. c.write_captured.ensures bytes (captured_verdict bytes c.args.script.now good c.requires (capture_of c.in-Ok.buffer).forest c.in-Ok.ensures.ok.taken)
