use Rattle.std.proofs.Common.{ap, ◌∙◌, length}
use Rattle.sval_io.specs.Taken.{Taken}
use Rattle.sval_relay.proofs.MadeAnswers.{served_whole}
use Rattle.sval_relay.proofs.made.json_length.Goals as goal

pub returns-in-Ok-clause-bytes : goal.returns-in-Ok-clause-bytes
returns-in-Ok-clause-bytes c = λ text is.
    let empty = ap (λ (sink : Taken). sink.bytes) c.new-json.ensures in
    ap length (c.as_slice.ensures ∙ served_whole (c.relay.ensures.relays.done c.in-Ok.is) empty is)
