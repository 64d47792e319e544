use Rattle.sval_core.specs.Values.{makes}
use Rattle.sval_buffer.specs.SeenBuffers.{capture_of}
use Rattle.sval_relay.proofs.AtOnce.{kept_if_some}
use Rattle.sval_relay.proofs.one_value.capture_checked.Goals as goal

pub returns-clause-keeps : goal.returns-clause-keeps
returns-clause-keeps c =
    kept_if_some c.check_into.result (λ buffer. capture_of buffer) (makes c.args.script.now) (capture_of c.with_capacity-buffer.result) c.with_capacity-buffer.ensures c.check_into.ensures.takes
