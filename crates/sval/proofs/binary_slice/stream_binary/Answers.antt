use Rattle.sval_core.specs.Values.{binary_emission}
use Rattle.sval_core.proofs.SurelyWhole.{binary_is_whole}
use Rattle.sval.proofs.binary_slice.stream_binary.Goals as goal

pub returns-then-skip_value : goal.returns-then-skip_value
returns-then-skip_value g c =
    c.skip_value.ensures.skipped c.if-skip_value.true (binary_emission c.args.bytes.now) (binary_is_whole c.args.bytes.now)
