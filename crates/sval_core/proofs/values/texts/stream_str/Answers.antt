use Rattle.std.specs.Prelude.{true}
use Rattle.sval_core.specs.Values.{str_emission}
use Rattle.sval_core.proofs.SurelyWhole.{text_is_whole}
use Rattle.sval_core.proofs.values.texts.stream_str.Goals as goal

pub returns-then-skip_value : goal.returns-then-skip_value
returns-then-skip_value g c = c.skip_value.ensures.skipped c.if-skip_value.true (str_emission c.args.text.now) (text_is_whole true c.args.text.now)
