use Rattle.std.specs.Prelude.{false, encode_utf8}
use Rattle.sval_core.specs.Values.{char_emission}
use Rattle.sval_core.proofs.SurelyWhole.{text_is_whole}
use Rattle.sval_core.proofs.values.texts.CharValueLent.stream.Goals as goal

pub returns-then-skip_value : goal.returns-then-skip_value
returns-then-skip_value g c = c.skip_value.ensures.skipped c.if-skip_value.true (char_emission c.args.self.now) (text_is_whole false (encode_utf8 c.args.self.now))
