use Rattle.std.proofs.lemmas.Str.{IsUtf8-string_bytes}
use Rattle.sval_buffer.proofs.fragment_buf.append_display.Goals as goal

pub returns-in-Ok-clause-utf8 : goal.returns-in-Ok-clause-utf8
returns-in-Ok-clause-utf8 g c = rw c.into_bytes.ensures.value (IsUtf8-string_bytes c.render.new.out)
