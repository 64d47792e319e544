use Rattle.std.proofs.Common.{string_bytes, ◌∙◌}
use Rattle.sval_buffer.proofs.KeptNames.{grows_none, new_stands}
use Rattle.sval_buffer.proofs.kept.keep_label.Goals as goal

pub returns-in_ok-push_str-in-None-clause-stands : goal.returns-in_ok-push_str-in-None-clause-stands
returns-in_ok-push_str-in-None-clause-stands c =
    new_stands (string_bytes c.args.texts.now) (string_bytes c.push_str.new.self) c.as_str.result.now c.len-start.result c.len.result
    c.as_str.utf8 c.in_ok-push_str-in-None.ensures.bytes (c.len-start.ensures ∙ c.args.texts.now.bytes.ok.0) (c.len.ensures ∙ c.push_str.new.self.bytes.ok.0)

pub returns-in_err-push_str-in-None-clause-grows : goal.returns-in_err-push_str-in-None-clause-grows
returns-in_err-push_str-in-None-clause-grows c = rw c.in_err-push_str-in-None.ensures.bytes (grows_none (string_bytes c.args.texts.now))
