use Rattle.std.specs.Prelude.{Some}
use Rattle.std.proofs.Common.{sym, ap, ◌∙◌}
use Rattle.sval_json_read.proofs.Passed.{passes_byte, passes_then}
use Rattle.sval_json_read.proofs.reader.Reader.into_string.Goals as goal

pub returns : goal.returns
returns c = passes_then (passes_byte c.requires.at_in (c.requires.steps ∙ ap (λ state. Some state) (sym c.begin_string.ensures.begins)) c.begin_string.ensures.reads) c.behind_run.ensures
