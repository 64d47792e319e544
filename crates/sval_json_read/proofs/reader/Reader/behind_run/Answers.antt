use Rattle.sval_json_read.proofs.Passed.{passes_run}
use Rattle.sval_json_read.proofs.reader.Reader.behind_run.Goals as goal

pub returns : goal.returns
returns c = passes_run c.plain_run.result c.plain_run.ensures.within c.plain_run.ensures.passes c.requires.reads
