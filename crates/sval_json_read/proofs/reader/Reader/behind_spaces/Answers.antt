use Rattle.std.proofs.Common.{◌+◌, subst, sym}
use Rattle.sval_json_read.specs.SeenReader.{Passes}
use Rattle.sval_json_read.proofs.Passed.{passes_run}
use Rattle.sval_json_read.proofs.reader.Reader.behind_spaces.Goals as goal
use Rattle.sval_json_read.proofs.reader.Reader.behind_spaces.Goals.{then-count-gt1, else-count-gt1}

pub returns-clause-passes : goal.returns-clause-passes
returns-clause-passes c =
    let count = c.plain_run-count.result in
    let run = c.plain_run-count.ensures in
    elim c.if-count-gt1.branch [
      | then-count-gt1 w ↦ subst (Passes c.args.bytes.now c.args.at c.args.self.now (c.args.at + count)) (sym w.self-is) (passes_run count run.within run.passes c.requires.reads)
      | else-count-gt1 w ↦ subst (Passes c.args.bytes.now c.args.at c.args.self.now (c.args.at + count)) (sym w.self-is) (passes_run count run.within run.passes c.requires.reads)
    ]
