use Rattle.std.proofs.Common.{sym, subst}
use Rattle.std.specs.Prelude.{map, string_bytes}
use Rattle.sval_program.specs.Runs.{Ends}
use Rattle.sval_program.proofs.JobLeaves.{has_fault}
use Rattle.sval_program.proofs.JobRuns.{Case}
use Rattle.sval_program.proofs.job.run.Given as given
use Rattle.sval_program.proofs.job.run.Goals as goal
use Rattle.sval_program.proofs.job.run.Goals.{After-conclude}

-- the program, and the devices of this run
abbrev case_of : (g : given.Over) → After-conclude g → Case g.J.Job.Form g.row.I.Denot g.row.K.Denot
case_of g c = record {
  terms = g.J.Job.terms;
  source = g.I.Source.told;
  sink = g.K.Sink.told;
  before = c.args.input.now;
  after = c.work-ended.new.input;
  old = c.args.out.now;
  new = c.work-ended.new.out;
}

pub returns-clause-ends : goal.returns-clause-ends
returns-clause-ends g c =
    subst (Ends g.J.Job.terms g.I.Source.told g.K.Sink.told (map string_bytes c.args.words.now) c.args.input.now c.work-ended.new.input c.args.out.now c.work-ended.new.out) (sym c.conclude.ensures.status) c.work-ended.ensures.ends

pub returns-clause-reports : goal.returns-clause-reports
returns-clause-reports g c = record {
  ended = c.work-ended.result;
  works = c.work-ended.ensures.works;
  is = c.conclude.ensures.status;
  found = has_fault (case_of g c) (g.J.Job.terms.form_named (map string_bytes c.args.words.now)) c.work-ended.result c.work-ended.ensures.works.serves;
  tells = c.conclude.ensures.tells;
}
