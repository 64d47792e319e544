use Rattle.std.specs.Prelude.{Err}
use Rattle.std.proofs.Common.{sym, ◌∙◌}
use Rattle.std.proofs.lemmas.Result.{err_from_is_err_and}
use Rattle.sval_program.specs.Failures.{failure_of_script}
use Rattle.sval_program.proofs.JobRuns.{served}
use Rattle.sval_program.proofs.ReadAnswers.{read_good, read_bad}
use Rattle.sval_relay.specs.declared.way.Form.TheVariants.{Serve}
use Rattle.sval_relay.specs.Serves.{relay_terms}
use Rattle.sval_relay.proofs.ServeAnswers.{script_unread, counted}
use Rattle.sval_relay.proofs.running.serve_input.Goals as goal

pub returns-in_err-script : goal.returns-in_err-script
returns-in_err-script g c =
    let p = err_from_is_err_and c.from_residual-in_err-script.result c.from_residual-in_err-script.ensures.1 in
    let read = c.in_ok-reader.ensures.ok in
    let why = c.in_err-script.field-0.0 in
    rw (p.1, p.2)
    (served relay_terms g.I.Source.told g.K.Sink.told c.args.input.now c.read_script.new.input c.args.out.now c.args.out.now (Serve c.args.task) (Err (failure_of_script why)) read.reads
    (script_unread g.K.Sink.told read.script c.args.task c.args.out.now why (λ number same. read_bad read number (sym same ∙ c.in_err-script.ensures.answer))))

pub returns : goal.returns
returns g c =
    let read = c.in_ok-reader.ensures.ok in
    let good = read_good read c.in_ok-script.script c.in_ok-script.ensures.answer in
    served relay_terms g.I.Source.told g.K.Sink.told c.args.input.now c.read_script.new.input c.args.out.now c.serve_script.new.out (Serve c.args.task) c.serve_script.result read.reads
    (c.serve_script.ensures read.script (counted read.reads) good)
