use Rattle.std.specs.Prelude.{map, string_bytes, Ok, Err}
use Rattle.std.proofs.lemmas.Result.{err_from_is_err_and}
use Rattle.sval_program.specs.declared.failure.Failure.TheVariants.{Write}
use Rattle.sval_program.proofs.JobEnds.{ends_of, stops_work, ends_work}
use Rattle.sval_program.proofs.job.work.Goals as goal

pub returns-in_err-serve-clause-works : goal.returns-in_err-serve-clause-works
returns-in_err-serve-clause-works g c =
    let p = err_from_is_err_and c.from_residual.result c.from_residual.ensures.1 in
    rw (p.1, p.2) (record { serves = c.in_err-serve.ensures; flushed = tt })

pub returns-in_err-serve-clause-ends : goal.returns-in_err-serve-clause-ends
returns-in_err-serve-clause-ends g c =
    let p = err_from_is_err_and c.from_residual.result c.from_residual.ensures.1 in
    rw (p.1, p.2)
    (ends_of g.J.Job.terms g.I.Source.told g.K.Sink.told (map string_bytes c.args.words.now) c.args.input.now c.serve.new.input c.args.out.now c.serve.new.out (Err c.in_err-serve.field-0.0) (record { serves = c.in_err-serve.ensures; flushed = tt }))

-- the flush failed, so a first part of what was written was taken, for all that is known
pub returns-in_err-flush-clause-works : goal.returns-in_err-flush-clause-works
returns-in_err-flush-clause-works g c =
    let p = err_from_is_err_and c.from_residual-in_err-flush.result c.from_residual-in_err-flush.ensures.1 in
    rw (p.1, p.2)
    (stops_work g.J.Job.terms g.I.Source.told g.K.Sink.told (map string_bytes c.args.words.now) c.args.input.now c.serve.new.input c.args.out.now c.serve.new.out c.flush.new.self c.in_err-flush.field-0.0 c.in_ok-serve.ensures c.in_err-flush.ensures)

pub returns-in_err-flush-clause-ends : goal.returns-in_err-flush-clause-ends
returns-in_err-flush-clause-ends g c =
    let p = err_from_is_err_and c.from_residual-in_err-flush.result c.from_residual-in_err-flush.ensures.1 in
    rw (p.1, p.2)
    (ends_of g.J.Job.terms g.I.Source.told g.K.Sink.told (map string_bytes c.args.words.now) c.args.input.now c.serve.new.input c.args.out.now c.flush.new.self (Err (Write c.in_err-flush.field-0.0))
    (stops_work g.J.Job.terms g.I.Source.told g.K.Sink.told (map string_bytes c.args.words.now) c.args.input.now c.serve.new.input c.args.out.now c.serve.new.out c.flush.new.self c.in_err-flush.field-0.0 c.in_ok-serve.ensures c.in_err-flush.ensures))

pub returns-clause-works : goal.returns-clause-works
returns-clause-works g c =
    ends_work g.J.Job.terms g.I.Source.told g.K.Sink.told (map string_bytes c.args.words.now) c.args.input.now c.serve.new.input c.args.out.now c.serve.new.out c.flush.new.self c.in_ok-serve.ensures c.in_ok-flush.ensures

pub returns-clause-ends : goal.returns-clause-ends
returns-clause-ends g c =
    ends_of g.J.Job.terms g.I.Source.told g.K.Sink.told (map string_bytes c.args.words.now) c.args.input.now c.serve.new.input c.args.out.now c.flush.new.self (Ok tt)
    (ends_work g.J.Job.terms g.I.Source.told g.K.Sink.told (map string_bytes c.args.words.now) c.args.input.now c.serve.new.input c.args.out.now c.serve.new.out c.flush.new.self c.in_ok-serve.ensures c.in_ok-flush.ensures)
