use Rattle.std.proofs.Common.{sym, subst, Err}
use Rattle.sval_cbor.specs.declared.error.CborError.{CborError}
use Rattle.sval_cbor.specs.Writing.{cbor_start, written_from}
use Rattle.sval_cbor.specs.Streamed.{AnswersDue, IsCauseOfValue}
use Rattle.sval_cbor.proofs.Answered.{all_answered, stop_answered, stop_leaves}
use Rattle.sval_cbor.proofs.to_cbor.write_whole.Goals as goal

pub returns-in-Ok-clause-due : goal.returns-in-Ok-clause-due
returns-in-Ok-clause-due g c = all_answered c.in-Ok.ensures

pub returns-in-Err-clause-due : goal.returns-in-Err-clause-due
returns-in-Err-clause-due g c =
    let due = written_from (g.V.Value.emission c.args.v.now).calls (cbor_start c.args.style c.args.counts.now) in
    subst (λ (why : CborError). AnswersDue (Err why) (g.K.Sink.told c.args.out.now) due (g.K.Sink.told c.write_calls.new.out)) (sym c.stop_error.ensures)
    (stop_answered c.in-Err.why due (g.K.Sink.told c.args.out.now) (g.K.Sink.told c.write_calls.new.out) c.requires.whole c.in-Err.ensures)

pub returns-in-Err-clause-left : goal.returns-in-Err-clause-left
returns-in-Err-clause-left g c own =
    absurd (stop_leaves c.in-Err.why (written_from (g.V.Value.emission c.args.v.now).calls (cbor_start c.args.style c.args.counts.now)) (g.K.Sink.told c.args.out.now) (g.K.Sink.told c.write_calls.new.out) c.requires.whole c.in-Err.ensures (subst (λ (why : CborError). IsCauseOfValue (Err why)) c.stop_error.ensures own))
