use Rattle.std.proofs.Common.{refl, ap, Err}
use Rattle.sval_cbor.specs.Writing.{cbor_start, written_from}
use Rattle.sval_cbor.proofs.Answered.{is_due, count_refused}
use Rattle.sval_cbor.proofs.to_cbor.write_value.Goals as goal

pub write_whole-requires : goal.write_whole-requires
write_whole-requires g c = λ _. ((refl, tt), (c.requires, is_due c.in-Ok.ensures))

pub returns-in-Err-clause-due : goal.returns-in-Err-clause-due
returns-in-Err-clause-due g c = count_refused c.in-Err.why (written_from (g.V.Value.emission c.args.v.now).calls (cbor_start c.args.style c.args.counts.now)) (g.K.Sink.told c.args.out.now) c.in-Err.ensures (ap Err c.stop_error.ensures)
