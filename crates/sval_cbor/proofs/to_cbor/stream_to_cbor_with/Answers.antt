use Rattle.std.proofs.Common.{refl, sym, subst, Err}
use Rattle.sval_cbor.specs.declared.error.CborError.{CborError}
use Rattle.sval_cbor.specs.Streamed.{StreamsCborAs}
use Rattle.sval_cbor.proofs.Answered.{checked, unaccepted_streams}
use Rattle.sval_cbor.proofs.to_cbor.stream_to_cbor_with.Goals as goal

pub write_checked-requires : goal.write_checked-requires
write_checked-requires g c = λ _. ((refl, tt), checked (g.V.Value.emission c.args.v.now) c.in-Ok.ensures.ok c.in-Ok.ensures.comes)

pub returns-in-Err-clause-streams : goal.returns-in-Err-clause-streams
returns-in-Err-clause-streams g c =
    let e = g.V.Value.emission c.args.v.now in
    let told = g.K.Sink.told c.args.out.now in
    let answers = c.in-Err.ensures in
    subst (λ (why : CborError). StreamsCborAs c.args.style e (Err why) told told) (sym c.check_error.ensures)
    (unaccepted_streams c.args.style e c.in-Err.why told answers.bad_call answers.refused answers.unfinished answers.no_memory answers.comes)
