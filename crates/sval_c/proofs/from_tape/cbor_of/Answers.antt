use Rattle.std.specs.Prelude.{Err, None}
use Rattle.std.proofs.Common.{ap, sym, subst}
use Rattle.sval_core.specs.Values.{makes}
use Rattle.sval_io.specs.Taken.{Taken, taken_told}
use Rattle.sval_cbor.specs.declared.error.CborError.{CborError}
use Rattle.sval_cbor.specs.Streamed.{StreamsCbor}
use Rattle.sval_c.specs.OfTapes.{CborOfTapeDue}
use Rattle.sval_c.proofs.TapePacks.{packed, write_never, refusal_never, unpacked}
use Rattle.sval_c.proofs.from_tape.cbor_of.Goals as goal

pub returns-in-Ok : goal.returns-in-Ok
returns-in-Ok c = λ bytes is.
    let empty = ap (λ (sink : Taken). sink.bytes) c.new-sink.ensures in
    subst (CborOfTapeDue bytes None) (sym c.into_vec.ensures)
    (packed c.args.tape.now c.new-sink.result c.stream_to_cbor.new.out bytes is empty c.in-Ok.ensures.streams)

pub of_pack-requires-clause-unlike_fault : goal.of_pack-requires-clause-unlike_fault
of_pack-requires-clause-unlike_fault c = λ is.
    write_never c.args.tape.now c.new-sink.result c.stream_to_cbor.new.out
    (subst (λ (why : CborError). StreamsCbor (makes c.args.tape.now) (Err why) (taken_told c.new-sink.result) (taken_told c.stream_to_cbor.new.out)) is c.in-Err.ensures.streams)

pub of_pack-requires-clause-unlike_refusal : goal.of_pack-requires-clause-unlike_refusal
of_pack-requires-clause-unlike_refusal c = λ is.
    refusal_never c.args.tape.now c.new-sink.result c.stream_to_cbor.new.out
    (subst (λ (why : CborError). StreamsCbor (makes c.args.tape.now) (Err why) (taken_told c.new-sink.result) (taken_told c.stream_to_cbor.new.out)) is c.in-Err.ensures.streams)

pub returns-in-Err : goal.returns-in-Err
returns-in-Err c = λ bytes is. unpacked c.args.tape.now c.new-sink.result c.stream_to_cbor.new.out bytes is c.in-Err.error c.of_pack.result c.of_pack.ensures c.in-Err.ensures.streams
