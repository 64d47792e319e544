use Rattle.std.specs.Prelude.{Err, None}
use Rattle.std.proofs.Common.{ap, sym, subst}
use Rattle.sval_core.specs.Values.{makes}
use Rattle.sval_io.specs.Taken.{Taken, taken_told}
use Rattle.sval_json_read.specs.Calls.{document_calls}
use Rattle.sval_cbor.specs.declared.error.CborError.{CborError}
use Rattle.sval_cbor.specs.Streamed.{StreamsCbor}
use Rattle.sval_c.specs.Due.{CborOfTextDue}
use Rattle.sval_c.proofs.Packs.{packed, write_never, refusal_never, unpacked}
use Rattle.sval_c.proofs.from_json.cbor_of.Goals as goal

pub returns-in-Ok : goal.returns-in-Ok
returns-in-Ok c = λ input r.
    let empty = ap (λ (sink : Taken). sink.bytes) c.new-sink.ensures in
    subst (CborOfTextDue input None) (sym c.into_vec.ensures)
    (packed input (document_calls c.args.doc.now) r c.new-sink.result c.stream_to_cbor.new.out empty c.in-Ok.ensures.streams)

pub of_pack-requires-clause-unlike_fault : goal.of_pack-requires-clause-unlike_fault
of_pack-requires-clause-unlike_fault c = λ is.
    let (input, r) = c.requires in
    let calls = document_calls c.args.doc.now in
    write_never input calls r c.new-sink.result c.stream_to_cbor.new.out
    (subst (λ (why : CborError). StreamsCbor (makes calls) (Err why) (taken_told c.new-sink.result) (taken_told c.stream_to_cbor.new.out)) is c.in-Err.ensures.streams)

pub of_pack-requires-clause-unlike_refusal : goal.of_pack-requires-clause-unlike_refusal
of_pack-requires-clause-unlike_refusal c = λ is.
    let (input, r) = c.requires in
    let calls = document_calls c.args.doc.now in
    refusal_never input calls r c.new-sink.result c.stream_to_cbor.new.out
    (subst (λ (why : CborError). StreamsCbor (makes calls) (Err why) (taken_told c.new-sink.result) (taken_told c.stream_to_cbor.new.out)) is c.in-Err.ensures.streams)

pub returns-in-Err : goal.returns-in-Err
returns-in-Err c = λ input r. unpacked input (document_calls c.args.doc.now) r c.new-sink.result c.stream_to_cbor.new.out c.in-Err.error c.of_pack.result c.of_pack.ensures c.in-Err.ensures.streams
