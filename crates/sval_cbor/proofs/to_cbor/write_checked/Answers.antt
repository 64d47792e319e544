use Rattle.std.specs.Prelude.{ℕ, List, Err}
use Rattle.std.proofs.Common.{ap, ◌∙◌, sym, subst, inr}
use Rattle.sval_buffer.specs.Forest.{replayed}
use Rattle.sval_buffer.specs.SeenBuffers.{capture_of}
use Rattle.sval_cbor.specs.declared.error.CborError.{CborError}
use Rattle.sval_cbor.specs.Streamed.{StreamsCborAs}
use Rattle.sval_cbor.specs.Writing.{cbor_start, written_from}
use Rattle.sval_cbor.proofs.Captured.{captured_is_written}
use Rattle.sval_cbor.proofs.Answered.{checked_streams, checked_want, uncaptured_streams}
use Rattle.sval_cbor.proofs.to_cbor.write_checked.Goals as goal

pub returns-in-Ok-counts_due-clause-streams : goal.returns-in-Ok-counts_due-clause-streams
returns-in-Ok-counts_due-clause-streams g c =
    let e = g.V.Value.emission c.args.v.now in
    let held = (capture_of c.in-Ok.buffer).forest in
    let start = λ (counts : List ℕ). written_from (replayed held) (cbor_start c.args.style counts) in
    checked_streams e c.requires c.args.style (start c.as_slice.result.now) c.write_value.result (g.K.Sink.told c.args.out.now) (g.K.Sink.told c.write_value.new.out)
    (λ tree spells. ap start (c.as_slice.ensures.value ∙ c.in-Ok-counts_due.ensures.ok) ∙ captured_is_written c.args.style e.calls tree held spells c.in-Ok.ensures.ok.taken) c.write_value.ensures.due

pub returns-in-Ok-counts_due-clause-want : goal.returns-in-Ok-counts_due-clause-want
returns-in-Ok-counts_due-clause-want g c = λ is.
    let e = g.V.Value.emission c.args.v.now in
    let held = (capture_of c.in-Ok.buffer).forest in
    let start = λ (counts : List ℕ). written_from (replayed held) (cbor_start c.args.style counts) in
    inr (checked_want e c.requires c.args.style (start c.as_slice.result.now) c.write_value.result (g.K.Sink.told c.args.out.now) (g.K.Sink.told c.write_value.new.out)
    (λ tree spells. ap start (c.as_slice.ensures.value ∙ c.in-Ok-counts_due.ensures.ok) ∙ captured_is_written c.args.style e.calls tree held spells c.in-Ok.ensures.ok.taken) c.write_value.ensures.due is)

-- memory was wanting for the counts
pub returns-in-Ok-clause-streams : goal.returns-in-Ok-clause-streams
returns-in-Ok-clause-streams g c =
    let e = g.V.Value.emission c.args.v.now in
    let told = g.K.Sink.told c.args.out.now in
    subst (λ (why : CborError). StreamsCborAs c.args.style e (Err why) told told) (sym c.in-Err-counts_due.ensures.err) (uncaptured_streams c.args.style e told c.requires.value)

pub returns-in-NoAlloc-clause-streams : goal.returns-in-NoAlloc-clause-streams
returns-in-NoAlloc-clause-streams g c =
    uncaptured_streams c.args.style (g.V.Value.emission c.args.v.now) (g.K.Sink.told c.args.out.now) c.requires.value
