use Rattle.std.proofs.Common.{List, ℕ, arith, subst}
use Rattle.std.proofs.lemmas.Result.{err_from_is_err_and}
use Rattle.sval_io.specs.Sinks.{WritesFront, WritesWhole}
use Rattle.sval_cbor_read.specs.Serves.{IsInMemory}
use Rattle.sval_cbor_read.proofs.DueTexts.{writes_text, text_stops}
use Rattle.sval_cbor_read.proofs.Heads.{all_bytes}
use Rattle.sval_cbor_read.proofs.running.serve_json.Goals as goal

pub returns-in_err-write_all-in-Some : goal.returns-in_err-write_all-in-Some
returns-in_err-write_all-in-Some g c =
    let m : IsInMemory c.args.bytes.now = record { bytes = all_bytes c.args.bytes.now (λ i. omega (arith, c.type_inv.bytes i)); few = c.requires } in
    let p = err_from_is_err_and c.from_residual.result c.from_residual.ensures.1 in
    let why = c.in_err-write_all-in-Some.field-0.0 in
    let front = subst (λ (text : List ℕ). WritesFront why (g.K.Sink.told c.args.out.now) text (g.K.Sink.told c.write_all.new.sink)) c.as_slice.ensures.value c.in_err-write_all-in-Some.ensures.writes in
    rw (p.1, p.2) (text_stops m c.in-Some.ensures g.K.Sink.told c.args.out.now c.write_all.new.sink why front)

pub returns-in_ok-write_all-in-Some : goal.returns-in_ok-write_all-in-Some
returns-in_ok-write_all-in-Some g c =
    let m : IsInMemory c.args.bytes.now = record { bytes = all_bytes c.args.bytes.now (λ i. omega (arith, c.type_inv.bytes i)); few = c.requires } in
    let whole = subst (λ (text : List ℕ). WritesWhole (g.K.Sink.told c.args.out.now) text (g.K.Sink.told c.write_all.new.sink)) c.as_slice.ensures.value c.in_ok-write_all-in-Some.ensures.writes in
    writes_text m c.in-Some.ensures g.K.Sink.told c.args.out.now c.write_all.new.sink whole
