use Rattle.std.proofs.Common.{rules, subst, ◌≡◌, ◌<◌, ◌∷◌, List, ℕ}
use Rattle.sval_cbor.specs.WriterLaw.{cbor_writer_state, writer_target, cbor_writer_view}
use Rattle.sval_cbor.proofs.Doing.{stops_as}
use Rattle.sval_cbor.proofs.Combined.{IsRest, all_rest, next_rest, rest_stopped, no_rest}
use Rattle.sval_cbor.proofs.writer.Writer.write_bytes.Goals as goal

pub loop-byte-init : goal.loop-byte-init
loop-byte-init g c = all_rest c.args.bytes.now (cbor_writer_view g.K.Sink.told c.args.self.now)

pub loop-byte-preserved : goal.loop-byte-preserved
loop-byte-preserved g c =
    let split : c.loop-byte.rest.now ≡ c.in-Some.byte.now ∷ c.in-Some.after.now = search rules in
    let small : c.in-Some.byte.now < 256 = search rules in
    let due = subst (λ (rest : List ℕ). IsRest c.args.bytes.now (cbor_writer_state c.args.self.now) (writer_target g.K.Sink.told c.args.self.now) rest (cbor_writer_view g.K.Sink.told c.loop-byte.self)) split c.loop-byte.invariant in
    next_rest small due c.in_ok-write_integer.ensures

pub returns-in_err-write_integer : goal.returns-in_err-write_integer
returns-in_err-write_integer g c =
    let split : c.loop-byte.rest.now ≡ c.in-Some.byte.now ∷ c.in-Some.after.now = search rules in
    let small : c.in-Some.byte.now < 256 = search rules in
    let due = subst (λ (rest : List ℕ). IsRest c.args.bytes.now (cbor_writer_state c.args.self.now) (writer_target g.K.Sink.told c.args.self.now) rest (cbor_writer_view g.K.Sink.told c.loop-byte.self)) split c.loop-byte.invariant in
    stops_as c.from_residual.result c.from_residual.ensures.0 (rest_stopped small due c.in_err-write_integer.ensures c.in_err-write_integer.field-0.0)

pub returns : goal.returns
returns g c = no_rest c.loop-byte.rest.now c.loop-byte.invariant c.in_default.ensures.cases
