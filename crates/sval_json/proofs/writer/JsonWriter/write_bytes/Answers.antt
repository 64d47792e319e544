use Rattle.std.proofs.Common.{rules, subst, ◌≡◌, List, ◌∷◌, ℕ}
use Rattle.sval_json.specs.WriterLaw.{writer_view}
use Rattle.sval_json.proofs.Combined.{IsDue, next_done, next_stopped, none_due}
use Rattle.sval_json.proofs.writer.JsonWriter.write_bytes.Goals as goal

pub loop-byte-preserved : goal.loop-byte-preserved
loop-byte-preserved g c =
    let split : c.loop-byte.rest.now ≡ c.in-Some.byte.now ∷ c.in-Some.after.now = search rules in
    let due = subst (λ (rest : List ℕ). IsDue c.args.bytes.now (writer_view g.K.Sink.told c.args.self.now) rest (writer_view g.K.Sink.told c.loop-byte.self)) split c.loop-byte.invariant in
    next_done due c.in_ok-write_byte.ensures

pub returns-in_err-write_byte : goal.returns-in_err-write_byte
returns-in_err-write_byte g c =
    let split : c.loop-byte.rest.now ≡ c.in-Some.byte.now ∷ c.in-Some.after.now = search rules in
    let due = subst (λ (rest : List ℕ). IsDue c.args.bytes.now (writer_view g.K.Sink.told c.args.self.now) rest (writer_view g.K.Sink.told c.loop-byte.self)) split c.loop-byte.invariant in
    next_stopped c.from_residual.result c.from_residual.ensures.0 due c.in_err-write_byte.ensures

pub returns : goal.returns
returns g c = none_due c.loop-byte.rest.now c.loop-byte.invariant c.in_default.ensures.cases
