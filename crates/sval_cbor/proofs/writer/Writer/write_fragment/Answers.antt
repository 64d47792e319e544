use Rattle.std.specs.Prelude.{ℕ, Bool, List, Ok, if◌then◌else◌}
use Rattle.std.proofs.Common.{sym, ap, ◌∙◌}
use Rattle.sval_json.specs.Number.{normal}
use Rattle.sval_cbor.specs.Cbor.{string}
use Rattle.sval_cbor.specs.Packs.{on_packed}
use Rattle.sval_cbor.specs.Writing.{CborState, Elsewhere, writes, number_bytes}
use Rattle.sval_cbor.specs.WriterLaw.{cbor_writer_state}
use Rattle.sval_cbor.proofs.Doing.{does_alike}
use Rattle.sval_cbor.proofs.writer.Writer.write_fragment.Goals as goal

pub returns-then-self : goal.returns-then-self
returns-then-self g c =
    let state : CborState = cbor_writer_state c.args.self.now in
    let text = c.args.text.now in
    does_alike c.write_number.result _ _
    (ap (λ (bytes : List ℕ). on_packed (number_bytes state.in_key (normal bytes)) (λ made. writes made (record state { place = Elsewhere }))) c.as_bytes.ensures.value
    ∙ sym (ap (λ (in_number : Bool). on_packed (if in_number then number_bytes state.in_key (normal text) else Ok (string 3 text)) (λ made. writes made (record state { place = Elsewhere }))) c.if-self.true))
    c.write_number.ensures
