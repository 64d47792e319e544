use Rattle.std.specs.Prelude.{ℕ, ℤ, Bool, List}
use Rattle.std.specs.Fmt.{signed_decimal}
use Rattle.std.proofs.Common.{sym, ap, ◌∙◌}
use Rattle.sval_label.specs.Grouped.{int_number}
use Rattle.sval_json.specs.Json.{number}
use Rattle.sval_cbor.specs.Cbor.{integer}
use Rattle.sval_cbor.specs.Writing.{writes}
use Rattle.sval_cbor.specs.WriterLaw.{json_bytes, cbor_writer_state}
use Rattle.sval_cbor.proofs.Doing.{does_alike}
use Rattle.sval_cbor.proofs.Numbers.{integer_of_decimal}
use Rattle.sval_cbor.proofs.writer.Writer.write_int.Goals as goal

pub returns : goal.returns
returns g c =
    let n = int_number c.args.int in
    let state = cbor_writer_state c.args.self.now in
    does_alike c.write_integer.result _ _
    (ap (λ (z : ℤ). writes (integer z) state) c.of.ensures.same
    ∙ ap (λ (bytes : List ℕ). writes bytes state) (sym (integer_of_decimal n c.of.ensures.fits) ∙ sym (ap (λ (in_key : Bool). json_bytes in_key (number (signed_decimal n))) c.if-self.false)))
    c.write_integer.ensures
