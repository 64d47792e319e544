use Rattle.std.specs.Prelude.{Result, Ok, ℤ, List, ℕ}
use Rattle.std.proofs.Common.{sym, ap, ◌∙◌}
use Rattle.sval_cbor.specs.Cbor.{integer}
use Rattle.sval_cbor.specs.Packs.{PackRefusal, on_packed}
use Rattle.sval_cbor.specs.Writing.{writes}
use Rattle.sval_cbor.specs.WriterLaw.{cbor_writer_state}
use Rattle.sval_cbor.proofs.Doing.{does_alike}
use Rattle.sval_cbor.proofs.Combined.{packed_whole, packed_refused}
use Rattle.sval_cbor.proofs.writer.Writer.write_whole.Goals as goal

pub returns-in-Some : goal.returns-in-Some
returns-in-Some g c =
    does_alike c.write_integer.result _ _
    (ap (λ (bytes : Result (List ℕ) PackRefusal). on_packed bytes (λ made. writes made (cbor_writer_state c.args.self.now)))
    (ap (λ (z : ℤ). Ok (integer z)) (sym c.in-Some.ensures.1) ∙ packed_whole c.args.negative c.args.unsigned.now c.requires c.in-Some.ensures.0))
    c.write_integer.ensures

pub returns-in-None : goal.returns-in-None
returns-in-None g c =
    does_alike c.refuse.result _ _
    (ap (λ (bytes : Result (List ℕ) PackRefusal). on_packed bytes (λ made. writes made (cbor_writer_state c.args.self.now))) (packed_refused c.args.negative c.args.unsigned.now c.requires c.in-None.ensures))
    c.refuse.ensures
