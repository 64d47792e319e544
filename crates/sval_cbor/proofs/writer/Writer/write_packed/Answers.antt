use Rattle.std.specs.Prelude.{◌≡◌, false, Ok}
use Rattle.std.proofs.Common.{rules, sym, subst}
use Rattle.sval_cbor.specs.declared.number.NormalForm.{NormalForm}
use Rattle.sval_cbor.specs.declared.number.NormalForm.TheVariants.{Number}
use Rattle.sval_cbor.specs.Packs.{on_packed}
use Rattle.sval_cbor.specs.SeenWriter.{seen_normal}
use Rattle.sval_cbor.specs.Writing.{writes, number_bytes}
use Rattle.sval_cbor.specs.WriterLaw.{CborDoes, cbor_writer_state, writer_target, cbor_writer_view}
use Rattle.sval_cbor.proofs.writer.Writer.write_packed.Goals as goal

pub returns-in-Number : goal.returns-in-Number
returns-in-Number g c =
    let same : c.args.found ≡ Number c.in-Number.negative c.in-Number.unsigned = search rules in
    let due = λ (found : NormalForm). on_packed (number_bytes false (Ok (seen_normal found))) (λ made. writes made (cbor_writer_state c.args.self.now)) in
    subst (λ (found : NormalForm). CborDoes (due found) c.write_whole.result (writer_target g.K.Sink.told c.args.self.now) (cbor_writer_view g.K.Sink.told c.write_whole.new.self)) (sym same) c.write_whole.ensures
