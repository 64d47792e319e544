use Rattle.std.specs.Prelude.{ℕ, List, [], Err, refl}
use Rattle.std.proofs.lemmas.Result.{err_from_is_err_and}
use Rattle.sval_io.specs.Sinks.{Told}
use Rattle.sval_io.proofs.Appending.{writes_nothing}
use Rattle.sval_program.specs.Jobs.{ServesBytes}
use Rattle.sval_cbor_read.specs.declared.document.CborReadError.{CborReadError}
use Rattle.sval_cbor_read.specs.declared.document.CborReadError.TheVariants as reading
use Rattle.sval_program.specs.declared.form.ReadForm.{ReadForm}
use Rattle.sval_cbor_read.specs.ReadErrors.{IsCborReadError}
use Rattle.sval_cbor_read.specs.Serves.{no_item, cbor_read_terms, failure_of_cbor_read}
use Rattle.sval_cbor_read.proofs.running.serve_document.Goals as goal

-- nothing is written of bytes that weren't read
unread : {K : Type 0} (told : K → Told) (input : List ℕ) (asked : ReadForm) (old : K) (why : CborReadError) → IsCborReadError input why → ServesBytes cbor_read_terms told asked input (Err (failure_of_cbor_read why)) old old
unread told input asked old (reading.Malformed at) cause = record { all = record { bytes = []; due = no_item cause.0.no_item; writes = writes_nothing (told old) }; known = refl; untouched = λ e. refl }
unread told input asked old (reading.Unsupported at) cause = record { all = record { bytes = []; due = no_item cause.0.no_item; writes = writes_nothing (told old) }; known = refl; untouched = λ e. refl }
unread told input asked old reading.NoMemory cause = refl

pub returns-in_err-doc : goal.returns-in_err-doc
returns-in_err-doc g c =
    let p = err_from_is_err_and c.from_residual.result c.from_residual.ensures.1 in
    rw (p.1, p.2) (unread g.K.Sink.told c.args.bytes.now c.args.form c.args.out.now c.in_err-doc.field-0.0 c.in_err-doc.ensures.err)
