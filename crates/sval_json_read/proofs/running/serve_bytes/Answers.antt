use Rattle.std.specs.Prelude.{ℕ, List, [], Some, None, Ok, Err, refl}
use Rattle.std.proofs.lemmas.Result.{err_from_is_err_and}
use Rattle.sval_io.specs.Sinks.{Told}
use Rattle.sval_io.specs.declared.sink.SinkError.{SinkError}
use Rattle.sval_io.proofs.Appending.{writes_nothing}
use Rattle.sval_program.specs.declared.failure.Fault.{Fault}
use Rattle.sval_program.specs.declared.failure.Failure.TheVariants as failure
use Rattle.sval_program.specs.Jobs.{ServesBytes, WritesAllDue}
use Rattle.sval_json_read.specs.declared.document.ReadError.{ReadError}
use Rattle.sval_json_read.specs.declared.document.ReadError.TheVariants as reading
use Rattle.sval_program.specs.declared.form.ReadForm.{ReadForm}
use Rattle.sval_json_read.specs.ReadErrors.{IsJsonReadError}
use Rattle.sval_json_read.specs.Serves.{JsonReadDue, a_text, no_utf8, no_json, json_read_terms, failure_of_json_read, WritesDueText}
use Rattle.sval_json_read.proofs.running.serve_bytes.Goals as goal

-- nothing is written before a fault
faulty : {input : List ℕ} {asked : ReadForm} {why : Fault} (told : Told) → JsonReadDue asked input (Some why) [] → WritesAllDue json_read_terms asked input (Some why) told told
faulty told d = record { bytes = []; due = d; writes = writes_nothing told }

unread : {K : Type 0} (told : K → Told) (input : List ℕ) (asked : ReadForm) (old : K) (why : ReadError) → IsJsonReadError input why → ServesBytes json_read_terms told asked input (Err (failure_of_json_read why)) old old
unread told input asked old (reading.NotUtf8 at) cause = record { all = faulty (told old) (no_utf8 cause.0); known = refl; untouched = λ e. refl }
unread told input asked old (reading.BadJson at) cause = record { all = faulty (told old) (no_json cause); known = refl; untouched = λ e. refl }
unread told input asked old reading.NoMemory cause = refl

writes_all : {K : Type 0} (told : K → Told) (input : List ℕ) (asked : ReadForm) (old new : K) → WritesDueText told input asked (Ok tt) old new → ServesBytes json_read_terms told asked input (Ok tt) old new
writes_all told input asked old new w = record { bytes = w.text; due = a_text w.due; writes = w.writes }

stops_within : {K : Type 0} (told : K → Told) (input : List ℕ) (asked : ReadForm) (old new : K) (why : SinkError) → WritesDueText told input asked (Err why) old new
    → ServesBytes json_read_terms told asked input (Err (failure.Write why)) old new
stops_within told input asked old new why w = record { found = None; bytes = w.text; due = a_text w.due; may = refl; stops = w.writes.stops }

pub returns-in_err-doc : goal.returns-in_err-doc
returns-in_err-doc g c =
    let p = err_from_is_err_and c.from_residual.result c.from_residual.ensures.1 in
    rw (p.1, p.2) (unread g.K.Sink.told c.args.bytes.now c.args.form c.args.out.now c.in_err-doc.field-0.0 c.in_err-doc.ensures.err)

pub write_document-requires : goal.write_document-requires
write_document-requires g c = (c.args.bytes.now, c.in_ok-doc.ensures.document, c.requires)

pub returns-in_err-write_document : goal.returns-in_err-write_document
returns-in_err-write_document g c =
    let p = err_from_is_err_and c.from_residual-in_err-write_document.result c.from_residual-in_err-write_document.ensures.1 in
    rw (p.1, p.2) (stops_within g.K.Sink.told c.args.bytes.now c.args.form c.args.out.now c.write_document.new.out c.in_err-write_document.field-0.0 (c.in_err-write_document.ensures c.args.bytes.now c.in_ok-doc.ensures.document c.requires))

pub returns : goal.returns
returns g c = writes_all g.K.Sink.told c.args.bytes.now c.args.form c.args.out.now c.write_document.new.out (c.in_ok-write_document.ensures c.args.bytes.now c.in_ok-doc.ensures.document c.requires)
