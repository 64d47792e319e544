use Rattle.sval_json_read.specs.Calls.{document_calls}
use Rattle.sval_json_read.proofs.DueTexts.{read_text_of, writes_json, writes_script}
use Rattle.sval_json_read.proofs.running.write_document.Goals as goal

pub returns-in-Json : goal.returns-in-Json
returns-in-Json g c = rw c.in-Json.is (λ input document few.
    writes_json input (document_calls c.args.doc.now) (read_text_of document) g.K.Sink.told c.args.out.now c.write_json.new.out c.write_json.result (λ json shape. c.write_json.ensures.json input document json shape))

pub returns-in-Calls : goal.returns-in-Calls
returns-in-Calls g c = rw c.in-Calls.is (λ input document few.
    writes_script input (document_calls c.args.doc.now) (read_text_of document) g.K.Sink.told c.args.out.now c.write_script.new.out c.write_script.result few (c.write_script.ensures input document))
