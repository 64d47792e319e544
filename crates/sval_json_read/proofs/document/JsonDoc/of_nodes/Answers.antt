use Rattle.sval_json_read.proofs.KeptDocuments.{kept-document, document-read, document-denotes}
use Rattle.sval_json_read.proofs.document.JsonDoc.of_nodes.Goals as goal

pub invariant_of-result : goal.invariant_of-result
invariant_of-result c = kept-document c.args.text.now c.args.text.now c.args.nodes.items c.utf8.text c.requires.stand c.requires.counted c.requires.document

pub returns-clause-ok : goal.returns-clause-ok
returns-clause-ok c = document-read c.args.text.now _ c.requires.document

pub returns-clause-document : goal.returns-clause-document
returns-clause-document c = c.requires.document

pub returns-clause-value : goal.returns-clause-value
returns-clause-value c = document-denotes c.args.text.now _ c.requires.document
