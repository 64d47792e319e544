use Rattle.std.proofs.Common.{map, subst, take}
use Rattle.std.specs.List.{AllByRecursion}
use Rattle.sval_json_read.specs.Documents.{IsDocument}
use Rattle.sval_json_read.specs.Nodes.{tokens_in}
use Rattle.sval_json_read.specs.SeenNodes.{seen_node, StandsIn}
use Rattle.sval_json_read.proofs.KeptDocuments.{kept-document, document-read, document-denotes}
use Rattle.sval_json_read.proofs.document.JsonDoc.read_front_str.Goals as goal

pub invariant_of-result : goal.invariant_of-result
invariant_of-result c =
    kept-document c.args.text.now (take c.in-Ok.used c.args.text.now) c.in-Ok.nodes.items c.utf8.text (subst (λ bytes. AllByRecursion (StandsIn bytes) c.in-Ok.nodes.items) c.as_bytes.ensures.value c.in-Ok.ensures.stand) c.in-Ok.ensures.counted
    (subst (λ bytes. IsDocument (take c.in-Ok.used bytes) (tokens_in bytes (map seen_node c.in-Ok.nodes.items))) c.as_bytes.ensures.value c.in-Ok.ensures.ok)

pub returns-in-Ok-clause-ok : goal.returns-in-Ok-clause-ok
returns-in-Ok-clause-ok c =
    document-read (take c.in-Ok.used c.args.text.now) _
    (subst (λ bytes. IsDocument (take c.in-Ok.used bytes) (tokens_in bytes (map seen_node c.in-Ok.nodes.items))) c.as_bytes.ensures.value c.in-Ok.ensures.ok)

pub returns-in-Ok-clause-value : goal.returns-in-Ok-clause-value
returns-in-Ok-clause-value c =
    document-denotes (take c.in-Ok.used c.args.text.now) _
    (subst (λ bytes. IsDocument (take c.in-Ok.used bytes) (tokens_in bytes (map seen_node c.in-Ok.nodes.items))) c.as_bytes.ensures.value c.in-Ok.ensures.ok)
