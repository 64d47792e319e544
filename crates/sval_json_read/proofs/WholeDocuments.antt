-- The calls of a document that was read, and of a value in it, are one whole value.
use Rattle.std.specs.Prelude.{ℕ, List, map, refl}
use Rattle.sval_core.specs.OneValue.{IsOneValue}
use Rattle.sval_core.specs.Values.{makes}
use Rattle.sval_json_read.specs.declared.node.Node as made_node
use Rattle.sval_json_read.specs.Calls.{document_calls}
use Rattle.sval_json_read.specs.KeptDocuments.{IsKeptDocument}
use Rattle.sval_json_read.specs.Nodes.{tokens_in}
use Rattle.sval_json_read.specs.Parts.{by_itself}
use Rattle.sval_json_read.specs.SeenNodes.{seen_node}
use Rattle.sval_json_read.specs.Trees.{tree_of}
use Rattle.sval_json_read.specs.ValueNodes.{AreOfValue}
use Rattle.sval_json_read.proofs.Documents.{document-calls}
use Rattle.sval_json_read.proofs.Parts.{part-of, part-spells}

pub document_is_whole : (text : List ℕ) (nodes : List made_node.Node) → IsKeptDocument text nodes → IsOneValue (makes (document_calls (tokens_in text (map seen_node nodes))))
document_is_whole text nodes kept = record {
  willing = refl;
  spells = (tree_of kept.document.value, document-calls kept.denoting (tokens_in text (map seen_node nodes)) kept.document);
}

pub part_is_whole : (text : List ℕ) (nodes : List made_node.Node) → AreOfValue text nodes → IsOneValue (makes (document_calls (by_itself (tokens_in text (map seen_node nodes)))))
part_is_whole text nodes are = record { willing = refl; spells = (tree_of are.value, part-spells (part-of are.is_of)) }
