use Rattle.sval_json_read.proofs.laws.document_laws.Goals as goal
use Rattle.sval_json_read.proofs.SettledTrees.{denoted-real, denoted-settles}
use Rattle.sval_json_read.proofs.WritableTrees.{denoted-printable}
use Rattle.sval_json_read.proofs.ShorterTexts.{denoted-shorter}
use Rattle.sval_json_read.proofs.ProperParts.{pointed-real, pointed-settles}
use Rattle.sval_json_read.proofs.PieceTexts.{pieces-text}
use Rattle.sval_json_read.proofs.KeptNodes.{streamed-calls, streamed-spells}
use Rattle.sval_json_read.proofs.RawStrings.{document-tokens}
use Rattle.sval_json_read.proofs.Documents.{runs-longest, document-calls, one-document}

pub returns-clause-trees_are_real : goal.returns-clause-trees_are_real
returns-clause-trees_are_real c = λ bytes value d. denoted-real d

pub returns-clause-trees_are_printable : goal.returns-clause-trees_are_printable
returns-clause-trees_are_printable c = λ bytes value l d. denoted-printable l d

pub returns-clause-written_again_settles : goal.returns-clause-written_again_settles
returns-clause-written_again_settles c = λ bytes value d. denoted-settles d

pub returns-clause-written_again_is_no_longer : goal.returns-clause-written_again_is_no_longer
returns-clause-written_again_is_no_longer c = λ bytes value json d e. denoted-shorter json d e

pub returns-clause-referenced_are_real : goal.returns-clause-referenced_are_real
returns-clause-referenced_are_real c = pointed-real

pub returns-clause-referenced_settles : goal.returns-clause-referenced_settles
returns-clause-referenced_settles c = pointed-settles

pub returns-clause-pieces_are_the_text : goal.returns-clause-pieces_are_the_text
returns-clause-pieces_are_the_text c = λ bytes text rest s. pieces-text s

pub returns-clause-runs_are_longest : goal.returns-clause-runs_are_longest
returns-clause-runs_are_longest c = runs-longest

pub returns-clause-documents_spell : goal.returns-clause-documents_spell
returns-clause-documents_spell c = document-calls

pub returns-clause-nodes_make_the_calls : goal.returns-clause-nodes_make_the_calls
returns-clause-nodes_make_the_calls c = streamed-calls

pub returns-clause-nodes_spell : goal.returns-clause-nodes_spell
returns-clause-nodes_spell c = streamed-spells

pub returns-clause-tokens_are_proper : goal.returns-clause-tokens_are_proper
returns-clause-tokens_are_proper c = document-tokens

pub returns-clause-one_document : goal.returns-clause-one_document
returns-clause-one_document c = one-document
