use Rattle.sval_cbor.proofs.laws.writing_laws.Goals as goal
use Rattle.sval_cbor.proofs.WritingTrees.{spelling_written}
use Rattle.sval_cbor.proofs.WholeTexts.{canonical_whole}
use Rattle.sval_cbor.proofs.Captured.{captured_is_written}
use Rattle.sval_cbor.proofs.OneByOne.{taken_written, refused_written}

pub returns : goal.returns
returns c = record {
  whole_spellings_are_written = spelling_written;
  canonical_calls_are_whole = canonical_whole;
  captured_is_written = captured_is_written;
  taken_calls_are_written = taken_written;
  refused_call_refuses = refused_written;
}
