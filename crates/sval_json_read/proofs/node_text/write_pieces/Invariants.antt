use Rattle.std.proofs.Common.{length}
use denote.Text.{Utf8}
use denote.Shadow.{shadow}
use Rattle.sval_json.specs.Escape.{escaped}
use Rattle.sval_json_read.specs.RawStrings.{IsRaw}
use Rattle.sval_json_read.specs.SeenValues.{text_in}
use Rattle.sval_json_read.specs.TextParts.{IsWrittenUpTo}
use Rattle.sval_json_read.proofs.node_text.write_pieces.Given as goal

-- what is left is text, and all before it was written
abbrev pub invariant-loop-escape : goal.invariant-loop-escape
invariant-loop-escape g l = shadow (Utf8 l.rest) × IsRaw l.rest × IsWrittenUpTo (g.K.Sink.told l.initial.out) (escaped (text_in l.raw)) (escaped (text_in l.rest)) (g.K.Sink.told l.out)

abbrev pub decreases-loop-escape : goal.decreases-loop-escape
decreases-loop-escape g l = length l.rest
