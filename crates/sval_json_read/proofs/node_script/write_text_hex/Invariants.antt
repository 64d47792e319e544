use Rattle.std.proofs.Common.{length}
use denote.Text.{Utf8}
use denote.Shadow.{shadow}
use Rattle.hex.specs.Hex.{encode_lower}
use Rattle.sval_json_read.specs.RawStrings.{IsRaw}
use Rattle.sval_json_read.specs.SeenValues.{text_in}
use Rattle.sval_json_read.specs.TextParts.{IsWrittenUpTo}
use Rattle.sval_json_read.proofs.node_script.write_text_hex.Given as goal

-- what is left is text, and the digits of all before it were written
abbrev pub invariant-loop-rest : goal.invariant-loop-rest
invariant-loop-rest g l = shadow (Utf8 l.rest) × IsRaw l.rest × IsWrittenUpTo (g.K.Sink.told l.initial.out) (encode_lower (text_in l.raw)) (encode_lower (text_in l.rest)) (g.K.Sink.told l.out)

abbrev pub decreases-loop-rest : goal.decreases-loop-rest
decreases-loop-rest g l = length l.rest
