use Rattle.std.proofs.Common.{◌≡◌, ◌+◌, length}
use denote.Text.{Utf8}
use denote.Shadow.{shadow}
use Rattle.sval_json_read.specs.RawStrings.{IsRaw}
use Rattle.sval_json_read.specs.SeenValues.{text_in}
use Rattle.sval_json_read.proofs.node_script.text_len.Given as goal

-- what is left is text, and all before it is counted
abbrev pub invariant-loop-rest : goal.invariant-loop-rest
invariant-loop-rest l = shadow (Utf8 l.rest) × IsRaw l.rest × (l.len + length (text_in l.rest) ≡ length (text_in l.raw))

abbrev pub decreases-loop-rest : goal.decreases-loop-rest
decreases-loop-rest l = length l.rest
