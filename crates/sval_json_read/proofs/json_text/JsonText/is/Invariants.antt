use Rattle.std.proofs.Common.{◌≡◌, length}
use denote.Text.{Utf8}
use denote.Shadow.{shadow}
use Rattle.std.specs.Str.{bytes_eq}
use Rattle.sval_json_read.specs.RawStrings.{IsRaw}
use Rattle.sval_json_read.specs.SeenValues.{text_in}
use Rattle.sval_json_read.proofs.json_text.JsonText.is.Given as goal

-- what is left of both is equal where both are
abbrev pub invariant-loop-rest : goal.invariant-loop-rest
invariant-loop-rest l = shadow (Utf8 l.rest) × IsRaw l.rest × (bytes_eq (text_in l.rest) l.left ≡ bytes_eq (text_in l.initial.rest) l.initial.left)

abbrev pub decreases-loop-rest : goal.decreases-loop-rest
decreases-loop-rest l = length l.rest
