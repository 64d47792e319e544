use Rattle.std.proofs.Common.{◌≡◌, length}
use denote.Text.{Utf8}
use denote.Shadow.{shadow}
use Rattle.std.specs.Str.{bytes_eq}
use Rattle.sval_json_read.specs.Pointers.{reference_token}
use Rattle.sval_json_read.specs.RawStrings.{IsRaw}
use Rattle.sval_json_read.specs.SeenValues.{text_in}
use Rattle.sval_json_read.proofs.json_text.JsonText.has_token.Given as goal

-- what is left of the token is that of what is left of the text where the whole is
abbrev pub invariant-loop-rest : goal.invariant-loop-rest
invariant-loop-rest l = shadow (Utf8 l.rest) × IsRaw l.rest × (bytes_eq (reference_token (text_in l.rest)) l.left ≡ bytes_eq (reference_token (text_in l.initial.rest)) l.initial.left)

abbrev pub decreases-loop-rest : goal.decreases-loop-rest
decreases-loop-rest l = length l.rest
