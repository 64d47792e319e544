use Rattle.std.proofs.Common.{◌≡◌, length}
use Rattle.std.specs.List.{concat}
use Rattle.std.specs.Str.{bytes_eq}
use Rattle.sval_json_read.specs.Pointers.{reference_token}
use Rattle.sval_cbor_read.proofs.cbor_text.CborText.has_token.Given as goal

-- what is left of the token is that of what is left of the text where the whole is
abbrev pub invariant-loop-text : goal.invariant-loop-text
invariant-loop-text l = bytes_eq (reference_token (concat l.left)) l.rest ≡ bytes_eq (reference_token (concat l.initial.left)) l.initial.rest

abbrev pub decreases-loop-text : goal.decreases-loop-text
decreases-loop-text l = length l.left
