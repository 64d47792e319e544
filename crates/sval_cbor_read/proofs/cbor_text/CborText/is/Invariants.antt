use Rattle.std.proofs.Common.{◌≡◌, length}
use Rattle.std.specs.List.{concat}
use Rattle.std.specs.Str.{bytes_eq}
use Rattle.sval_cbor_read.proofs.cbor_text.CborText.is.Given as goal

-- what is left of both is equal where both are
abbrev pub invariant-loop-text : goal.invariant-loop-text
invariant-loop-text l = bytes_eq (concat l.left) l.rest ≡ bytes_eq (concat l.initial.left) l.initial.rest

abbrev pub decreases-loop-text : goal.decreases-loop-text
decreases-loop-text l = length l.left
