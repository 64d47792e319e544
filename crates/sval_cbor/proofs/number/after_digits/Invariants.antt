use Rattle.std.proofs.Common.{◌≡◌, length}
use Rattle.sval_json.specs.Digits.{after_digits}
use Rattle.sval_cbor.proofs.number.after_digits.Given as goal

abbrev pub invariant-loop-after : goal.invariant-loop-after
invariant-loop-after l = after_digits l.rest ≡ after_digits l.text

abbrev pub decreases-loop-after : goal.decreases-loop-after
decreases-loop-after l = length l.rest
