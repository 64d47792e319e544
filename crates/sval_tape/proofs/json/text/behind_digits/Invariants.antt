use Rattle.std.specs.Prelude.{◌≡◌, length}
use Rattle.sval_json.specs.Digits.{after_digits}
use Rattle.sval_tape.proofs.json.text.behind_digits.Given as goal

-- the same follows the digits that are left
abbrev pub invariant-digits : goal.invariant-digits
invariant-digits l = after_digits l.bytes ≡ after_digits l.rest

abbrev pub decreases-digits : goal.decreases-digits
decreases-digits l = length l.rest
