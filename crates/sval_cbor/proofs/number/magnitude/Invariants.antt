use Rattle.std.proofs.Common.{◌≡◌, [], length}
use Rattle.std.specs.Str.Parse.{digits_value, digits_value_after}
use Rattle.sval_json.specs.Digits.{after_digits}
use Rattle.sval_cbor.proofs.number.magnitude.Given as goal

abbrev pub invariant-loop-digit : goal.invariant-loop-digit
invariant-loop-digit l = record {
  value : digits_value_after 10 l.number l.rest ≡ digits_value 10 l.text;
  digits : after_digits l.rest ≡ [];
}

abbrev pub decreases-loop-digit : goal.decreases-loop-digit
decreases-loop-digit l = length l.rest
