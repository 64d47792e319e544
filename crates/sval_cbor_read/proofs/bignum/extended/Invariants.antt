use Rattle.std.proofs.Common.{◌≡◌, drop}
use Rattle.std.specs.Int.Digits.{number_from_digits_after}
use Rattle.sval_cbor_read.proofs.bignum.extended.Given as goal

-- what is left behind the number so far is all behind the first
abbrev pub invariant-loop-byte : goal.invariant-loop-byte
invariant-loop-byte l = number_from_digits_after 256 l.whole (drop l.byte-index l.bytes) ≡ number_from_digits_after 256 l.number l.bytes
