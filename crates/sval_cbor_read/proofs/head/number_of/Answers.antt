use Rattle.std.proofs.Common.{◌≡◌, ℕ, ◌^◌, ◌<◌, ◌≤◌, List, length, take, get_or, arith}
use Rattle.std.specs.Int.Digits.{number_from_digits}
use Rattle.std.proofs.lemmas.List.{length-take-le}
use Rattle.sval_cbor_read.proofs.Heads.{all_bytes, all_front, bytes_fit}
use Rattle.sval_cbor_read.proofs.head.number_of.Goals as goal

-- the number of the bytes so far leaves room for one byte more
room : (bytes : List ℕ) (i number : ℕ) → ((k : ℕ) → get_or bytes k 0 < 256) → length bytes ≤ 8 → i < length bytes → number ≡ number_from_digits 256 (take i bytes) → number < 256 ^ 7
room bytes i number h short more e = omega (arith, bytes_fit 7 (take i bytes) (all_front i bytes (all_bytes bytes h)) (omega (arith, length-take-le i bytes)))

pub overflow_mul-number : goal.overflow_mul-number
overflow_mul-number c = omega (arith, room c.args.bytes.now c.loop-byte.byte-index c.loop-byte.number (λ k. omega (arith, c.type_inv.bytes k)) c.requires c.loop-byte-test.true c.loop-byte.invariant)

pub overflow_add-number : goal.overflow_add-number
overflow_add-number c = omega (arith, c.type_inv.bytes c.loop-byte.byte-index, room c.args.bytes.now c.loop-byte.byte-index c.loop-byte.number (λ k. omega (arith, c.type_inv.bytes k)) c.requires c.loop-byte-test.true c.loop-byte.invariant)
