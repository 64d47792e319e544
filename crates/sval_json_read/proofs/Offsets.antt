-- The parts of a number give it back.
use Rattle.std.specs.Prelude.{◌≡◌, ℕ}
use Rattle.std.proofs.Common.{arith}
use Rattle.sval_json_read.specs.Offsets.{number_of, offset_of}

pub number_back : (number : ℕ) → number_of (offset_of number) ≡ number
number_back number = omega arith
