use Rattle.std.proofs.Common.{arith, w64}
use Rattle.std.proofs.lemmas.Nat.Bits.{bit_at-trailing_zeros}
use Rattle.sval_script.proofs.short.lowest.Goals as goal

pub returns-else-mask-eq0 : goal.returns-else-mask-eq0
returns-else-mask-eq0 c =
    let (bound, set, below) = bit_at-trailing_zeros w64 c.args.mask (omega arith) c.ranges.mask.fits in
    (record { low = omega arith; high = bound; before = λ k low before is. omega (arith, below k before) }, set)
