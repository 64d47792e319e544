use Rattle.std.proofs.Common.{length}
use Rattle.sval_cbor_read.proofs.WellFormedSteps.{IsClosedUpTo}
use Rattle.sval_cbor_read.proofs.well_formed.behind_item.Given as goal

-- what has ended so far is closed
abbrev pub invariant-loop-frame : goal.invariant-loop-frame
invariant-loop-frame l = IsClosedUpTo l.bytes l.fn.opened l.from l.opened l.at

abbrev pub decreases-loop-frame : goal.decreases-loop-frame
decreases-loop-frame l = length l.opened
