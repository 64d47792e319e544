use Rattle.std.proofs.Common.{length, ◌-◌, ◌<◌}
use Rattle.sval_json_read.proofs.document.JsonDoc.read_front.Given as goal

-- each look is further than the one before
abbrev pub invariant-loop-size : goal.invariant-loop-size
invariant-loop-size l = 0 < l.size

abbrev pub decreases-loop-size : goal.decreases-loop-size
decreases-loop-size l = length l.bytes - l.size
