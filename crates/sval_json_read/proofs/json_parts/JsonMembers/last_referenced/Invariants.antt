use Rattle.std.proofs.Common.{◌≡◌, length}
use Rattle.std.specs.Option.{option_or}
use Rattle.sval_json_read.specs.Pointers.{last_referenced}
use Rattle.sval_json_read.proofs.json_parts.JsonMembers.last_referenced.Given as goal

abbrev pub invariant-loop-member : goal.invariant-loop-member
invariant-loop-member l = option_or (last_referenced l.token l.left) l.last ≡ last_referenced l.token l.initial.left

abbrev pub decreases-loop-member : goal.decreases-loop-member
decreases-loop-member l = length l.left
