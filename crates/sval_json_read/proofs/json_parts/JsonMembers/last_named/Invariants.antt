use Rattle.std.proofs.Common.{◌≡◌, length}
use Rattle.std.specs.Option.{option_or}
use Rattle.sval_json_read.specs.Lookups.{last_named}
use Rattle.sval_json_read.proofs.json_parts.JsonMembers.last_named.Given as goal

abbrev pub invariant-loop-member : goal.invariant-loop-member
invariant-loop-member l = option_or (last_named l.name l.left) l.found ≡ last_named l.name l.initial.left

abbrev pub decreases-loop-member : goal.decreases-loop-member
decreases-loop-member l = length l.left
