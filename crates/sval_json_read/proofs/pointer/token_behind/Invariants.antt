use Rattle.std.proofs.Common.{◌≤◌, ◌-◌, length, drop}
use Rattle.sval_json_read.proofs.Pointers.{StandsBehind}
use Rattle.sval_json_read.proofs.pointer.token_behind.Given as goal

abbrev pub invariant-loop-next : goal.invariant-loop-next
invariant-loop-next l = (l.next ≤ length l.name) × StandsBehind l.name l.bytes (drop l.next l.name) l.left

abbrev pub decreases-loop-next : goal.decreases-loop-next
decreases-loop-next l = length l.name - l.next
