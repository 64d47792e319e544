use Rattle.std.proofs.Common.{◌-◌, ◌≡◌, ◌≤◌, ◌+◌, length, take}
use Rattle.std.specs.Str.{IsAscii}
use Rattle.sval_script.proofs.text.are_ascii_by_lanes.Given as goal

abbrev pub invariant-loop-start : goal.invariant-loop-start
invariant-loop-start g l = record {
  end : l.last + g.row.N ≡ length l.bytes;
  within : l.start ≤ length l.bytes;
  ascii : IsAscii (take l.start l.bytes);
}

abbrev pub decreases-loop-start : goal.decreases-loop-start
decreases-loop-start g l = l.last - l.start
