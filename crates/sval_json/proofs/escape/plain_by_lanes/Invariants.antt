use Rattle.std.proofs.Common.{◌≡◌, ◌+◌, ◌-◌, ◌≤◌, take, length}
use Rattle.std.specs.List.{AllPass}
use Rattle.sval_json.specs.Escape.{is_plain}
use Rattle.sval_json.proofs.escape.plain_by_lanes.Given as goal

abbrev pub invariant-loop-start : goal.invariant-loop-start
invariant-loop-start g l = record {
  end : l.last + g.row.N ≡ length l.bytes;
  within : l.start ≤ length l.bytes;
  plain : AllPass is_plain (take l.start l.bytes);
}

abbrev pub decreases-loop-start : goal.decreases-loop-start
decreases-loop-start g l = l.last - l.start
