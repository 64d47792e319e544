use Rattle.std.proofs.Common.{◌-◌, ◌≤◌}
use Rattle.sval_json_read.specs.TextParts.{IsReadyPart}
use Rattle.sval_json_read.proofs.text_part.ready_part.Given as goal

abbrev pub invariant-loop-from : goal.invariant-loop-from
invariant-loop-from l = record {
  ready : IsReadyPart l.bytes (record { from = l.from; to = l.at });
  within : l.at ≤ l.end;
}

abbrev pub decreases-loop-from : goal.decreases-loop-from
decreases-loop-from l = l.end - l.at
