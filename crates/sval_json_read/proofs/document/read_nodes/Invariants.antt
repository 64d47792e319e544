use Rattle.std.proofs.Common.{length, take, ◌-◌, ◌≡◌, Some, ◌≤◌}
use Rattle.sval_json_read.specs.Reader.{reader_start, after_bytes}
use Rattle.sval_json_read.specs.SeenReader.{seen_state, ReadsIn}
use Rattle.sval_json_read.proofs.document.read_nodes.Given as goal

-- the bytes so far bring the machine to this state
abbrev pub invariant-loop-at : goal.invariant-loop-at
invariant-loop-at l = record {
  within : l.at ≤ length l.bytes;
  reached : after_bytes reader_start (take l.at l.bytes) ≡ Some (seen_state l.bytes l.at l.reader);
  reads : ReadsIn l.bytes l.at l.reader.from l.reader.nodes;
}

abbrev pub decreases-loop-at : goal.decreases-loop-at
decreases-loop-at l = length l.bytes - l.at
