use Rattle.std.proofs.Common.{length, ◌≤◌}
use Rattle.sval_cbor_read.specs.Reading.{distance}
use Rattle.sval_cbor_read.specs.Steps.{IsReached}
use Rattle.sval_cbor_read.specs.SeenNodes.{NodesStand}
use Rattle.sval_cbor_read.specs.SeenReader.{spot_of}
use Rattle.sval_cbor_read.proofs.LimitedHeads.{ReadsWithin}
use Rattle.sval_cbor_read.proofs.document.limited.limited_item.Given as goal

-- the steps so far lead to the reader's spot, and the front that was read is within the limits
abbrev pub invariant-loop-alloc : goal.invariant-loop-alloc
invariant-loop-alloc l = record {
  reached : IsReached l.bytes (spot_of l.bytes l.reader);
  within : l.reader.at ≤ length l.bytes;
  kept : NodesStand l.bytes l.reader.nodes.items;
  front : ReadsWithin l.bytes l.limits l.reader l.begun;
  levels : length l.reader.opened ≤ l.limits.depth;
}

-- the end comes nearer
abbrev pub decreases-loop-alloc : goal.decreases-loop-alloc
decreases-loop-alloc l = distance (spot_of l.bytes l.reader).state (spot_of l.bytes l.reader).left
