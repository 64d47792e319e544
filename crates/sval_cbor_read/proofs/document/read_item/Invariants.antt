use Rattle.std.proofs.Common.{length, ◌≤◌}
use Rattle.sval_cbor_read.specs.Reading.{distance}
use Rattle.sval_cbor_read.specs.Steps.{IsReached}
use Rattle.sval_cbor_read.specs.SeenNodes.{NodesStand}
use Rattle.sval_cbor_read.specs.SeenReader.{spot_of}
use Rattle.sval_cbor_read.proofs.document.read_item.Given as goal

-- the steps so far lead to the reader's spot
abbrev pub invariant-loop-reader : goal.invariant-loop-reader
invariant-loop-reader l = record { reached : IsReached l.bytes (spot_of l.bytes l.reader); within : l.reader.at ≤ length l.bytes; kept : NodesStand l.bytes l.reader.nodes.items }

-- the end comes nearer
abbrev pub decreases-loop-reader : goal.decreases-loop-reader
decreases-loop-reader l = distance (spot_of l.bytes l.reader).state (spot_of l.bytes l.reader).left
