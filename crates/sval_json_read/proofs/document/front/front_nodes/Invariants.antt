use Rattle.std.proofs.Common.{length, take, get_or, ◌-◌, ◌≡◌, Some, ◌≤◌, true, false}
use Rattle.sval_json.specs.Grammar.{is_space}
use Rattle.sval_json_read.specs.Reader.{reader_start, after_bytes}
use Rattle.sval_json_read.specs.FrontEnds.{is_past}
use Rattle.sval_json_read.specs.SeenReader.{seen_state, ReadsIn}
use Rattle.sval_json_read.proofs.document.front.front_nodes.Given as goal

-- the bytes so far bring the machine to this state, and where it is that behind a value, none is white space behind it
abbrev pub invariant-loop-reader : goal.invariant-loop-reader
invariant-loop-reader l = record {
  within : l.at ≤ length l.bytes;
  reached : after_bytes reader_start (take l.at l.bytes) ≡ Some (seen_state l.bytes l.at l.reader);
  reads : ReadsIn l.bytes l.at l.reader.from l.reader.nodes;
  fresh : is_past l.reader.opened l.reader.expected ≡ true → is_space (get_or l.bytes (l.at - 1) 0) ≡ false;
}

abbrev pub decreases-loop-reader : goal.decreases-loop-reader
decreases-loop-reader l = length l.bytes - l.at
