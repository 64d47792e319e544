use Rattle.std.proofs.Common.{rules, arith, get_or}
use Rattle.sval_pretty.proofs.Writing.{byte_on, byte_stops, depth_grows}
use Rattle.sval_pretty.proofs.to_sink.write_pretty.Goals as goal

pub returns-in_err-write_byte : goal.returns-in_err-write_byte
returns-in_err-write_byte g c =
    let stops = byte_stops c.args.json.now c.loop-byte.byte-index c.loop-byte.place c.loop-byte.depth c.loop-byte-test.true c.loop-byte.invariant.laid c.in_err-write_byte.ensures in search rules

pub loop-byte-preserved : goal.loop-byte-preserved
loop-byte-preserved g c = record {
  laid = byte_on c.args.json.now c.loop-byte.byte-index c.loop-byte.place c.next-place.result c.loop-byte.depth c.next_depth-depth.result c.loop-byte-test.true
      c.loop-byte.invariant.laid c.in_ok-write_byte.ensures c.next-place.ensures c.next_depth-depth.ensures;
  depth = omega (arith, depth_grows c.loop-byte.place c.loop-byte.depth (get_or c.args.json.now c.loop-byte.byte-index 0), c.next_depth-depth.ensures, c.loop-byte.invariant.depth);
}
