use Rattle.std.proofs.Common.{rules, arith, ◌≡◌, ◌∙◌, length}
use Rattle.sval_io.proofs.ReadParts.{part_read}
use Rattle.sval_tool.proofs.whole.read_whole.Goals as goal

pub loop-bytes-preserved : goal.loop-bytes-preserved
loop-bytes-preserved g c =
    let room = c.in_ok-make_room.ensures in
    let held : length c.loop-bytes.bytes.items ≡ c.loop-bytes.bytes.len = search rules in
    let longer : length c.make_room.new.bytes.items ≡ c.make_room.new.bytes.len = search rules in
    let part = part_read _ _ _ c.loop-bytes.bytes.items c.make_room.new.bytes.items c.deref_mut.result.now c.read.new.buffer _ _ c.loop-bytes.filled c.make_room.new.bytes.len c.in_ok-count.count c.loop-bytes.invariant.read (omega (arith, c.loop-bytes.invariant.filled, held)) room.kept room.room c.deref_mut.ensures.value longer c.read.auto.buffer c.in_ok-count.ensures in
    record {
      read = part.0;
      filled = omega (arith, part.1, longer);
      short = omega (arith, room.short, longer);
      faults = c.in_ok-count.ensures.faults ∙ c.loop-bytes.invariant.faults;
    }
