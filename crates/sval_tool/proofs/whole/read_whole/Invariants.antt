use Rattle.std.proofs.Common.{◌-◌, ◌≡◌, ◌≤◌, ◌<◌, ◌^◌, take, vec_len}
use Rattle.sval_io.proofs.ReadParts.{IsPartlyRead}
use Rattle.sval_tool.proofs.whole.read_whole.Given as goal

abbrev pub invariant-loop-bytes : goal.invariant-loop-bytes
invariant-loop-bytes g l = record {
  read : IsPartlyRead (g.I.Source.told l.initial.source).left (g.I.Source.told l.source).left (take l.filled l.bytes.items);
  filled : l.filled ≤ vec_len l.bytes;
  short : vec_len l.bytes < 2 ^ 64;
  faults : (g.I.Source.told l.source).faults ≡ (g.I.Source.told l.initial.source).faults;
}

abbrev pub decreases-loop-bytes : goal.decreases-loop-bytes
decreases-loop-bytes g l = 2 ^ 64 - l.filled
