use Rattle.std.proofs.Common.{◌-◌, ◌≡◌, ◌≤◌, ◌^◌, take, vec_len}
use Rattle.sval_io.proofs.ReadParts.{IsPartlyRead}
use Rattle.sval_io.proofs.reading.read_input.Given as goal

abbrev pub invariant-loop-filled : goal.invariant-loop-filled
invariant-loop-filled g l = record {
  read : IsPartlyRead (g.I.Source.told l.initial.input).left (g.I.Source.told l.input).left (take l.filled l.bytes.items);
  filled : l.filled ≤ vec_len l.bytes;
  short : vec_len l.bytes ≤ 2 ^ 24;
  faults : (g.I.Source.told l.input).faults ≡ (g.I.Source.told l.initial.input).faults;
}

abbrev pub decreases-loop-filled : goal.decreases-loop-filled
decreases-loop-filled g l = 16777216 - l.filled
