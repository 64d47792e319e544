use Rattle.std.proofs.Common.{◌-◌, ◌≡◌, ◌≤◌, ◌^◌, vec_len}
use Rattle.sval_program.proofs.ReadScripts.{IsReading}
use Rattle.sval_program.proofs.reading.read_script.Given as goal

abbrev pub invariant-loop-taken : goal.invariant-loop-taken
invariant-loop-taken g l = record {
  reading : IsReading (g.I.Source.told l.initial.input) (g.I.Source.told l.input) l.reader l.taken;
  short : l.taken ≤ 2 ^ 24;
  buffer : vec_len l.buffer ≡ 65536;
}

abbrev pub decreases-loop-taken : goal.decreases-loop-taken
decreases-loop-taken g l = 16777216 - l.taken
