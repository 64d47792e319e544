use Rattle.std.proofs.Common.{length, ◌-◌}
use Rattle.sval_json.proofs.Readings.{ReadsOn}
use Rattle.sval_json.proofs.number.NumberMachine.read_run.Given as goal

abbrev pub invariant-loop-count : goal.invariant-loop-count
invariant-loop-count l = ReadsOn l.self.negative l.initial.phase l.phase l.bytes l.count

abbrev pub decreases-loop-count : goal.decreases-loop-count
decreases-loop-count l = length l.bytes - l.count
