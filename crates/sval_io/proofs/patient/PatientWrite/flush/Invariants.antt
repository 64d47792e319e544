use Rattle.std.specs.Io.KnownBytes.{Keeps}
use Rattle.sval_io.proofs.patient.PatientWrite.flush.Given as goal

-- nothing was taken
abbrev pub invariant-loop : goal.invariant-loop
invariant-loop g l = Keeps (g.W.Write.contents l.initial.self-inside.writer) (g.W.Write.contents l.self-inside.writer)
