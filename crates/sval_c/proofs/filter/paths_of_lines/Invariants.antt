use Rattle.sval_c.proofs.PathsRead.{AreRead, texts}
use Rattle.sval_c.proofs.filter.paths_of_lines.Given as goal

-- the lines so far are paths, which were read
abbrev pub invariant-loop-word : goal.invariant-loop-word
invariant-loop-word l = AreRead (texts l.yielded) l.paths l.line
