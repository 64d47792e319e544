use Rattle.sval_tape.specs.JsonAtFront.{FragmentsAt}
use Rattle.sval_tape.proofs.json.text.fragments.Given as goal

-- so far
abbrev pub invariant-loop : goal.invariant-loop
invariant-loop l = FragmentsAt l.bytes l.rest l.initial.out.bytes l.out.bytes l.size
