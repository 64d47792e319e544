use Rattle.sval_tape.proofs.operands.+write_number_in.Given as goal

abbrev pub decreases-write_number_in : goal.decreases-write_number_in
decreases-write_number_in g l = l.room
