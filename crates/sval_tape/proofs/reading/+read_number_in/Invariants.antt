use Rattle.sval_tape.proofs.reading.+read_number_in.Given as goal

abbrev pub decreases-read_number_in : goal.decreases-read_number_in
decreases-read_number_in l = l.room
