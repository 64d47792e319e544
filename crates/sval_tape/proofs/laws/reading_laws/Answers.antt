use Rattle.sval_tape.proofs.CallsRead.{calls_of_tape}
use Rattle.sval_tape.proofs.BadPlaces.{one_list, no_tape, one_place}
use Rattle.sval_tape.proofs.laws.reading_laws.Goals as goal

pub returns-clause-tapes_read_back : goal.returns-clause-tapes_read_back
returns-clause-tapes_read_back c = calls_of_tape

pub returns-clause-one_list_of_calls : goal.returns-clause-one_list_of_calls
returns-clause-one_list_of_calls c = one_list

pub returns-clause-bad_bytes_are_no_tape : goal.returns-clause-bad_bytes_are_no_tape
returns-clause-bad_bytes_are_no_tape c = no_tape

pub returns-clause-one_bad_place : goal.returns-clause-one_bad_place
returns-clause-one_bad_place c = one_place
