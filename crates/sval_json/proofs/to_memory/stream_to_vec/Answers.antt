use Rattle.sval_json.proofs.Given.{given_none}
use Rattle.sval_json.proofs.to_memory.stream_to_vec.Goals as goal

pub returns-in-Err : goal.returns-in-Err
returns-in-Err g c = given_none {old = c.new-sink.result} {new = c.stream_to_io_write.new.out} c.in-Err.error c.in-Err.ensures
