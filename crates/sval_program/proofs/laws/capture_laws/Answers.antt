use Rattle.sval_program.proofs.laws.capture_laws.Goals as goal
use Rattle.sval_program.proofs.CapturedMemory.{capturing_takes_memory}

pub returns : goal.returns
returns c = capturing_takes_memory
