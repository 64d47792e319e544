use Rattle.sval_tape.specs.ReadCalls.{name_read}
use Rattle.sval_tape.proofs.JsonFront.{alone_at, none_at}
use Rattle.sval_tape.proofs.json.alone.Goals as goal

pub returns : goal.returns
returns c = alone_at (name_read c.in_ok-name.name) c.args.bytes.now c.in_ok-name.rest.now c.in_ok-name.ensures c.in_ok-put_own.ensures

pub returns-in-Some : goal.returns-in-Some
returns-in-Some c = none_at c.args.bytes.now c.in-Some.rest.now c.in-Some.ensures c.in_ok-put.ensures
