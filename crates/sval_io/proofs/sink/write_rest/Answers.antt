use Rattle.std.proofs.Common.{◌<◌, length, rules, arith}
use Rattle.std.proofs.lemmas.Bool.Decides.{nat_tests}
use Rattle.sval_io.proofs.Pieces.{written_on, stopped_in_rest}
use Rattle.sval_io.proofs.sink.write_rest.Goals as goal

pub loop-rest-preserved : goal.loop-rest-preserved
loop-rest-preserved g c = written_on c.in_ok-count.count c.loop-rest.invariant c.in_ok-count.ensures

pub returns-in_err-count-clause-writes : goal.returns-in_err-count-clause-writes
returns-in_err-count-clause-writes g c =
    let some : 0 < length c.loop-rest.rest.now = grind (arith, nat_tests, c.loop-rest-test.true, c.is_empty.ensures) in
    let stops = stopped_in_rest c.loop-rest.invariant some c.in_err-count.ensures in search rules
