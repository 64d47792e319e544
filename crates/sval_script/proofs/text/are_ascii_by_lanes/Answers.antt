use Rattle.std.proofs.Common.{arith, ◌-◌, length}
use Rattle.std.proofs.lemmas.List.{take_rest}
use Rattle.sval_script.proofs.AsciiLanes.{ascii_on, ascii_whole}
use Rattle.sval_script.proofs.text.are_ascii_by_lanes.Goals as goal

pub loop-start-preserved : goal.loop-start-preserved
loop-start-preserved g c = record {
  end = c.loop-start.invariant.end;
  within = omega (arith, c.requires.long, c.loop-start-test.true);
  ascii = ascii_on c.args.bytes.now _ c.loop-start.start g.row.N (take_rest c.args.bytes.now c.loop-start.start) c.loop-start.invariant.ascii
      (c.is_ascii_ahead.ensures c.if-not-is_ascii_ahead.false);
}

pub returns : goal.returns
returns g c = λ rest.
    let last = length c.args.bytes.now - g.row.N in
    ascii_whole c.args.bytes.now _ last g.row.N c.loop-start.start (take_rest c.args.bytes.now last) c.loop-start.invariant.end c.loop-start-test.false
    c.loop-start.invariant.ascii (c.is_ascii_ahead-2.ensures rest)
