use Rattle.std.proofs.Common.{rules, arith, ◌<◌, ◌^◌}
use Rattle.sval_relay.proofs.MadeAnswers.{tells_nothing, tells_front, full_for_line, tells_whole}
use Rattle.sval_relay.proofs.made.relay_made.Goals as goal

pub returns-in_err-sizes-clause-tells : goal.returns-in_err-sizes-clause-tells
returns-in_err-sizes-clause-tells g c =
    let small : c.args.count < 2 ^ 64 = omega (arith, c.ranges.count.fits) in
    let nothing = tells_nothing g.K.Sink.told c.args.count small c.args.out.now in search rules

pub returns-in_err-write_sizes-clause-tells : goal.returns-in_err-write_sizes-clause-tells
returns-in_err-write_sizes-clause-tells g c =
    let front = tells_front g.K.Sink.told c.args.count c.in_err-write_sizes.field-0.0 c.in_ok-sizes.ensures.line c.in_err-write_sizes.ensures in search rules

pub returns-in_err-write_sizes-clause-write_room : goal.returns-in_err-write_sizes-clause-write_room
returns-in_err-write_sizes-clause-write_room g c =
    let full = full_for_line g.K.Sink.told c.args.count c.in_err-write_sizes.field-0.0 c.in_ok-sizes.ensures.line c.in_err-write_sizes.ensures in search rules

pub returns-clause-tells : goal.returns-clause-tells
returns-clause-tells g c = tells_whole g.K.Sink.told c.args.count c.in_ok-sizes.ensures.line c.in_ok-write_sizes.ensures
