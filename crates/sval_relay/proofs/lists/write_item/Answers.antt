use Rattle.std.proofs.lemmas.Result.{err_from_is_err_and}
use Rattle.std.proofs.Common.{true}
use Rattle.sval_relay.specs.Ways.{is_captured}
use Rattle.sval_relay.specs.Verdict.{asked_in, ending}
use Rattle.sval_relay.proofs.ListTexts.{stops_among, stops_ending, with_ending}
use Rattle.sval_relay.proofs.lists.write_item.Goals as goal

pub returns-in_err-write_tree : goal.returns-in_err-write_tree
returns-in_err-write_tree g c = λ tree s p.
    let e = err_from_is_err_and c.from_residual.result c.from_residual.ensures.1 in
    rw (e.1, e.2)
    (stops_among g.K.Sink.told (asked_in c.args.way) tree (is_captured c.args.way) (ending (asked_in c.args.way) true) c.args.out.now c.write_tree.new.out c.in_err-write_tree.field-0.0 (c.in_err-write_tree.ensures tree s p))

pub returns-in_err-write_all : goal.returns-in_err-write_all
returns-in_err-write_all g c = λ tree s p.
    let e = err_from_is_err_and c.from_residual-in_err-write_all.result c.from_residual-in_err-write_all.ensures.1 in
    rw (e.1, e.2)
    (stops_ending g.K.Sink.told (asked_in c.args.way) tree (is_captured c.args.way) (ending (asked_in c.args.way) true) c.args.out.now c.write_tree.new.out c.write_all.new.sink c.in_err-write_all.field-0.0 (c.in_ok-write_tree.ensures tree s p)
    (rw (← c.ending.ensures) c.in_err-write_all.ensures.writes))

pub returns : goal.returns
returns g c = λ tree s p.
    with_ending g.K.Sink.told (asked_in c.args.way) tree (ending (asked_in c.args.way) true) (c.in_ok-write_tree.ensures tree s p) (rw (← c.ending.ensures) c.in_ok-write_all.ensures.writes)
