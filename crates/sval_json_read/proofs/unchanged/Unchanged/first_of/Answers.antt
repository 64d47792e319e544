use Rattle.std.proofs.Common.{◌<◌, length, arith}
use Rattle.sval_json_read.specs.declared.node.Place.TheVariants.{Alone}
use Rattle.sval_json_read.specs.declared.node.Node.TheVariants.{Null}
use Rattle.sval_json_read.proofs.UnchangedNodes.{one_more}
use Rattle.sval_json_read.proofs.unchanged.Unchanged.first_of.Goals as goal

pub loop-found-preserved : goal.loop-found-preserved
loop-found-preserved c =
    let within : c.loop-found.found.count < length c.args.nodes.now = omega arith in
    one_more (Null Alone) c.loop-found.invariant within c.ready_around-ready.result c.in-Some.to c.is_begin.result c.ready_around-ready.ensures c.in-Some.ensures
    (c.is_begin.ensures c.args.text.now)
