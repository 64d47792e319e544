use Rattle.std.proofs.Common.{sym, subst, arith}
use Rattle.sval_cbor_read.specs.SeenNodes.{NodesStand}
use Rattle.sval_cbor_read.specs.SeenReader.{spot_of}
use Rattle.sval_cbor_read.proofs.Loop.{reached_by, nearer_by, reached_first, makes_some, stuck_is_bad, end_is_reached, front_is}
use Rattle.sval_cbor_read.proofs.CborFirsts.{begins_by}
use Rattle.sval_cbor_read.proofs.InnerItems.{ends_all}
use Rattle.sval_cbor_read.proofs.document.read_item.Goals as goal

pub loop-reader-init : goal.loop-reader-init
loop-reader-init c = record {
  reached = reached_first c.args.bytes.now _ (c.new-reader.ensures.starts c.args.bytes.now);
  within = let e = c.new-reader.ensures.at in omega arith;
  kept = subst (NodesStand c.args.bytes.now) (sym c.new-reader.ensures.nodes) tt;
}

pub loop-reader-preserved : goal.loop-reader-preserved
loop-reader-preserved c =
    let on = (rw c.in-Ok-true.field-0-test at c.in-Ok-true.ensures.goes) in
    record { reached = reached_by on.goes c.loop-reader.invariant.reached; within = on.within; kept = on.kept c.loop-reader.invariant.kept }

pub loop-reader-smaller : goal.loop-reader-smaller
loop-reader-smaller c = let on = (rw c.in-Ok-true.field-0-test at c.in-Ok-true.ensures.goes) in nearer_by on.goes

pub returns-in-Ok-false-clause-err : goal.returns-in-Ok-false-clause-err
returns-in-Ok-false-clause-err c =
    let on = (rw c.in-Ok-false.field-0-test at c.in-Ok-false.ensures.goes) in
    stuck_is_bad c.args.bytes.now (spot_of c.args.bytes.now c.loop-reader.reader) _ c.loop-reader.invariant.reached on.goes on.within

pub returns-in-Err-clause-err : goal.returns-in-Err-clause-err
returns-in-Err-clause-err c = rw c.from.ensures (makes_some c.args.bytes.now (spot_of c.args.bytes.now c.loop-reader.reader) c.loop-reader.invariant.reached c.in-Err.ensures.no_memory)

pub returns-clause-front : goal.returns-clause-front
returns-clause-front c = front_is c.args.bytes.now c.loop-reader.reader c.loop-reader-test.ensures c.loop-reader.invariant.reached c.loop-reader.invariant.within

pub returns-clause-ended : goal.returns-clause-ended
returns-clause-ended c = end_is_reached c.args.bytes.now c.loop-reader.reader c.loop-reader-test.ensures c.loop-reader.invariant.reached

pub returns-clause-kept : goal.returns-clause-kept
returns-clause-kept c =
    let front = front_is c.args.bytes.now c.loop-reader.reader c.loop-reader-test.ensures c.loop-reader.invariant.reached c.loop-reader.invariant.within in
    record { stand = c.loop-reader.invariant.kept; ends = ends_all front.item front.same; begins = begins_by c.args.bytes.now c.loop-reader.reader.nodes.items front.item front.same c.loop-reader.invariant.kept }
