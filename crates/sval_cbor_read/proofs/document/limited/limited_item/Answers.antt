use Rattle.std.proofs.Common.{length, ap, sym, ◌∙◌, subst, arith, inl}
use Rattle.std.proofs.lemmas.Result.{err_from_is_err_and}
use Rattle.sval_cbor_read.specs.SeenNodes.{NodesStand}
use Rattle.sval_cbor_read.specs.SeenReader.{spot_of}
use Rattle.sval_cbor_read.proofs.Loop.{reached_by, nearer_by, reached_first, makes_some, stuck_is_bad, end_is_reached, front_is}
use Rattle.sval_cbor_read.proofs.CborFirsts.{begins_by}
use Rattle.sval_cbor_read.proofs.InnerItems.{ends_all}
use Rattle.sval_cbor_read.proofs.LimitedHeads.{starts_within, stays_within, passes_limit, fails_within, ends_within}
use Rattle.sval_cbor_read.proofs.UnreadCauses.{limited_cause}
use Rattle.sval_cbor_read.proofs.document.limited.limited_item.Goals as goal

pub loop-alloc-init : goal.loop-alloc-init
loop-alloc-init c = record {
  reached = reached_first c.args.bytes.now _ (c.new-reader.ensures.starts c.args.bytes.now);
  within = let e = c.new-reader.ensures.at in omega arith;
  kept = subst (NodesStand c.args.bytes.now) (sym c.new-reader.ensures.nodes) tt;
  front = starts_within c.args.bytes.now c.args.limits c.new-reader.result (c.new-reader.ensures.front c.args.bytes.now);
  levels = let e = ap length c.new-reader.ensures.opened in omega arith;
}

pub loop-alloc-preserved : goal.loop-alloc-preserved
loop-alloc-preserved c =
    let on = (rw c.in-Ok-true.field-0-test at c.in-Ok-true.ensures.goes) in
    let old = c.loop-alloc.invariant in
    record {
      reached = reached_by on.goes old.reached;
      within = on.within;
      kept = on.kept old.kept;
      front = stays_within c.args.bytes.now c.args.limits c.loop-alloc.reader c.step.new.self c.loop-alloc.begun old.front c.len-kept.result (c.len-kept.ensures ∙ c.loop-alloc.reader.nodes.ok.0) c.in_ok-begun-in-Ok-true.begun on.heads c.in_ok-begun-in-Ok-true.ensures.ok;
      levels = c.in_ok-begun-in-Ok-true.ensures.ok.not_deep;
    }

pub loop-alloc-smaller : goal.loop-alloc-smaller
loop-alloc-smaller c = let on = (rw c.in-Ok-true.field-0-test at c.in-Ok-true.ensures.goes) in nearer_by on.goes

pub returns-in_err-begun-in-Ok-true-clause-err : goal.returns-in_err-begun-in-Ok-true-clause-err
returns-in_err-begun-in-Ok-true-clause-err c =
    let on = (rw c.in-Ok-true.field-0-test at c.in-Ok-true.ensures.goes) in
    let old = c.loop-alloc.invariant in
    let p = err_from_is_err_and c.from_residual.result c.from_residual.ensures.1 in
    rw (p.1, p.2) (passes_limit c.args.bytes.now c.args.limits c.loop-alloc.reader c.step.new.self c.loop-alloc.begun old.front c.len-kept.result (c.len-kept.ensures ∙ c.loop-alloc.reader.nodes.ok.0) c.in_err-begun-in-Ok-true.field-0.0 old.within old.levels on.heads c.in_err-begun-in-Ok-true.ensures.err)

pub whole_error-requires : goal.whole_error-requires
whole_error-requires c =
    let on = (rw c.in-Ok-false.field-0-test at c.in-Ok-false.ensures.goes) in
    stuck_is_bad c.args.bytes.now (spot_of c.args.bytes.now c.loop-alloc.reader) _ c.loop-alloc.invariant.reached on.goes on.within

pub returns-in-Ok-false-clause-err : goal.returns-in-Ok-false-clause-err
returns-in-Ok-false-clause-err c =
    let on = (rw c.in-Ok-false.field-0-test at c.in-Ok-false.ensures.goes) in
    let old = c.loop-alloc.invariant in
    limited_cause c.args.bytes.now c.args.limits _ c.whole_error.result (stuck_is_bad c.args.bytes.now (spot_of c.args.bytes.now c.loop-alloc.reader) _ old.reached on.goes on.within)
    (fails_within c.args.bytes.now c.args.limits c.loop-alloc.reader c.loop-alloc.begun old.front _ on.heads) c.whole_error.ensures

pub returns-in-Err-clause-err : goal.returns-in-Err-clause-err
returns-in-Err-clause-err c = rw c.from.ensures (inl (makes_some c.args.bytes.now (spot_of c.args.bytes.now c.loop-alloc.reader) c.loop-alloc.invariant.reached c.in-Err.ensures.no_memory))

pub returns-clause-front : goal.returns-clause-front
returns-clause-front c = front_is c.args.bytes.now c.loop-alloc.reader c.loop-alloc-test.ensures c.loop-alloc.invariant.reached c.loop-alloc.invariant.within

pub returns-clause-ended : goal.returns-clause-ended
returns-clause-ended c = end_is_reached c.args.bytes.now c.loop-alloc.reader c.loop-alloc-test.ensures c.loop-alloc.invariant.reached

pub returns-clause-kept : goal.returns-clause-kept
returns-clause-kept c =
    let front = front_is c.args.bytes.now c.loop-alloc.reader c.loop-alloc-test.ensures c.loop-alloc.invariant.reached c.loop-alloc.invariant.within in
    record { stand = c.loop-alloc.invariant.kept; ends = ends_all front.item front.same; begins = begins_by c.args.bytes.now c.loop-alloc.reader.nodes.items front.item front.same c.loop-alloc.invariant.kept }

pub returns-clause-within : goal.returns-clause-within
returns-clause-within c = ends_within c.args.bytes.now c.args.limits c.loop-alloc.reader c.loop-alloc.begun c.loop-alloc-test.ensures c.loop-alloc.invariant.front
