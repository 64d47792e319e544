use Rattle.std.specs.Prelude.{◌≡◌, true, false}
use Rattle.std.proofs.Common.{sym, ◌∙◌}
use Rattle.sval_check.proofs.PassedOn.{one_value_passed, inner_streams, not_whole_passed, stopped_passing}
use Rattle.sval_check.proofs.check_calls_into.Goals as goal

pub returns-in-Ok : goal.returns-in-Ok
returns-in-Ok g c =
    let e = g.V.Value.emission c.args.value.now in
    let first = c.new-passing.ensures.inner in
    let stands = c.new-passing.ensures.stands_for in
    record {
      one_value = one_value_passed g.S.Stream.law g.S.Stream.standing e c.new-passing.result c.stream.new.stream c.args.stream first stands c.in-Ok.ensures
          (λ calls so_far. (c.is_whole.ensures calls so_far).0 c.if-is_whole.true);
      takes = inner_streams g.S.Stream.law g.S.Stream.standing e c.new-passing.result c.stream.new.stream c.args.stream first stands c.into_inner.result c.into_inner.ensures c.in-Ok.ensures;
      cause = tt;
    }

pub returns-in-Ok-2-clause-cause : goal.returns-in-Ok-2-clause-cause
returns-in-Ok-2-clause-cause g c =
    let e = g.V.Value.emission c.args.value.now in
    not_whole_passed g.S.Stream.law g.S.Stream.standing e c.new-passing.result c.stream.new.stream c.args.stream c.new-passing.ensures.inner c.new-passing.ensures.stands_for c.in-Ok-2.ensures
    (λ calls so_far tree spells. let never : true ≡ false = sym ((c.is_whole.ensures calls so_far).1 (tree, spells)) ∙ c.if-is_whole.false in cc never)

pub returns-in-Err-clause-cause : goal.returns-in-Err-clause-cause
returns-in-Err-clause-cause g c =
    let e = g.V.Value.emission c.args.value.now in
    stopped_passing g.S.Stream.law g.S.Stream.standing e c.new-passing.result c.stream.new.stream c.args.stream c.new-passing.ensures.inner c.new-passing.ensures.stands_for c.in-Err.ensures
