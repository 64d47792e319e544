use Rattle.std.proofs.lemmas.Result.{err_from_is_err_and}
use Rattle.sval_tool.proofs.TakenBytes.{one_walked, then_unpacked}
use Rattle.sval_tool.proofs.packed.put_by_walk.Goals as goal

pub loop-token-preserved : goal.loop-token-preserved
loop-token-preserved c =
    one_walked _ _ _ _ c.loop-token.invariant c.in-Some.ensures c.put_passed.new.out c.put_passed.new.walk c.in_ok-put_passed.ensures.walk c.in_ok-put_passed.ensures.puts

pub returns-in_err-put_passed : goal.returns-in_err-put_passed
returns-in_err-put_passed c =
    let p = err_from_is_err_and c.from_residual.result c.from_residual.ensures.1 in
    rw (p.1, p.2) (then_unpacked _ _ _ _ c.loop-token.invariant c.in-Some.ensures c.put_passed.new.out c.in_err-put_passed.field-0.0 c.in_err-put_passed.ensures.puts)
