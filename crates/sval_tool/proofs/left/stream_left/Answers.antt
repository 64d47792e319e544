use Rattle.std.proofs.lemmas.Result.{err_from_is_err_and}
use Rattle.sval_tool.proofs.LeftStreams.{one_passed, then_halts}
use Rattle.sval_tool.proofs.left.stream_left.Goals as goal

pub loop-token-preserved : goal.loop-token-preserved
loop-token-preserved g c =
    one_passed g.S.Stream.law _ _ _ _ _ _ _ c.loop-token.invariant c.in-Some.ensures (g.S.Stream.standing c.pass_token.new.stream) c.pass_token.new.walk c.in_ok-pass_token.ensures.walk c.in_ok-pass_token.ensures.streams

pub returns-in_err-pass_token : goal.returns-in_err-pass_token
returns-in_err-pass_token g c =
    let p = err_from_is_err_and c.from_residual.result c.from_residual.ensures.1 in
    rw (p.1, p.2) (then_halts g.S.Stream.law _ _ _ _ _ _ _ c.loop-token.invariant c.in-Some.ensures (g.S.Stream.standing c.pass_token.new.stream) c.in_err-pass_token.field-0.0 c.in_err-pass_token.ensures.streams)
