use Rattle.std.proofs.Common.{inl, inr}
use Rattle.sval_check.proofs.stream_into.Goals as goal

pub returns-in-Err-clause-cause : goal.returns-in-Err-clause-cause
returns-in-Err-clause-cause g c = inr (inl (g.S.Stream.standing c.stream.new.stream, c.in-Err.ensures))
