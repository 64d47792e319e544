use Rattle.sval_buffer.specs.SeenParts.{seen_parts}
use Rattle.sval_buffer.proofs.Replaying.{IsReplayed}
use Rattle.sval_buffer.proofs.one_pass.replay_parts.Given as goal

abbrev pub invariant-loop-place : goal.invariant-loop-place
invariant-loop-place g l = IsReplayed g.S.Stream.law (g.S.Stream.standing l.initial.stream) (g.S.Stream.standing l.stream) (seen_parts l.stores l.parts) l.place l.going
