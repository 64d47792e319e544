use Rattle.std.proofs.Common.{List}
use Rattle.sval_buffer.specs.Nested.{Going, Linked}
use Rattle.sval_buffer.specs.SeenParts.{seen_parts}
use Rattle.sval_buffer.proofs.Replaying.{IsWalked, steps_left}
use Rattle.sval_buffer.proofs.one_pass.end_before.Given as goal

abbrev pub invariant-loop-newest : goal.invariant-loop-newest
invariant-loop-newest g l =
    let seen = seen_parts l.stores l.parts in
    (gs : List Going) → Linked seen l.fn.going gs → IsWalked g.S.Stream.law (g.S.Stream.standing l.initial.stream) (g.S.Stream.standing l.stream) seen l.place l.newest gs

abbrev pub decreases-loop-newest : goal.decreases-loop-newest
decreases-loop-newest g l = steps_left l.newest
