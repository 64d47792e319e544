use Rattle.std.proofs.Common.{◌<◌, length, arith}
use Rattle.sval_buffer.proofs.KeptParts.{is_at}
use Rattle.sval_buffer.proofs.OwnedCopies.{next_kept, owns_next}
use Rattle.sval_buffer.proofs.copies.owned_parts.Goals as goal

pub owned-requires : goal.owned-requires
owned-requires g c =
    let at : c.loop-part.part-index < length c.args.parts.now = omega (arith, c.loop-part-test.true) in
    next_kept c.loop-part.invariant c.requires at (is_at c.args.parts.now c.loop-part.part-index at)

pub loop-part-preserved : goal.loop-part-preserved
loop-part-preserved g c =
    let at : c.loop-part.part-index < length c.args.parts.now = omega (arith, c.loop-part-test.true) in
    owns_next c.loop-part.invariant c.requires at (is_at c.args.parts.now c.loop-part.part-index at) _ c.in_ok-owned.ensures.grows c.in_ok-owned.ensures.copy c.in_ok-owned.ensures.kept c.in_ok-push.ensures.items
