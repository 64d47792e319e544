use Rattle.std.proofs.Common.{rules, subst, length, ◌≤◌}
use Rattle.sval_cbor_read.proofs.CborCounts.{pairs_fit}
use Rattle.sval_cbor_read.proofs.cbor_parts.CborEntries.count.Goals as goal

pub loop-count-init : goal.loop-count-init
loop-count-init c =
    let fit = pairs_fit c.self.inside.bytes.now c.self.inside.nodes.now c.self.invariant.stand in
    (search rules, subst (λ row. length row ≤ length c.self.inside.nodes.now) c.self.view_is fit)
