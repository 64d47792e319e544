use Rattle.std.proofs.Common.{subst}
use Rattle.sval_core.specs.Law.{Emits}
use Rattle.sval_core.specs.OneValue.{IsOneValue}
use Rattle.sval_core.specs.Values.{makes}
use Rattle.sval_cbor_read.proofs.PartItems.{item_is_whole}
use Rattle.sval_cbor_read.proofs.cbor_part.CborPartValueLent.stream.Goals as goal

pub returns-then-skip_value : goal.returns-then-skip_value
returns-then-skip_value g c =
    let whole = subst (λ part. IsOneValue (makes part)) c.self.view_is (item_is_whole c.self.inside.bytes.now c.self.inside.nodes.now c.self.invariant) in
    c.skip_value.ensures.skipped c.if-skip_value.true (makes c.args.self.now) whole

pub returns : goal.returns
returns g c =
    rw (← c.skip_value.ensures.left c.if-skip_value.false)
    (subst (λ calls. Emits g.S.Stream.law c.stream_by_itself.result (g.S.Stream.standing c.skip_value.new.self) (makes calls) (g.S.Stream.standing c.stream_by_itself.new.stream)) c.self.view_is
    c.stream_by_itself.ensures)
