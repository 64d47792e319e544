use Rattle.std.proofs.Common.{subst}
use Rattle.sval_core.specs.Law.{Emits}
use Rattle.sval_core.specs.Values.{makes}
use Rattle.sval_cbor_read.proofs.cbor_part.CborPartValueRefLent.stream_ref.Goals as goal

pub returns : goal.returns
returns g c =
    subst (λ calls. Emits g.S.Stream.law c.stream_by_itself.result (g.S.Stream.standing c.args.stream.now) (makes calls) (g.S.Stream.standing c.stream_by_itself.new.stream)) c.self.view_is
    c.stream_by_itself.ensures
