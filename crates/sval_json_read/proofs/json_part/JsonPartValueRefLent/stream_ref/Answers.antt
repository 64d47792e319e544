use Rattle.std.proofs.Common.{ap, subst}
use Rattle.sval_core.specs.Law.{Emits}
use Rattle.sval_core.specs.Values.{makes}
use Rattle.sval_json_read.specs.Calls.{document_calls}
use Rattle.sval_json_read.proofs.json_part.JsonPartValueRefLent.stream_ref.Goals as goal

pub returns : goal.returns
returns g c =
    subst (λ calls. Emits g.S.Stream.law c.stream_alone.result (g.S.Stream.standing c.args.stream.now) (makes calls) (g.S.Stream.standing c.stream_alone.new.stream)) (ap document_calls c.self.view_is)
    c.stream_alone.ensures
