use Rattle.sval_core.specs.OneValue.{IsOneValue}
use Rattle.sval_json_read.proofs.WholeDocuments.{part_is_whole}
use Rattle.std.proofs.Common.{ap, subst}
use Rattle.sval_core.specs.Law.{Emits}
use Rattle.sval_core.specs.Values.{makes}
use Rattle.sval_json_read.specs.Calls.{document_calls}
use Rattle.sval_json_read.proofs.json_part.JsonPartValueLent.stream.Goals as goal

pub returns-then-skip_value : goal.returns-then-skip_value
returns-then-skip_value g c =
    let whole = subst (λ part. IsOneValue (makes (document_calls part))) c.self.view_is (part_is_whole c.self.inside.text.now c.self.inside.nodes.now c.self.invariant) in
    c.skip_value.ensures.skipped c.if-skip_value.true (makes (document_calls c.args.self.now)) whole

pub returns : goal.returns
returns g c =
    rw (← c.skip_value.ensures.left c.if-skip_value.false)
    (subst (λ calls. Emits g.S.Stream.law c.stream_alone.result (g.S.Stream.standing c.skip_value.new.self) (makes calls) (g.S.Stream.standing c.stream_alone.new.stream)) (ap document_calls c.self.view_is)
    c.stream_alone.ensures)
