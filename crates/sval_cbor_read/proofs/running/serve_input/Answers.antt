use Rattle.std.proofs.Common.{List, ℕ, subst}
use Rattle.sval_program.specs.Jobs.{ServesBytes}
use Rattle.sval_program.proofs.JobRuns.{served}
use Rattle.sval_cbor_read.specs.Serves.{cbor_read_terms}
use Rattle.sval_cbor_read.proofs.running.serve_input.Goals as goal

pub returns : goal.returns
returns g c =
    let bytes : ServesBytes cbor_read_terms g.K.Sink.told c.args.form c.in_ok-bytes.bytes.items c.serve_bytes.result c.args.out.now c.serve_bytes.new.out =
    subst (λ (input : List ℕ). ServesBytes cbor_read_terms g.K.Sink.told c.args.form input c.serve_bytes.result c.args.out.now c.serve_bytes.new.out) c.as_slice.ensures.value c.serve_bytes.ensures in
    served cbor_read_terms g.I.Source.told g.K.Sink.told c.args.input.now c.read_input.new.input c.args.out.now c.serve_bytes.new.out c.args.form c.serve_bytes.result c.in_ok-bytes.ensures.ok bytes
