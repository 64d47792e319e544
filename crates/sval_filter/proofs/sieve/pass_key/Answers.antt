use Rattle.std.proofs.Common.{sym}
use Rattle.sval_label.specs.Made.{call_of}
use Rattle.sval_buffer.specs.SeenBuffers.{capture_of}
use Rattle.sval_filter.specs.SeenLayers.{seen_fate}
use Rattle.sval_filter.proofs.Sieving.{key_left_out, key_taken, key_stopped}
use Rattle.sval_filter.proofs.sieve.pass_key.Goals as goal

pub returns-then-is_left_out : goal.returns-then-is_left_out
returns-then-is_left_out g c = key_left_out g.S.Stream.law (g.S.Stream.standing c.args.inner.now) (g.S.Stream.standing c.args.inner.now) (capture_of c.args.held.now).forest (call_of g.L.Lending.text g.L.Lending.bytes c.args.end) (seen_fate c.args.fate.now) (sym c.if-is_left_out.ensures)

pub returns-in-Ok : goal.returns-in-Ok
returns-in-Ok g c = key_taken g.S.Stream.law (g.S.Stream.standing c.args.inner.now) (g.S.Stream.standing c.stream_key.new.inner) (capture_of c.args.held.now).forest (call_of g.L.Lending.text g.L.Lending.bytes c.args.end) (seen_fate c.args.fate.now) (sym c.if-is_left_out.ensures) c.in-Ok.ensures

pub returns-in-Err : goal.returns-in-Err
returns-in-Err g c = key_stopped g.S.Stream.law (g.S.Stream.standing c.args.inner.now) (g.S.Stream.standing c.stream_key.new.inner) (capture_of c.args.held.now).forest (call_of g.L.Lending.text g.L.Lending.bytes c.args.end) (seen_fate c.args.fate.now) (sym c.if-is_left_out.ensures) c.in-Err.ensures
