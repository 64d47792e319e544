use Rattle.std.proofs.Common.{◌≡◌, sym, ap, subst, ◌∙◌}
use Rattle.std.specs.Io.KnownBytes.{append_known}
use Rattle.std.specs.Io.Buffered.{writer_inner}
use Rattle.sval_io.specs.Known.{known_if, told_if, told_behind, IsPassedOn}
use Rattle.sval_io.specs.OverBuffer.{bytes_held, sink_faults, known_supply}
use Rattle.sval_io.specs.Watched.{watched_writer, watched_reader}
use Rattle.sval_program.specs.Streams.{reader_supply}
use Rattle.sval_program.proofs.Streaming.{told_before, left_before, run_told, ends_buffered}
use Rattle.sval_program.proofs.program.run_watched.Goals as goal

pub returns-clause-ends : goal.returns-clause-ends
returns-clause-ends g c =
    let tells = g.N.Watch.tells in
    let left = g.R.Read.remaining c.args.stdin in
    let old = g.W.Write.contents c.args.stdout.now in
    let sink = c.run-status.new.out in
    let inner = writer_inner sink.writer in
    let buffer = bytes_held sink in
    let known = known_if tells (g.W.Write.contents (watched_writer inner).now) in
    let input = c.run-status.new.input in
    let supply : known_supply (known_if g.N.Watch.tells_left (g.R.Read.remaining (watched_reader c.new-input.result.reader))) c.new-input.result.faults ≡ reader_supply left =
    rw c.new-input.ensures (rw c.new.ensures (left_before g.N.Watch.tells_left left c.requires.tells_left)) in
    let contents = c.in-Ok.ensures.contents ∙ ap (λ writer. known_if tells (g.W.Write.contents writer.now)) c.new-writer.ensures in
    let told = told_before _ old c.requires.tells contents c.in-Ok.ensures.empty c.in-Ok.ensures.faults in
    let always = told_behind known buffer (told_if tells (g.W.Write.contents (watched_writer inner).now) inner.told) in
    let passed = subst (λ writer. IsPassedOn (append_known known buffer) buffer (known_if tells (g.W.Write.contents writer))) (sym c.into_writer-2.ensures.now) c.into_writer.ensures in
    ends_buffered tells (known_supply (known_if g.N.Watch.tells_left (g.R.Read.remaining (watched_reader input.reader))) input.faults) (append_known known buffer) buffer (sink_faults sink)
    (g.W.Write.contents c.into_writer-2.result.now) always (run_told c.run-status.ensures.ends supply told) passed
