use Rattle.std.proofs.Common.{subst, Some}
use Rattle.sval_label.specs.Grouped.{grouped_call}
use Rattle.sval_core.specs.Law.{Takes, Refuses}
use Rattle.sval_tape.specs.Taping.{tape_writer_law}
use Rattle.sval_tape.proofs.Writers.{stands, takes_call, refuses_call}
use Rattle.sval_tape.proofs.writer.TapeWriterStreamLent.take.Goals as goal

pub returns-in-Ok : goal.returns-in-Ok
returns-in-Ok g c =
    let told = g.K.Sink.told in
    let old = c.args.self.now in
    let said = grouped_call (λ text. text.now) (λ bytes. bytes.now) c.grouped.result in
    subst (λ call. Takes tape_writer_law (stands (told old.out) old.why) call (stands (told c.write_call.new.sink) old.why))
    (c.grouped.ensures (λ text. text.now) (λ bytes. bytes.now))
    (takes_call (told old.out) (told c.write_call.new.sink) old.why said c.in-Ok.ensures)

pub returns-in-Err : goal.returns-in-Err
returns-in-Err g c =
    let told = g.K.Sink.told in
    let old = c.args.self.now in
    let said = grouped_call (λ text. text.now) (λ bytes. bytes.now) c.grouped.result in
    subst (λ call. Refuses tape_writer_law (stands (told old.out) old.why) call (stands (told c.write_call.new.sink) (Some c.in-Err.why)))
    (c.grouped.ensures (λ text. text.now) (λ bytes. bytes.now))
    (refuses_call (told old.out) (told c.write_call.new.sink) old.why c.in-Err.why said c.in-Err.ensures)
