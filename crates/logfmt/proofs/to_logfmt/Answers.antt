use Rattle.std.proofs.Common.{sym, subst, string_bytes}
use Rattle.logfmt.specs.Writing.{GivesText, Fails, written_line}
use Rattle.logfmt.proofs.Runs.{streamed, stops, streamed_text, stops_for_memory}
use Rattle.logfmt.proofs.Spelled.{told_line}
use Rattle.logfmt.proofs.to_logfmt.Goals as goal

pub returns-in-Ok : goal.returns-in-Ok
returns-in-Ok g c =
    let e = g.V.Value.emission c.args.value.now in
    let due = streamed e c.new-writer.result c.stream.new.stream c.new-writer.ensures c.in-Ok.ensures in
    let calls : GivesText string_bytes c.into_line.result (written_line e) = subst (GivesText string_bytes c.into_line.result) (sym due) c.into_line.ensures.line in record {
      tree = λ t tells. subst (GivesText string_bytes c.into_line.result) (told_line e t tells) calls;
      calls = calls;
      memory = λ is. streamed_text e c.new-writer.result c.stream.new.stream c.new-writer.ensures c.in-Ok.ensures (c.into_line.ensures.memory is);
    }

pub returns-in-Err : goal.returns-in-Err
returns-in-Err g c =
    let e = g.V.Value.emission c.args.value.now in
    let due = stops e c.new-writer.result c.stream.new.stream c.new-writer.ensures c.in-Err.ensures in
    let calls : Fails c.cause.result (written_line e) = subst (λ why. Fails why (written_line e)) (sym c.cause.ensures) due in record {
      tree = λ t tells. subst (Fails c.cause.result) (told_line e t tells) calls;
      calls = calls;
      memory = λ is. stops_for_memory e c.new-writer.result c.stream.new.stream c.new-writer.ensures c.in-Err.ensures (cc (is, c.cause.ensures));
    }
