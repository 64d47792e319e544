use Rattle.std.proofs.Common.{Ok, Err, sym, subst}
use Rattle.std.proofs.lemmas.Int.{to_z-of_z}
use mir.Syntax.{w64}
use mir.Val.{SFits}
use Rattle.sval_label.specs.Calls.{Call, I64}
use Rattle.sval_core.specs.Law.{Answers}
use Rattle.sval_json_read.proofs.ParsedNumbers.{parse-reads}
use Rattle.sval_json_read.proofs.NumberStreams.{emits_whole, emits_text}
use Rattle.sval_json_read.proofs.number_calls.stream_number.Goals as goal

pub returns-in-Ok : goal.returns-in-Ok
returns-in-Ok g c =
    let parsed = c.in-Ok.ensures.value.0 in
    let reads = parse-reads w64 {E = Unit {0}} c.args.text.now (Ok c.in-Ok.number) c.requires parsed in
    let fits = subst (SFits w64) (sym parsed.1) parsed.0.1 in
    let old = g.S.Stream.standing c.args.stream.now in
    let new = g.S.Stream.standing c.stream_whole.new.stream in
    emits_whole g.S.Stream.law old c.args.text.now c.stream_whole.result new c.in-Ok.number reads.0 reads.1
    (subst (λ n. Answers g.S.Stream.law c.stream_whole.result old (Call.Int I64 n) new) (to_z-of_z w64 c.in-Ok.number fits) c.stream_whole.ensures)

pub returns-in-Err : goal.returns-in-Err
returns-in-Err g c =
    emits_text g.S.Stream.law (g.S.Stream.standing c.args.stream.now) c.args.text.now c.stream_text_under.result (g.S.Stream.standing c.stream_text_under.new.stream)
    (parse-reads w64 c.args.text.now (Err c.in-Err.field-0) c.requires c.in-Err.ensures.value.0) c.stream_text_under.ensures
