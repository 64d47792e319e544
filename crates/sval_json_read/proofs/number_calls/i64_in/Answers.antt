use Rattle.std.proofs.Common.{Ok, Err, sym, subst, ◌∙◌}
use Rattle.std.proofs.lemmas.Int.{to_z-of_z}
use mir.Syntax.{w64}
use mir.Val.{SFits}
use Rattle.sval_json_read.proofs.ParsedNumbers.{parse-reads}
use Rattle.sval_json_read.proofs.number_calls.i64_in.Goals as goal

pub returns-in-Ok : goal.returns-in-Ok
returns-in-Ok c =
    let parsed = c.in-Ok.ensures.value.0 in
    let reads = parse-reads w64 {E = Unit {0}} c.args.text.now (Ok c.in-Ok.number) c.requires parsed in
    let fits = subst (SFits w64) (sym parsed.1) parsed.0.1 in
    record { fits = reads.0; is = to_z-of_z w64 c.in-Ok.number fits ∙ reads.1 }

pub returns-in-Err : goal.returns-in-Err
returns-in-Err c = parse-reads w64 c.args.text.now (Err c.in-Err.field-0) c.requires c.in-Err.ensures.value.0
