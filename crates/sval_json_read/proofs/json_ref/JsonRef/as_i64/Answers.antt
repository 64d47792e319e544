use Rattle.std.proofs.Common.{Ok, Err, Some, sym, ap, subst, ◌∙◌}
use Rattle.std.proofs.lemmas.Int.{to_z-of_z}
use mir.Syntax.{w64}
use mir.Val.{SFits}
use Rattle.sval_json_read.specs.Lookups.{i64_of}
use Rattle.sval_json_read.proofs.FirstNodes.{number_is, fits_some, no_fit}
use Rattle.sval_json_read.proofs.ParsedNumbers.{parse-reads}
use Rattle.sval_json_read.proofs.json_ref.JsonRef.as_i64.Goals as goal

pub returns-in-Ok : goal.returns-in-Ok
returns-in-Ok c =
    let parsed = c.in-Ok.ensures.value.0 in
    let reads = parse-reads w64 {E = Unit {0}} c.in-Some.text.now (Ok c.in-Ok.number) c.in-Some.ensures.proper parsed in
    let fits = subst (SFits w64) (sym parsed.1) parsed.0.1 in
    ap Some (to_z-of_z w64 c.in-Ok.number fits) ∙ fits_some c.in-Some.text.now c.in-Ok.number reads.0 reads.1 ∙ ap i64_of (sym (number_is c.args.self.now c.in-Some.text.now c.in-Some.ensures.number))

pub returns-in-Err : goal.returns-in-Err
returns-in-Err c =
    no_fit c.in-Some.text.now (parse-reads w64 c.in-Some.text.now (Err c.in-Err.field-0) c.in-Some.ensures.proper c.in-Err.ensures.value.0)
    ∙ ap i64_of (sym (number_is c.args.self.now c.in-Some.text.now c.in-Some.ensures.number))
