use Rattle.std.proofs.Common.{Ok, Err, sym, ap, ◌∙◌}
use Rattle.sval_json_read.specs.Lookups.{u64_of}
use Rattle.sval_json_read.proofs.FirstNodes.{number_is}
use Rattle.sval_json_read.proofs.ParsedNaturals.{parse-reads, fits_some, no_fit}
use Rattle.sval_json_read.proofs.json_ref.JsonRef.as_u64.Goals as goal

pub returns-in-Ok : goal.returns-in-Ok
returns-in-Ok c =
    let reads = parse-reads 64 {E = Unit {0}} c.in-Some.text.now (Ok c.in-Ok.number) c.in-Some.ensures.proper c.in-Ok.ensures.value.0 in
    fits_some 64 c.in-Some.text.now c.in-Ok.number reads.0 reads.1 ∙ ap u64_of (sym (number_is c.args.self.now c.in-Some.text.now c.in-Some.ensures.number))

pub returns-in-Err : goal.returns-in-Err
returns-in-Err c =
    no_fit 64 c.in-Some.text.now (parse-reads 64 c.in-Some.text.now (Err c.in-Err.field-0) c.in-Some.ensures.proper c.in-Err.ensures.value.0)
    ∙ ap u64_of (sym (number_is c.args.self.now c.in-Some.text.now c.in-Some.ensures.number))
