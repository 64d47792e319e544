use Rattle.std.proofs.Common.{Ok, Err, sym, ap, ◌∙◌}
use Rattle.sval_json_read.specs.Lookups.{u128_of}
use Rattle.sval_json_read.proofs.FirstNodes.{number_is}
use Rattle.sval_json_read.proofs.ParsedNaturals.{parse-reads, fits_some, no_fit}
use Rattle.sval_json_read.proofs.json_ref.JsonRef.as_u128.Goals as goal

pub returns-in-Ok : goal.returns-in-Ok
returns-in-Ok c =
    let reads = parse-reads 128 {E = Unit {0}} c.in-Some.text.now (Ok c.in-Ok.number) c.in-Some.ensures.proper c.in-Ok.ensures.value.0 in
    fits_some 128 c.in-Some.text.now c.in-Ok.number reads.0 reads.1 ∙ ap u128_of (sym (number_is c.args.self.now c.in-Some.text.now c.in-Some.ensures.number))

pub returns-in-Err : goal.returns-in-Err
returns-in-Err c =
    no_fit 128 c.in-Some.text.now (parse-reads 128 c.in-Some.text.now (Err c.in-Err.field-0) c.in-Some.ensures.proper c.in-Err.ensures.value.0)
    ∙ ap u128_of (sym (number_is c.args.self.now c.in-Some.text.now c.in-Some.ensures.number))
