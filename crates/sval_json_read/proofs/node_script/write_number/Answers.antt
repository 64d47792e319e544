use Rattle.std.proofs.Common.{◌++◌, Ok, Err, codes, sym, subst}
use Rattle.std.specs.Fmt.{signed_decimal}
use Rattle.std.proofs.lemmas.Int.{to_z-of_z}
use mir.Syntax.{w64}
use mir.Val.{SFits}
use Rattle.sval_io.specs.Sinks.{WritesAll}
use Rattle.sval_json_read.proofs.ParsedNumbers.{parse-reads}
use Rattle.sval_json_read.proofs.TokenScripts.{fitting_lines, other_lines}
use Rattle.sval_json_read.proofs.node_script.write_number.Goals as goal

pub returns-in-Ok : goal.returns-in-Ok
returns-in-Ok g c =
    let parsed = c.in-Ok.ensures.value.0 in
    let reads = parse-reads w64 {E = Unit {0}} c.args.text.now (Ok c.in-Ok.number) c.requires parsed in
    let fits = subst (SFits w64) (sym parsed.1) parsed.0.1 in
    let old = g.K.Sink.told c.args.out.now in
    let new = g.K.Sink.told c.write_whole.new.out in
    subst (λ lines. WritesAll c.write_whole.result old lines new) (sym (fitting_lines c.args.text.now c.in-Ok.number reads.0 reads.1))
    (subst (λ n. WritesAll c.write_whole.result old (codes "i64 " ++ (signed_decimal n ++ codes "\n")) new) (to_z-of_z w64 c.in-Ok.number fits) c.write_whole.ensures)

pub returns-in-Err : goal.returns-in-Err
returns-in-Err g c =
    subst (λ lines. WritesAll c.write_number_text.result (g.K.Sink.told c.args.out.now) lines (g.K.Sink.told c.write_number_text.new.out))
    (sym (other_lines c.args.text.now (parse-reads w64 c.args.text.now (Err c.in-Err.field-0) c.requires c.in-Err.ensures.value.0))) c.write_number_text.ensures
