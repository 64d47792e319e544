use Rattle.std.proofs.Common.{refl, rules, sym, ◌∙◌, subst}
use Rattle.sval_label.specs.Grouped.{grouped_call}
use Rattle.sval_io.specs.Sinks.{WritesAll}
use Rattle.sval_script.specs.Printing.{word_of, whole_line}
use Rattle.sval_script.proofs.PrintedPieces.{line_split, joined_is}
use Rattle.sval_script.proofs.printer.write_line.Goals as goal

pub returns-in-Some : goal.returns-in-Some
returns-in-Some g c =
    let call = grouped_call (λ text. text.now) (λ bytes. bytes.now) c.args.call in
    subst (λ bytes. WritesAll c.write_in_place.result (g.K.Sink.told c.args.sink.now) bytes (g.K.Sink.told c.write_in_place.new.sink))
    (c.in-Some.ensures ∙ sym (line_split call (word_of call) refl)) c.write_in_place.ensures.writes

pub returns-in-Ok : goal.returns-in-Ok
returns-in-Ok g c =
    let call = grouped_call (λ text. text.now) (λ bytes. bytes.now) c.args.call in
    subst (λ bytes. WritesAll c.write_in_place-in-Ok.result (g.K.Sink.told c.args.sink.now) bytes (g.K.Sink.told c.write_in_place-in-Ok.new.sink))
    (c.as_slice.ensures ∙ joined_is c.new-joined.result c.write_pieces.new.sink (whole_line call) (search rules) c.in-Ok.ensures) c.write_in_place-in-Ok.ensures.writes
