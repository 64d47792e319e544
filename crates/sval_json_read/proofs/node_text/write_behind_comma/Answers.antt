use Rattle.std.proofs.Common.{◌++◌, codes, drop, length, sym, subst, arith}
use Rattle.std.specs.List.{between}
use Rattle.std.proofs.lemmas.Slice.{between_to_end}
use Rattle.sval_io.specs.Sinks.{WritesAll}
use Rattle.sval_json_read.proofs.NodeTexts.{both_written}
use Rattle.sval_json_read.proofs.node_text.write_behind_comma.Goals as goal

pub returns : goal.returns
returns g c =
    let before = c.args.before.now in
    let rest = between c.args.from c.args.to c.args.bytes.now ++ c.args.behind.now in
    let result = c.write_between.result in
    let new = g.K.Sink.told c.write_between.new.out in
    let wrote = subst (λ row. WritesAll result (g.K.Sink.told c.write_in_place.new.sink) (row ++ rest) new)
    (between_to_end before 1 (length before) (omega arith)) c.write_between.ensures in
    subst (λ row. WritesAll result (g.K.Sink.told c.args.out.now) (row ++ rest) new) (sym c.requires.comma)
    (both_written new (codes ",") (drop 1 before ++ rest) result c.in_ok-write_in_place.ensures.writes wrote)
