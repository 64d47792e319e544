use Rattle.std.proofs.Common.{subst}
use Rattle.std.specs.List.{between}
use Rattle.sval_io.specs.Sinks.{WritesAll}
use Rattle.sval_json_read.specs.TextParts.{part_bytes}
use Rattle.sval_json_read.proofs.NodeTexts.{both_written}
use Rattle.sval_json_read.proofs.unchanged.Unchanged.write.Goals as goal

pub returns-clause-writes : goal.returns-clause-writes
returns-clause-writes g c =
    let part = c.args.self.part in
    let new = g.K.Sink.told c.write_all.new.sink in
    let wrote = subst (λ bytes. WritesAll c.write_all.result (g.K.Sink.told c.pass_on.new.out) (between part.from part.to bytes) new) c.as_bytes.ensures.value c.write_all.ensures.writes in
    both_written new c.args.joined.now (part_bytes c.args.text.now part) c.write_all.result c.in_ok-pass_on.ensures.writes wrote
