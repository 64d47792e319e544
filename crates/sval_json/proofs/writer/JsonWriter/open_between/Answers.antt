use Rattle.std.proofs.Common.{subst, List, ℕ, ◌++◌}
use Rattle.sval_json.specs.Actions.{write, ◌then◌}
use Rattle.sval_json.specs.Steps.{refuse_in_key}
use Rattle.sval_json.specs.WriterLaw.{Does, writer_view}
use Rattle.sval_json.proofs.Combined.{does_then}
use Rattle.sval_json.proofs.writer.JsonWriter.open_between.Goals as goal

pub returns : goal.returns
returns g c =
    let r = c.write_between.result in
    let old = writer_view g.K.Sink.told c.args.self.now in
    let new = writer_view g.K.Sink.told c.write_between.new.self in
    subst (λ (text : List ℕ). Does (refuse_in_key then write (c.args.before.now ++ text ++ c.args.after.now)) r old new) c.escaped.ensures
    (does_then _ _ r _ _ c.in_ok-refuse_in_key.ensures c.write_between.ensures)
