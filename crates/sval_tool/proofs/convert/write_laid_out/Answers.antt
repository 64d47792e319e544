use Rattle.std.proofs.Common.{◌≡◌, ℕ, List, [], ap, subst}
use Rattle.sval_io.specs.Sinks.{WritesAll}
use Rattle.sval_io.specs.Taken.{Taken}
use Rattle.sval_pretty.specs.Layout.{pretty}
use Rattle.sval_tool.proofs.LaidOut.{laid_out, unmade}
use Rattle.sval_tool.proofs.convert.write_laid_out.Goals as goal

pub returns-in-Ok : goal.returns-in-Ok
returns-in-Ok g c = λ input r.
    let told = g.K.Sink.told in
    let empty : c.new-json.result.bytes ≡ [] = ap (λ (t : Taken). t.bytes) c.new-json.ensures in
    let all = subst (λ (bytes : List ℕ). WritesAll c.write_pretty.result (told c.args.out.now) (pretty bytes) (told c.write_pretty.new.sink)) c.as_slice.ensures c.write_pretty.ensures in
    laid_out c.args.rule c.args.paths.now input c.new-json.result c.write_left.new.out empty c.write_pretty.result (told c.args.out.now) (told c.write_pretty.new.sink) (c.in-Ok.ensures input r) all

pub returns : goal.returns
returns g c = λ input r.
    let empty : c.new-json.result.bytes ≡ [] = ap (λ (t : Taken). t.bytes) c.new-json.ensures in
    unmade c.args.rule c.args.paths.now input c.new-json.result c.write_left.new.out empty c.in-Err.why (g.K.Sink.told c.args.out.now) (c.in-Err.ensures input r)
