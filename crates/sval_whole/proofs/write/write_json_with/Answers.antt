use Rattle.std.proofs.Common.{sym, subst, Err}
use Rattle.sval_whole.specs.declared.error.WriteError.{WriteError}
use Rattle.sval_whole.specs.Whole.{WritesJson}
use Rattle.sval_whole.proofs.Whole.{unchecked_writes}
use Rattle.sval_whole.proofs.write.write_json_with.Goals as goal

-- nothing was written
pub returns-in-Err : goal.returns-in-Err
returns-in-Err g c =
    let e = g.V.Value.emission c.args.v.now in
    let found = c.in-Err.ensures in
    subst (λ (why : WriteError). WritesJson c.args.variants e g.K.Sink.told (Err why) c.args.out.now c.args.out.now) (sym c.from.ensures)
    (unchecked_writes c.args.variants e g.K.Sink.told c.args.out.now c.in-Err.found found.bad_call found.refused found.unfinished found.no_memory found.comes)
