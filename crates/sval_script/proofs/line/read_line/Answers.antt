use Rattle.std.proofs.Common.{ap, subst, drop, sym}
use Rattle.std.proofs.lemmas.List.{take_rest}
use Rattle.sval_script.specs.LineCalls.{stored}
use Rattle.sval_script.specs.MadeLines.{IsMade}
use Rattle.sval_script.specs.NextFields.{first_call}
use Rattle.sval_script.proofs.KnownLines.{kept_made}
use Rattle.sval_script.proofs.line.read_line.Goals as goal

pub returns-in-Some-clause-made : goal.returns-in-Some-clause-made
returns-in-Some-clause-made c =
    let script = c.args.script.now in
    let made = kept_made script c.in-Some.len c.in-Some.kept (stored c.args.store.now) (stored c.put_kept.new.self) c.in-Some.ensures.kept c.in_ok-put_kept.ensures.bytes c.in_ok-put_kept.ensures.numbers in
    rw (take_rest script c.in-Some.len) made
