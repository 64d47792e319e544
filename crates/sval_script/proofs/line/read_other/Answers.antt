use Rattle.sval_script.specs.LineCalls.{stored}
use Rattle.sval_script.proofs.KnownLines.{kept_made}
use Rattle.sval_script.proofs.line.read_other.Goals as goal

pub returns-clause-made : goal.returns-clause-made
returns-clause-made c = record {
  is_within = c.in-Some.ensures.within;
  made = kept_made c.args.script.now c.in-Some.len c.in-Some.kept (stored c.args.store.now) (stored c.put_kept.new.self) c.in-Some.ensures.kept (c.in_ok-put_kept.ensures.bytes) (c.in_ok-put_kept.ensures.numbers);
}
