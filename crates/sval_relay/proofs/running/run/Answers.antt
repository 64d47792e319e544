use Rattle.sval_relay.proofs.Headline.{headline}
use Rattle.sval_relay.proofs.running.run.Goals as goal

pub returns-clause-done : goal.returns-clause-done
returns-clause-done g c = headline c.run.ensures.ends
