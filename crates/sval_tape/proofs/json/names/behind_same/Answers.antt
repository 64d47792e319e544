use Rattle.std.proofs.lemmas.Bool.Decides.{Decides-eqb}
use Rattle.std.proofs.lemmas.Slice.Eq.{strip_prefix_is}
use Rattle.sval_tape.proofs.JsonFront.{if_stripped}
use Rattle.sval_tape.proofs.json.names.behind_same.Goals as goal

pub returns : goal.returns
returns c = if_stripped (λ x. x.now) c.args.bytes.now _ c.strip_prefix.result (strip_prefix_is Decides-eqb c.args.bytes.now _ c.strip_prefix.result c.strip_prefix.ensures.cases)
