use Rattle.std.proofs.Common.{subst}
use Rattle.sval_json_read.specs.JsonLimits.{IsWithin}
use Rattle.sval_json_read.proofs.LimitedValues.{fits-in}
use Rattle.sval_json_read.proofs.document.JsonDoc.read_str_with.Goals as goal

pub returns-in-Ok-clause-within : goal.returns-in-Ok-clause-within
returns-in-Ok-clause-within c = subst (λ bytes. IsWithin bytes c.args.limits) c.as_bytes.ensures.value c.in-Ok.ensures.within

pub returns-in-Ok-clause-fits : goal.returns-in-Ok-clause-fits
returns-in-Ok-clause-fits c =
    fits-in c.args.text.now c.args.limits (subst (λ bytes. IsWithin bytes c.args.limits) c.as_bytes.ensures.value c.in-Ok.ensures.within) _ c.of_nodes.ensures.document
