use Rattle.std.proofs.Common.{◌∙◌, sym}
use Rattle.std.proofs.lemmas.Iterator.Adapters.{option_map_id}
use Rattle.sval_lower.proofs.default_value.to_i128.Goals as goal

pub returns : goal.returns
returns g c = sym (option_map_id c.item.result) ∙ c.item.ensures
