use Rattle.std.specs.Prelude.{option_map}
use Rattle.sval_lower.proofs.FoundItems.{tag_is_held}
use Rattle.sval_lower.proofs.default_value.tag.Goals as goal

pub returns-in-Ok : goal.returns-in-Ok
returns-in-Ok g c = tag_is_held.0 (g.V.Value.emission c.args.value.now) (option_map g.T.GivenTag.text c.stream.new.stream.held) c.in-Ok.ensures

pub returns-in-Err : goal.returns-in-Err
returns-in-Err g c = tag_is_held.1 (g.V.Value.emission c.args.value.now) (option_map g.T.GivenTag.text c.stream.new.stream.held) c.in-Err.ensures
