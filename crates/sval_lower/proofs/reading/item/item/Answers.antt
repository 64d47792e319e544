use Rattle.std.specs.Prelude.{option_map}
use Rattle.sval_lower.proofs.FoundItems.{item_is_found}
use Rattle.sval_lower.proofs.reading.item.item.Goals as goal

pub returns-in-Ok : goal.returns-in-Ok
returns-in-Ok g c = (item_is_found g.R.Reading.once g.R.Reading.read_of g.R.Reading.over).on_ok (g.V.Value.emission c.args.value.now) (option_map g.R.Reading.seen c.stream.new.stream.held) c.in-Ok.ensures

pub returns-in-Err : goal.returns-in-Err
returns-in-Err g c = (item_is_found g.R.Reading.once g.R.Reading.read_of g.R.Reading.over).on_err (g.V.Value.emission c.args.value.now) (option_map g.R.Reading.seen c.stream.new.stream.held) c.in-Err.ensures
