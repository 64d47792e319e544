use Rattle.sval_relay.specs.Made.{name_calls}
use Rattle.sval_relay.proofs.made.name_field.Goals as goal

pub returns : goal.returns
unfolding name_calls
returns g c = rw (c.with_tag-label.ensures, c.new_computed.ensures, c.requires.first, c.format.ensures.text) at c.text_field.ensures
