use Rattle.sval_relay.specs.Made.{id_calls}
use Rattle.sval_relay.proofs.made.id_field.Goals as goal

pub returns : goal.returns
unfolding id_calls
returns g c = rw (c.with_tag-label.ensures, c.new_computed.ensures) at c.number_field.ensures
