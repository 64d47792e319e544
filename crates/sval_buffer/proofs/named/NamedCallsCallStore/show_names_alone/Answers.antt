use Rattle.sval_buffer.proofs.NamesAlone.{names_alone}
use Rattle.sval_buffer.proofs.named.NamedCallsCallStore.show_names_alone.Goals as goal

pub returns : goal.returns
returns c = names_alone _ _ c.self.view_is
