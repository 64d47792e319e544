use Rattle.std.proofs.Common.{◌∙◌}
use Rattle.sval_buffer.proofs.KeptNames.{stands_shown, has_shown_name}
use Rattle.sval_buffer.proofs.named.NamedCallsCallStore.stream_end.Goals as goal

pub shown_label-label-requires : goal.shown_label-label-requires
shown_label-label-requires g c = (stands_shown _ _ c.self.invariant c.self.view_is c.requires c.index-call.ensures c.as_str.ensures.value).label

pub end-requires : goal.end-requires
end-requires g c =
    let stands = stands_shown _ _ c.self.invariant c.self.view_is c.requires c.index-call.ensures c.as_str.ensures.value in
    has_shown_name stands (c.as_ref.ensures.value ∙ c.shown_label-label.ensures) c.name.ensures
