use Rattle.sval_buffer.proofs.KeptNames.{stands_at, keeps_standing}
use Rattle.sval_buffer.proofs.named.NamedCalls.is_kept.Goals as goal

pub is_same-requires : goal.is_same-requires
is_same-requires c =
    let found = rw c.deref.ensures.value at c.in-Some.ensures.lookup in
    rw c.as_str.ensures.value (stands_at _ _ c.args.place c.in-Some.call.now c.self.invariant found.3.0 found.1).label

pub returns-in-Some : goal.returns-in-Some
returns-in-Some c =
    let found = rw c.deref.ensures.value at c.in-Some.ensures.lookup in
    keeps_standing _ c.args.place c.self.view_is found.3.0 found.1 c.as_str.ensures.value c.is_same.ensures
