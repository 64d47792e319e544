use Rattle.std.proofs.Common.{arith, ◌≡◌, ◌≤◌, ◌+◌, ◌-◌, ◌∙◌, ap, sym, length, take, drop}
use Rattle.std.proofs.lemmas.List.{length-take-le, length-drop}
use Rattle.sval_script.specs.SeenBytes.{SeenBytes}
use Rattle.sval_script.proofs.RoomBytes.{first_put}
use Rattle.sval_script.proofs.bytes.Bytes.put_text.Goals as goal

pub returns-clause-stored : goal.returns-clause-stored
returns-clause-stored c =
    let len = c.self.inside.len in
    let room = c.deref_mut.result.now in
    let out = c.copy_from_slice.new.self in
    let is : room ≡ c.lengthen.new.room.items = c.deref_mut.ensures.value in
    let old : len ≤ length c.self.inside.room.items = c.self.invariant in
    let long : len + 16 ≤ length room = rw is c.in_ok-lengthen.ensures.long in
    let part : length (take (len + 16 - len) (drop len room)) ≡ len + 16 - len = length-take-le (len + 16 - len) (drop len room) (omega (arith, length-drop len room)) in
    let size : length out ≡ 16 = c.copy_from_slice.ensures.len ∙ part ∙ omega arith in
    let within : len + 16 ≤ c.lengthen.new.room.len = omega (arith, c.deref_mut.ensures.len) in
    first_put c.args.self.now.items c.self.inside.room.items room out c.args.text _ _ len c.args.len c.lengthen.new.room.len
    c.requires c.copy_from_slice.ensures.after size (ap (λ (s : SeenBytes). s.items) (sym c.self.view_is)) (ap (take len) is ∙ c.lengthen.ensures.same.same len old) (omega arith) within
