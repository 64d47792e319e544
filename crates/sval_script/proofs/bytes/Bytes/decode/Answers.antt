use Rattle.std.proofs.Common.{arith, ◌≡◌, ◌≤◌, ◌+◌, ◌-◌, ◌/◌, ◌∙◌, true, ap, sym, refl, length, take, drop}
use Rattle.std.specs.Prelude.{is_ok}
use Rattle.std.proofs.lemmas.List.{length-drop, length-take-le}
use Rattle.sval_script.specs.SeenBytes.{SeenBytes}
use Rattle.sval_script.proofs.RoomBytes.{spelled, decoded}
use Rattle.sval_script.proofs.bytes.Bytes.decode.Goals as goal

pub returns-clause-decoded : goal.returns-clause-decoded
returns-clause-decoded c =
    let len = c.self.inside.len in
    let n = length c.args.digits.now / 2 in
    let room = c.deref_mut.result.now in
    let out = c.decode_to_slice.new.out in
    let is : room ≡ c.lengthen.new.room.items = c.deref_mut.ensures.value in
    let ok : is_ok c.decode_to_slice.result ≡ true = sym c.map_err.ensures.variant ∙ ap (λ r. is_ok r) c.in_ok-map_err.was in
    let spells = spelled c.args.digits.now out _ _ c.decode_to_slice.result refl c.decode_to_slice.ensures.value ok in
    let old : len ≤ length c.self.inside.room.items = c.self.invariant in
    let long : len + n ≤ length room = rw is c.in_ok-lengthen.ensures.long in
    let part : length (take (len + n - len) (drop len room)) ≡ len + n - len = length-take-le (len + n - len) (drop len room) (omega (arith, length-drop len room)) in
    let size : length out ≡ n = omega (arith, spells.1) in
    let within : len + n ≤ c.lengthen.new.room.len = omega (arith, c.deref_mut.ensures.len) in
    decoded c.args.digits.now c.args.self.now.items c.self.inside.room.items room out _ _ len n c.lengthen.new.room.len
    (ap (λ (s : SeenBytes). s.items) (sym c.self.view_is)) (ap (take len) is ∙ c.lengthen.ensures.same.same len old) (omega arith) size within spells.0
