use Rattle.std.proofs.Common.{◌≡◌, ◌∙◌, List, [], ◌++◌, drop, length, Option, Some, None, Result, Ok, Err, IfOk, refl, sym, ap, vec_len}
use Rattle.std.specs.Option.{option_to_list}
use Rattle.std.specs.Iterator.{DrainsIf}
use Rattle.std.specs.declared.vec.Vec.{Vec}
use Rattle.std.specs.declared.vec.IntoIter.{IntoIter}
use Rattle.std.specs.Vec.Iter.{into_iter_deque, into_iter_items, into_iter_steps}
use Rattle.std.proofs.lemmas.List.{map-id, nil_from_length}
use Rattle.std.proofs.lemmas.Iterator.{items_from_drains}
use Rattle.std.proofs.lemmas.Iterator.Adapters.{YieldsList-from_vec}
use Rattle.sval_program.proofs.process.after_name.Goals as goal

-- the first item was taken, if there was one
first_taken : {X Z : Type 0} (all rest : IntoIter X Z) (first : Option X) → into_iter_items all ≡ option_to_list first ++ into_iter_items rest → into_iter_steps all first rest
    → drop 1 (into_iter_items all) ≡ into_iter_items rest
first_taken all rest None items step =
    let empty : into_iter_items all ≡ [] = nil_from_length (into_iter_items all) (sym (into_iter_deque all).ok.0 ∙ step.0) in ap (drop 1) empty ∙ sym empty ∙ items
first_taken all rest (Some x) items step = ap (drop 1) items

-- and all others were collected
others_collected : {X Z E : Type 0} (r : Result (Vec X Z) E) (rest : IntoIter X Z)
    → IfOk r (λ v. (xs : List X) × DrainsIf into_iter_steps (Unit {0}) rest xs × ((v.items ≡ xs) × (vec_len v ≡ length xs))) → IfOk r (λ v. v.items ≡ into_iter_items rest)
others_collected (Ok v) rest ran =
    ran.2.0 ∙ sym (map-id ran.0) ∙ items_from_drains ran.0 ran.1 (YieldsList-from_vec (into_iter_items rest) refl (into_iter_deque rest).ok.0)
others_collected (Err why) rest ran = tt

pub returns : goal.returns
returns c =
    rw (first_taken c.args.all c.next-name.new.self c.next-name.result c.next-name.ensures.items c.next-name.ensures.cases)
    (others_collected c.collect.result c.next-name.new.self c.collect.ensures.ran)
