-- What parts of the writer do, one after another.
use Rattle.std.specs.Prelude.{◌≡◌, ℕ, ◌≤◌, List, [], ◌++◌, Option, Some, None, IfSome, length, refl}
use Rattle.std.proofs.Common.{sym, ap, ◌∙◌, subst, append-nil}
use Rattle.std.proofs.lemmas.List.{length-append}
use Rattle.sval_io.specs.Sinks.{Told, appended, less_room, HasRoom, WritesWhole}
use Rattle.sval_io.proofs.Appending.{appended-appended, appended-nothing, less_room-zero, less_room-less_room, room_for_nothing, room_for_both, writes_both, stops_after}
use Rattle.sval_json.specs.declared.error.Stop.{Stop}
use Rattle.sval_json.specs.declared.error.Stop.TheVariants.{Step, Sink}
use Rattle.sval_json.specs.Number.{Refusal}
use Rattle.sval_json.specs.ErrorKinds.{seen_refusal}
use Rattle.sval_json.specs.Actions.{Outcome, Action, nothing, continue, ◌then◌}
use Rattle.sval_json.specs.WriterLaw.{Target, WriterView, with_bytes, after_action, HasDone, IsLeftBy, IsStopped}

-- ---- the sink

abbrev with_both : Target → Option (List ℕ) → Option ℕ → Target
with_both target text room = record target { told = record target.told { text = text; room = room } }

pub with_bytes-nothing : (target : Target) → with_bytes [] target ≡ target
with_bytes-nothing target =
    ap (λ text. with_both target text (less_room target.told.room 0)) (appended-nothing target.told.text)
    ∙ ap (with_both target target.told.text) (less_room-zero target.told.room)

pub with_bytes-append : (target : Target) (xs ys : List ℕ) → with_bytes ys (with_bytes xs target) ≡ with_bytes (xs ++ ys) target
with_bytes-append target xs ys =
    ap (λ text. with_both target text (less_room (less_room target.told.room (length xs)) (length ys))) (appended-appended target.told.text xs ys)
    ∙ ap (with_both target (appended target.told.text (xs ++ ys))) (less_room-less_room target.told.room (length xs) (length ys) ∙ ap (less_room target.told.room) (sym (length-append xs ys)))

-- what ends a whole as it ends a part of it: the part's refusal is that of the whole, and nothing is written after it
abbrev pub Ends : Option Refusal → Option Refusal → List ℕ → Type 0
Ends part whole zs = (why : Refusal) → part ≡ Some why → (zs ≡ []) × (whole ≡ Some why)

-- after some first bytes a part was left so, and so the whole was
left_after : {old mid : Told} (new : Told) {all : List ℕ} (part whole : Option Refusal) (why : Option Stop) (xs ys zs : List ℕ) → WritesWhole old xs mid → all ≡ xs ++ (ys ++ zs) → Ends part whole zs
    → IsLeftBy why part ys mid new → IsLeftBy why whole all old new
left_after new part whole None xs ys zs w e ends left = absurd left
left_after {old = old} new {all = all} part whole (Some (Step why)) xs ys zs w e ends left =
    let end = ends (seen_refusal why) left.0 in
    let same : all ≡ xs ++ ys = e ∙ ap (λ more. xs ++ (ys ++ more)) end.0 ∙ ap (λ more. xs ++ more) (append-nil ys) in
    (end.1, subst (λ bytes. WritesWhole old bytes new) (sym same) (writes_both xs ys w left.1))
left_after new part whole (Some (Sink why)) xs ys zs w e ends left = stops_after xs ys zs w e left

-- after some first bytes a part was stopped, and so the whole was
pub stopped_within : {part : Action} (whole : Action) (old : WriterView) {mid new : WriterView} (xs zs : List ℕ) → HasRoom old.target.told xs → mid.target ≡ with_bytes xs old.target
    → (whole old.state).written ≡ xs ++ ((part mid.state).written ++ zs) → Ends (part mid.state).refusal (whole old.state).refusal zs → IsStopped part mid new → IsStopped whole old new
stopped_within {part} whole old {mid} {new} xs zs fits e w ends stop =
    let first : WritesWhole old.target.told xs mid.target.told = record {
      appends = record { fits = fits; text = ap (λ t. t.told.text) e; room = ap (λ t. t.told.room) e };
      steady = record { faults = ap (λ t. t.told.faults) e; wants = ap (λ t. t.told.wants) e };
    } in
    record {
      left = left_after new.target.told (part mid.state).refusal (whole old.state).refusal new.target.why xs (part mid.state).written zs first w ends stop.left;
      name = stop.name ∙ ap (λ t. t.name) e;
    }

-- ---- one action after another

continue_on : (o : Option Refusal) (done : Outcome) (next : Action) → o ≡ None → continue o done next ≡ continue None done next
continue_on o done next e = ap (λ refusal. continue refusal done next) e

pub nothing_done : (view : WriterView) → HasDone nothing view view
nothing_done view = record {
  may = record { refusal = refl; fits = room_for_nothing view.target.told.room };
  view = ap (λ target. let same : WriterView = record view { target = target } in same) (sym (with_bytes-nothing view.target));
}

after_then : (first next : Action) (view : WriterView) → (first view.state).refusal ≡ None → after_action (first then next) view ≡ after_action next (after_action first view)
after_then first next view accepted =
    let one : Outcome = first view.state in
    let two : Outcome = next one.state in
    ap (λ (done : Outcome). let after : WriterView = record { style = view.style; state = done.state; target = with_bytes done.written view.target } in after) (continue_on one.refusal one next accepted)
    ∙ ap (λ target. let after : WriterView = record { style = view.style; state = two.state; target = target } in after) (sym (with_bytes-append view.target one.written two.written))

pub done_then : {first next : Action} {old mid new : WriterView} → HasDone first old mid → HasDone next mid new → HasDone (first then next) old new
done_then {first} {next} {old} {mid} {new} d e =
    let second : HasDone next (after_action first old) new = subst (λ view. HasDone next view new) d.view e in
    let on = continue_on (first old.state).refusal (first old.state) next d.may.refusal in
    let a : List ℕ = (first old.state).written in
    let b : List ℕ = (next (first old.state).state).written in
    let fits : HasRoom old.target.told (a ++ b) = subst (λ n. IfSome old.target.told.room (λ left. n ≤ left)) (sym (length-append a b)) (room_for_both old.target.told.room (length a) (length b) d.may.fits second.may.fits) in
    record {
      may = record { refusal = ap (λ o. o.refusal) on ∙ second.may.refusal; fits = subst (HasRoom old.target.told) (ap (λ o. o.written) (sym on)) fits };
      view = second.view ∙ sym (after_then first next old d.may.refusal);
    }

-- what the first of two actions writes stands at the front, and its refusal ends both
first_of_two : (o : Option Refusal) (done : Outcome) (next : Action) → done.refusal ≡ o → (more : List ℕ) × ((continue o done next).written ≡ [] ++ (done.written ++ more)) × Ends done.refusal (continue o done next).refusal more
first_of_two (Some why) done next e = ([], sym (append-nil done.written), λ other is. (refl, is))
first_of_two None done next e = ((next done.state).written, refl, λ other is. let none : None ≡ Some other = sym e ∙ is in cc none)

pub stopped_first : {first : Action} {old new : WriterView} (next : Action) → IsStopped first old new → IsStopped (first then next) old new
stopped_first {first} {old} next stop =
    let two = first_of_two (first old.state).refusal (first old.state) next refl in
    stopped_within (first then next) old [] two.0 (room_for_nothing old.target.told.room) (sym (with_bytes-nothing old.target)) two.1 two.2 stop

pub stopped_later : {first next : Action} {old mid new : WriterView} → HasDone first old mid → IsStopped next mid new → IsStopped (first then next) old new
stopped_later {first} {next} {old} {mid} {new} d stop =
    let one : Outcome = first old.state in
    let here : IsStopped next (after_action first old) new = subst (λ view. IsStopped next view new) d.view stop in
    let on = continue_on one.refusal one next d.may.refusal in
    let whole : ((first then next) old.state).written ≡ one.written ++ ((next one.state).written ++ []) =
    ap (λ o. o.written) on ∙ ap (λ more. one.written ++ more) (sym (append-nil (next one.state).written)) in
    stopped_within (first then next) old one.written [] d.may.fits refl whole (λ why is. (refl, ap (λ o. o.refusal) on ∙ is)) here
