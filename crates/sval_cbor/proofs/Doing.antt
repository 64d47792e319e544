-- What parts of the writer do, one after another.
use Rattle.std.specs.Prelude.{◌≡◌, ℕ, ◌≤◌, List, [], ◌++◌, Option, Some, None, IfSome, Result, Ok, Err, IsErr, length, refl}
use Rattle.std.proofs.Common.{sym, ap, ◌∙◌, subst, append-nil}
use Rattle.std.proofs.lemmas.List.{length-append}
use Rattle.sval_label.specs.declared.error.Error.{Error}
use Rattle.sval_io.specs.Sinks.{Told, appended, less_room, WritesWhole}
use Rattle.sval_io.proofs.Appending.{appended-appended, appended-nothing, less_room-zero, less_room-less_room, room_for_nothing, room_for_both, writes_nothing, stops_after}
use Rattle.sval_cbor.specs.declared.error.Stop.{Stop}
use Rattle.sval_cbor.specs.declared.error.Stop.TheVariants.{Step, Sink}
use Rattle.sval_cbor.specs.Packs.{PackRefusal, on_packed}
use Rattle.sval_cbor.specs.Writing.{CborState, writes}
use Rattle.sval_cbor.specs.WriterLaw.{StepAnswer, due_bytes, CborTarget, CborWriterView, with_cbor_bytes, HasDoneStep, IsLeftByStep, StepIsStopped, CborDoes}

-- ---- the sink

abbrev with_both : CborTarget → Option (List ℕ) → Option ℕ → CborTarget
with_both target text room = record target { told = record target.told { text = text; room = room } }

pub with_bytes-nothing : (target : CborTarget) → with_cbor_bytes [] target ≡ target
with_bytes-nothing target =
    ap (λ text. with_both target text (less_room target.told.room 0)) (appended-nothing target.told.text)
    ∙ ap (with_both target target.told.text) (less_room-zero target.told.room)

pub with_bytes-append : (target : CborTarget) (xs ys : List ℕ) → with_cbor_bytes ys (with_cbor_bytes xs target) ≡ with_cbor_bytes (xs ++ ys) target
with_bytes-append target xs ys =
    ap (λ text. with_both target text (less_room (less_room target.told.room (length xs)) (length ys))) (appended-appended target.told.text xs ys)
    ∙ ap (with_both target (appended target.told.text (xs ++ ys))) (less_room-less_room target.told.room (length xs) (length ys) ∙ ap (less_room target.told.room) (sym (length-append xs ys)))

-- what was done was written whole
pub written_whole : {due : StepAnswer} {old : CborTarget} {new : CborWriterView} → HasDoneStep due old new → WritesWhole old.told (due_bytes due) new.target.told
written_whole d = record {
  appends = record { fits = d.may.fits; text = ap (λ v. v.target.told.text) d.view; room = ap (λ v. v.target.told.room) d.view };
  steady = record { faults = ap (λ v. v.target.told.faults) d.view; wants = ap (λ v. v.target.told.wants) d.view };
}

-- where a `?` passes on an error
pub stops_as : {due : StepAnswer} {old : CborTarget} {new : CborWriterView} (r : Result (Unit {0}) Error) → IsErr r → StepIsStopped due old new → CborDoes due r old new
stops_as (Ok done) is stop = cc is
stops_as (Err refusal) is stop = stop

-- ---- nothing

pub nothing_done : (state : CborState) (target : CborTarget) → HasDoneStep (writes [] state) target (record { state = state; target = target })
nothing_done state target = record {
  may = record { refusal = refl; fits = room_for_nothing target.told.room };
  view = ap (λ (t : CborTarget). let view : CborWriterView = record { state = state; target = t } in view) (sym (with_bytes-nothing target));
}

-- ---- bytes after bytes

pub done_both : {xs ys : List ℕ} {s t : CborState} {old : CborTarget} {mid new : CborWriterView} → HasDoneStep (writes xs s) old mid → HasDoneStep (writes ys t) mid.target new → HasDoneStep (writes (xs ++ ys) t) old new
done_both {xs} {ys} {s} {t} {old} {mid} {new} d e =
    let second : HasDoneStep (writes ys t) (with_cbor_bytes xs old) new = subst (λ (v : CborWriterView). HasDoneStep (writes ys t) v.target new) d.view e in
    record {
      may = record {
        refusal = refl;
        fits = subst (λ n. IfSome old.told.room (λ left. n ≤ left)) (sym (length-append xs ys)) (room_for_both old.told.room (length xs) (length ys) d.may.fits second.may.fits);
      };
      view = second.view ∙ ap (λ (target : CborTarget). let view : CborWriterView = record { state = t; target = target } in view) (with_bytes-append old xs ys);
    }

left_after : {old mid : Told} (new : Told) (why : Option Stop) (xs ys : List ℕ) (s t : CborState) → WritesWhole old xs mid → IsLeftByStep why (writes ys s) mid new → IsLeftByStep why (writes (xs ++ ys) t) old new
left_after new None xs ys s t w left = absurd left
left_after new (Some (Step why)) xs ys s t w left = cc left.0
left_after new (Some (Sink why)) xs ys s t w left = stops_after xs ys [] w (ap (λ more. xs ++ more) (sym (append-nil ys))) left

pub stopped_later : {xs ys : List ℕ} {s t u : CborState} {old : CborTarget} {mid new : CborWriterView} → HasDoneStep (writes xs s) old mid → StepIsStopped (writes ys t) mid.target new → StepIsStopped (writes (xs ++ ys) u) old new
stopped_later {xs} {ys} {t = t} {u = u} {new = new} d stop = record { left = left_after new.target.told new.target.why xs ys t u (written_whole d) stop.left; name = stop.name ∙ ap (λ v. v.target.name) d.view }

left_first : (old new : Told) (why : Option Stop) (xs ys : List ℕ) (s t : CborState) → IsLeftByStep why (writes xs s) old new → IsLeftByStep why (writes (xs ++ ys) t) old new
left_first old new None xs ys s t left = absurd left
left_first old new (Some (Step why)) xs ys s t left = cc left.0
left_first old new (Some (Sink why)) xs ys s t left = stops_after [] xs ys (writes_nothing old) refl left

pub stopped_first : {xs : List ℕ} (ys : List ℕ) {s t : CborState} {old : CborTarget} {new : CborWriterView} → StepIsStopped (writes xs s) old new → StepIsStopped (writes (xs ++ ys) t) old new
stopped_first {xs} ys {s} {t} {old} {new} stop = record { left = left_first old.told new.target.told new.target.why xs ys s t stop.left; name = stop.name }

pub does_then : {xs : List ℕ} (ys : List ℕ) {s : CborState} {mid : CborWriterView} (change : CborState → CborState) (r : Result (Unit {0}) Error) (old : CborTarget) (new : CborWriterView) → HasDoneStep (writes xs s) old mid → CborDoes (writes ys (change mid.state)) r mid.target new
    → CborDoes (writes (xs ++ ys) (change s)) r old new
does_then {xs} ys {s = s} {mid = mid} change r old new d second = go r (subst (λ (t : CborState). CborDoes (writes ys (change t)) r mid.target new) (ap (λ v. v.state) d.view) second)
  where
    go : (r : Result (Unit {0}) Error) → CborDoes (writes ys (change s)) r mid.target new → CborDoes (writes (xs ++ ys) (change s)) r old new
    go (Ok done) e = done_both d e
    go (Err refusal) stop = stopped_later d stop

-- the same where the bytes come of the state after the first step
pub does_next : {xs : List ℕ} {s : CborState} {mid : CborWriterView} (ys : CborState → List ℕ) (change : CborState → CborState) (r : Result (Unit {0}) Error) (old : CborTarget) (new : CborWriterView) → HasDoneStep (writes xs s) old mid
    → CborDoes (writes (ys mid.state) (change mid.state)) r mid.target new → CborDoes (writes (xs ++ ys s) (change s)) r old new
does_next {xs} {s = s} {mid = mid} ys change r old new d second =
    does_then (ys s) change r old new d (subst (λ (t : CborState). CborDoes (writes (ys t) (change mid.state)) r mid.target new) (ap (λ v. v.state) d.view) second)

-- a change of the state after it
pub done_changes : {xs : List ℕ} {s : CborState} {old : CborTarget} {mid : CborWriterView} (change : CborState → CborState) → HasDoneStep (writes xs s) old mid → HasDoneStep (writes xs (change s)) old (record mid { state = change mid.state })
done_changes change d = record {
  may = record { refusal = refl; fits = d.may.fits };
  view = ap (λ v. let view : CborWriterView = record { state = change v.state; target = v.target } in view) d.view;
}

-- which doesn't matter where it was stopped
left_moved : (old new : Told) (why : Option Stop) (xs : List ℕ) (s t : CborState) → IsLeftByStep why (writes xs s) old new → IsLeftByStep why (writes xs t) old new
left_moved old new None xs s t left = absurd left
left_moved old new (Some (Step why)) xs s t left = cc left.0
left_moved old new (Some (Sink why)) xs s t left = left

-- the bytes are the same
pub does_alike : {due other : StepAnswer} (r : Result (Unit {0}) Error) (old : CborTarget) (new : CborWriterView) → due ≡ other → CborDoes due r old new → CborDoes other r old new
does_alike r old new e d = subst (λ (due : StepAnswer). CborDoes due r old new) e d

-- ---- what a name opens

-- a step that opens a name, and then writes some bytes
abbrev pub opened : Result (List ℕ) PackRefusal → List ℕ → CborState → StepAnswer
opened front bytes state = on_packed front (λ front. writes (front ++ bytes) state)

pub opened_then : (front : Result (List ℕ) PackRefusal) (ys : List ℕ) (s : CborState) {mid : CborWriterView} (change : CborState → CborState) (r : Result (Unit {0}) Error) (old : CborTarget) (new : CborWriterView)
    → HasDoneStep (on_packed front (λ front. writes front s)) old mid → CborDoes (writes ys (change mid.state)) r mid.target new → CborDoes (opened front ys (change s)) r old new
opened_then (Ok front) ys s change r old new d e = does_then ys change r old new d e
opened_then (Err why) ys s change r old new d e = let none = d.may.refusal in cc none

pub opened_next : (front : Result (List ℕ) PackRefusal) (ys : CborState → List ℕ) (s : CborState) {mid : CborWriterView} (change : CborState → CborState) (r : Result (Unit {0}) Error) (old : CborTarget) (new : CborWriterView)
    → HasDoneStep (on_packed front (λ front. writes front s)) old mid → CborDoes (writes (ys mid.state) (change mid.state)) r mid.target new → CborDoes (opened front (ys s) (change s)) r old new
opened_next (Ok front) ys s change r old new d e = does_next ys change r old new d e
opened_next (Err why) ys s change r old new d e = let none = d.may.refusal in cc none

pub opened_stopped : (front : Result (List ℕ) PackRefusal) (ys : List ℕ) (s t : CborState) {old : CborTarget} {new : CborWriterView} → StepIsStopped (on_packed front (λ front. writes front s)) old new → StepIsStopped (opened front ys t) old new
opened_stopped (Ok front) ys s t stop = stopped_first ys stop
opened_stopped (Err why) ys s t stop = record { left = stop.left; name = stop.name }

pub opened_changes : (front : Result (List ℕ) PackRefusal) (ys : List ℕ) (s : CborState) {old : CborTarget} {mid : CborWriterView} (change : CborState → CborState) → HasDoneStep (opened front ys s) old mid
    → HasDoneStep (opened front ys (change s)) old (record mid { state = change mid.state })
opened_changes (Ok front) ys s change d = done_changes change d
opened_changes (Err why) ys s change d = let none = d.may.refusal in cc none

pub opened_stopped_changes : (front : Result (List ℕ) PackRefusal) (ys : List ℕ) (s t : CborState) {old : CborTarget} {new : CborWriterView} → StepIsStopped (opened front ys s) old new → StepIsStopped (opened front ys t) old new
opened_stopped_changes (Ok front) ys s t {old} {new} stop = record { left = left_moved old.told new.target.told new.target.why (front ++ ys) s t stop.left; name = stop.name }
opened_stopped_changes (Err why) ys s t stop = record { left = stop.left; name = stop.name }
