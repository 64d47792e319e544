-- What a writer of tapes does, call by call.
use Rattle.std.specs.Prelude.{◌≡◌, ℕ, List, [], ◌∷◌, ◌++◌, Option, Some, None, length}
use Rattle.std.proofs.Common.{inl, inr, sym, ap, ◌∙◌}
use Rattle.std.proofs.lemmas.List.{length-append}
use Rattle.sval_label.specs.Calls.{Call}
use Rattle.sval_core.specs.Law.{Standing, Takes, HasCause, Refuses, Ran}
use Rattle.sval_io.specs.declared.sink.SinkError.{SinkError}
use Rattle.sval_io.specs.declared.sink.SinkError.TheVariants.{Failed, NoMemory}
use Rattle.sval_io.specs.Sinks.{Told, IsCounted, appended, less_room, WritesWhole, WritesFront}
use Rattle.sval_io.proofs.Appending.{appended-appended, appended-nothing, less_room-zero, less_room-less_room}
use Rattle.sval_tape.specs.Tapes.{call_bytes, tape_of}
use Rattle.sval_tape.specs.Taping.{Taping, with_taped, tape_writer_law}
use Rattle.sval_tape.proofs.Tapes.{tape-cons, tape-nil}

-- what a sink tells but for what it holds back
abbrev pub unheld : Told → Told
unheld told = record told { held = None }

-- where a writer stands whose sink tells this
abbrev pub stands : Told → Option SinkError → Standing Taping
stands told why = record { view = record { told = unheld told; why = why }; faults = told.faults; wants = told.wants }

-- ---- one call

counted_unheld : (old new : Told) (why : SinkError) → IsCounted why old new → IsCounted why (unheld old) (unheld new)
counted_unheld old new Failed cause = cause
counted_unheld old new NoMemory cause = cause

front_unheld : {old new : Told} {why : SinkError} (bytes : List ℕ) → WritesFront why old bytes new → WritesFront why (unheld old) bytes (unheld new)
front_unheld {old} {new} {why = why} bytes f = record {
  front = record { count = f.front.count; within = f.front.within; appends = record { fits = f.front.appends.fits; text = f.front.appends.text; room = f.front.appends.room } };
  part = record { count = f.part.count; within = f.part.within; appends = record { fits = f.part.appends.fits; text = f.part.appends.text; room = f.part.appends.room } };
  cause = counted_unheld old new why f.cause;
  full = f.full;
  counts = record { faults = f.counts.faults; wants = f.counts.wants };
}

front_cause : (old new : Told) (before : Option SinkError) (why : SinkError) (call : Call) → WritesFront why old (call_bytes call) new
    → HasCause tape_writer_law (stands old before).view call (stands old before) (stands new (Some why))
front_cause old new before Failed call front = inr (inl front.cause)
front_cause old new before NoMemory call front = inr (inr front.cause)

pub refuses_call : (old new : Told) (before : Option SinkError) (why : SinkError) (call : Call) → WritesFront why old (call_bytes call) new
    → Refuses tape_writer_law (stands old before) call (stands new (Some why))
refuses_call old new before why call front =
    record { cause = front_cause old new before why call front; left = front_unheld (call_bytes call) front; faults = front.counts.faults; wants = front.counts.wants }

told_after : (old new : Told) (why : Option SinkError) (bytes : List ℕ) → WritesWhole old bytes new → (stands new why).view ≡ with_taped bytes (stands old why).view
told_after old new why bytes w =
    let text = w.appends.text in let room = w.appends.room in let faults = w.steady.faults in let wants = w.steady.wants in cc

pub takes_call : (old new : Told) (why : Option SinkError) (call : Call) → WritesWhole old (call_bytes call) new → Takes tape_writer_law (stands old why) call (stands new why)
takes_call old new why call w = record {
  accepted = w.appends.fits;
  view = told_after old new why (call_bytes call) w;
  faults = w.steady.faults;
  wants = w.steady.wants;
}

-- ---- many calls

abbrev with_both : Taping → Option (List ℕ) → Option ℕ → Taping
with_both taping text room = record taping { told = record taping.told { text = text; room = room } }

with_nothing : (taping : Taping) → with_taped [] taping ≡ taping
with_nothing taping =
    ap (λ text. with_both taping text (less_room taping.told.room 0)) (appended-nothing taping.told.text)
    ∙ ap (with_both taping taping.told.text) (less_room-zero taping.told.room)

with_more : (taping : Taping) (xs ys : List ℕ) → with_taped ys (with_taped xs taping) ≡ with_taped (xs ++ ys) taping
with_more taping xs ys =
    ap (λ text. with_both taping text (less_room (less_room taping.told.room (length xs)) (length ys))) (appended-appended taping.told.text xs ys)
    ∙ ap (with_both taping (appended taping.told.text (xs ++ ys))) (less_room-less_room taping.told.room (length xs) (length ys) ∙ ap (less_room taping.told.room) (sym (length-append xs ys)))

pub writes_all : (calls : List Call) (begun done : Taping) → Ran tape_writer_law begun calls done → done ≡ with_taped (tape_of calls) begun
writes_all [] begun done ran = ran ∙ sym (with_nothing begun) ∙ ap (λ bytes. with_taped bytes begun) (sym tape-nil)
writes_all (call ∷ calls) begun done (may, ran) =
    writes_all calls (with_taped (call_bytes call) begun) done ran ∙ with_more begun (call_bytes call) (tape_of calls)
    ∙ ap (λ bytes. with_taped bytes begun) (sym (tape-cons call calls))
