-- What is known of a sink after the writer took some calls.
use Rattle.std.specs.Prelude.{◌≡◌, ℕ, Bool, true, false, List, [], ◌∷◌, ◌++◌, Option, Some, None, Result, Ok, Err, refl}
use Rattle.std.proofs.Common.{sym, ap, ◌∙◌, subst, inl, inr, arith, append-nil}
use Rattle.sval_label.specs.Calls.{Call}
use Rattle.sval_core.specs.Law.{Standing, Emission, Ran, Streams, StoppedIn, Stops}
use Rattle.sval_io.specs.Sinks.{Told, IsCounted, HasRoom, WritesWhole, WritesFront}
use Rattle.sval_io.specs.declared.sink.SinkError.{SinkError}
use Rattle.sval_io.specs.declared.sink.SinkError.TheVariants.{Failed, NoMemory}
use Rattle.sval_io.proofs.Appending.{counted_since, counts_since, writes_nothing, stops_after}
use Rattle.sval_cbor.specs.declared.error.Stop.{Stop}
use Rattle.sval_cbor.specs.declared.error.Stop.TheVariants as stop
use Rattle.sval_cbor.specs.declared.writer.Writer.{Writer}
use Rattle.sval_cbor.specs.Packs.{PackRefusal, on_packed, map_packed}
use Rattle.sval_cbor.specs.SeenWriter.{seen_pack_refusal}
use Rattle.sval_cbor.specs.Writing.{CborState, writes, cbor_step, written_from}
use Rattle.sval_cbor.specs.WriterLaw.{StepAnswer, due_bytes, due_state, CborTarget, CborWriterView, with_cbor_bytes, after_step, MayDoStep, HasDoneStep, IsLeftByStep, cbor_writer_law, cbor_writer_state, cbor_writer_view, cbor_writer_standing}
use Rattle.sval_cbor.specs.Streamed.{WroteAll, IsDeclined, IsHalted}
use Rattle.sval_cbor.proofs.Doing.{written_whole, nothing_done, done_both}

-- ---- step after step

-- these bytes, and then a step
abbrev after_bytes : List ℕ → StepAnswer → StepAnswer
after_bytes bytes (Ok done) = writes (bytes ++ done.bytes) done.state
after_bytes bytes (Err why) = Err why

-- a step, and then another at the state after it
abbrev then_due : StepAnswer → (CborState → StepAnswer) → StepAnswer
then_due (Ok done) next = after_bytes done.bytes (next done.state)
then_due (Err why) next = Err why

-- the steps of calls
abbrev pub steps : List Call → CborState → StepAnswer
steps [] state = writes [] state
steps (call ∷ calls) state = then_due (cbor_step call state) (steps calls)

-- what a step writes, or its refusal
abbrev due_written : StepAnswer → Result (List ℕ) PackRefusal
due_written (Ok done) = Ok done.bytes
due_written (Err why) = Err why

bytes_first : (bytes : List ℕ) (due : StepAnswer) → map_packed (λ more. bytes ++ more) (due_written due) ≡ due_written (after_bytes bytes due)
bytes_first bytes (Ok done) = refl
bytes_first bytes (Err why) = refl

steps_written : (calls : List Call) (state : CborState) → written_from calls state ≡ due_written (steps calls state)
steps_written [] state = refl
steps_written (call ∷ calls) state = go (cbor_step call state) (λ s. steps_written calls s)
  where
    go : (first : StepAnswer) → ((s : CborState) → written_from calls s ≡ due_written (steps calls s)) → on_packed first (λ done. map_packed (λ more. done.bytes ++ more) (written_from calls done.state)) ≡ due_written (then_due first (steps calls))
    go (Ok done) later = ap (map_packed (λ more. done.bytes ++ more)) (later done.state) ∙ bytes_first done.bytes (steps calls done.state)
    go (Err why) later = refl

-- ---- all steps were done

done_after : (bytes : List ℕ) (due : StepAnswer) {old : CborTarget} {new : CborWriterView} → HasRoom old.told bytes → HasDoneStep due (with_cbor_bytes bytes old) new → HasDoneStep (after_bytes bytes due) old new
done_after bytes (Ok done) {old} {new} fits d =
    let first : HasDoneStep (writes bytes done.state) old (after_step (writes bytes done.state) old) = record { may = record { refusal = refl; fits = fits }; view = refl } in
    done_both first d
done_after bytes (Err why) fits d = let none = d.may.refusal in cc none

done_then : (first : StepAnswer) (next : CborState → StepAnswer) {old : CborTarget} {new : CborWriterView} → MayDoStep first old.told → HasDoneStep (next (due_state first)) (with_cbor_bytes (due_bytes first) old) new → HasDoneStep (then_due first next) old new
done_then (Ok done) next may d = done_after done.bytes (next done.state) may.fits d
done_then (Err why) next may d = let none = may.refusal in cc none

ran_as : (calls : List Call) (old new : CborWriterView) → Ran cbor_writer_law old calls new → HasDoneStep (steps calls old.state) old.target new
ran_as [] old new e = subst (HasDoneStep (writes [] old.state) old.target) (sym e) (nothing_done old.state old.target)
ran_as (call ∷ calls) old new r = done_then (cbor_step call old.state) (steps calls) r.0 (ran_as calls (after_step (cbor_step call old.state) old.target) new r.1)

wrote_all : (due : StepAnswer) {old : CborTarget} {new : CborWriterView} → HasDoneStep due old new → WroteAll (due_written due) old.told new.target.told
wrote_all (Ok done) d = record { bytes = done.bytes; are = refl; whole = written_whole d }
wrote_all (Err why) d = let none = d.may.refusal in cc none

-- ---- a step was stopped

-- what stopped the writer, if something did
abbrev pub IsHaltedBy : Option Stop → Result (List ℕ) PackRefusal → Told → Told → Type 0
IsHaltedBy None due old new = ⊥
IsHaltedBy (Some why) due old new = IsHalted why due old new

-- the first of two steps was stopped
declined_first : (why : SinkError) (first : StepAnswer) (next : CborState → StepAnswer) {old new : Told} → WritesFront why old (due_bytes first) new → IsDeclined why (due_written (then_due first next)) old new
declined_first why (Err refusal) next front = absurd (omega (arith, front.part.within))
declined_first why (Ok done) next {old} {new} front = record { cause = front.cause; counts = front.counts; front = whole (next done.state) }
  where
    whole : (second : StepAnswer) (bytes : List ℕ) → due_written (after_bytes done.bytes second) ≡ Ok bytes → WritesFront why old bytes new
    whole (Ok more) bytes is = let all : bytes ≡ [] ++ (done.bytes ++ more.bytes) = cc is in stops_after [] done.bytes more.bytes (writes_nothing old) all front
    whole (Err refusal) bytes is = cc is

halted_first : (why : Option Stop) (first : StepAnswer) (next : CborState → StepAnswer) (old new : Told) → IsLeftByStep why first old new → IsHaltedBy why (due_written (then_due first next)) old new
halted_first None first next old new left = absurd left
halted_first (Some (stop.Step why)) (Ok done) next old new left = let none = left.0 in cc none
halted_first (Some (stop.Step why)) (Err refusal) next old new left = let same : refusal ≡ seen_pack_refusal why = cc left.0 in ap Err same
halted_first (Some (stop.Sink why)) first next old new left = declined_first why first next left

-- the second was
declined_later : (why : SinkError) (bytes : List ℕ) (second : StepAnswer) {old mid new : Told} → WritesWhole old bytes mid → IsDeclined why (due_written second) mid new → IsDeclined why (due_written (after_bytes bytes second)) old new
declined_later why bytes second {old} {mid} {new} w d = record { cause = counted_since new why w.steady d.cause; counts = counts_since w.steady d.counts; front = whole second d.front }
  where
    whole : (second : StepAnswer) → ((all : List ℕ) → due_written second ≡ Ok all → WritesFront why mid all new) → (all : List ℕ) → due_written (after_bytes bytes second) ≡ Ok all → WritesFront why old all new
    whole (Ok more) front all is =
        let joined : all ≡ bytes ++ (more.bytes ++ []) = (let e : all ≡ bytes ++ more.bytes = cc is in e) ∙ ap (λ xs. bytes ++ xs) (sym (append-nil more.bytes)) in
        stops_after bytes more.bytes [] w joined (front more.bytes refl)
    whole (Err refusal) front all is = cc is

halted_after : (why : Option Stop) (bytes : List ℕ) (second : StepAnswer) {old mid : Told} (new : Told) → WritesWhole old bytes mid → IsHaltedBy why (due_written second) mid new → IsHaltedBy why (due_written (after_bytes bytes second)) old new
halted_after None bytes second new w halted = absurd halted
halted_after (Some (stop.Step why)) bytes (Ok more) new w halted = cc halted
halted_after (Some (stop.Step why)) bytes (Err refusal) new w halted = halted
halted_after (Some (stop.Sink why)) bytes second new w halted = declined_later why bytes second w halted

halted_later : (why : Option Stop) (first : StepAnswer) (next : CborState → StepAnswer) (old : CborTarget) (new : Told) → MayDoStep first old.told → IsHaltedBy why (due_written (next (due_state first))) (with_cbor_bytes (due_bytes first) old).told new
    → IsHaltedBy why (due_written (then_due first next)) old.told new
halted_later why (Ok done) next old new may halted =
    halted_after why done.bytes (next done.state) new (record { appends = record { fits = may.fits; text = refl; room = refl }; steady = record { faults = refl; wants = refl } }) halted
halted_later why (Err refusal) next old new may halted = let none = may.refusal in cc none

-- the writer was stopped in one of the calls
pub record IsCut (calls : List Call) (view new : CborWriterView) : Type 0 where
  pub halted : IsHaltedBy new.target.why (due_written (steps calls view.state)) view.target.told new.target.told
  pub name : new.target.name ≡ view.target.name

cut_of : (old new : Standing CborWriterView) (calls : List Call) (refuses : Bool) (view : CborWriterView) → refuses ≡ false → StoppedIn cbor_writer_law old new view calls refuses → IsCut calls view new.view
cut_of old new [] refuses view willing (r, e) = let both : false ≡ true = sym willing ∙ r in cc both
cut_of old new (call ∷ calls) refuses view willing (inl (cause, stop)) = record { halted = halted_first new.view.target.why (cbor_step call view.state) (steps calls) view.target.told new.view.target.told stop.left; name = stop.name }
cut_of old new (call ∷ calls) refuses view willing (inr (accepted, rest)) =
    let cut = cut_of old new calls refuses (after_step (cbor_step call view.state) view.target) willing rest in
    record { halted = halted_later new.view.target.why (cbor_step call view.state) (steps calls) view.target new.view.target.told accepted cut.halted; name = cut.name }

-- ---- what the sink tells, from where a writer begins: it is the same sink that is held

-- all calls were taken
pub record IsAfter (due : Result (List ℕ) PackRefusal) (held holds : ℕ) (old new : Told) : Type 0 where
  pub name : holds ≡ held
  pub wrote : WroteAll due old new

-- the writer was stopped
pub record IsAfterStop (why : Option Stop) (due : Result (List ℕ) PackRefusal) (held holds : ℕ) (old new : Told) : Type 0 where
  pub name : holds ≡ held
  pub halted : IsHaltedBy why due old new

-- what a sink holds back doesn't matter to what it took
whole_held : {due : Result (List ℕ) PackRefusal} {old new : Told} → WroteAll due (record old { held = None }) (record new { held = None }) → WroteAll due old new
whole_held w = record {
  bytes = w.bytes;
  are = w.are;
  whole = record {
    appends = record { fits = w.whole.appends.fits; text = w.whole.appends.text; room = w.whole.appends.room };
    steady = record { faults = w.whole.steady.faults; wants = w.whole.steady.wants };
  };
}

counted_held : (why : SinkError) (old new : Told) → IsCounted why (record old { held = None }) (record new { held = None }) → IsCounted why old new
counted_held Failed old new c = c
counted_held NoMemory old new c = c

front_held : {why : SinkError} {old new : Told} {bytes : List ℕ} → WritesFront why (record old { held = None }) bytes (record new { held = None }) → WritesFront why old bytes new
front_held {why} {old} {new} f = record {
  front = record {
    count = f.front.count;
    within = f.front.within;
    appends = record { fits = f.front.appends.fits; text = f.front.appends.text; room = f.front.appends.room };
  };
  part = record {
    count = f.part.count;
    within = f.part.within;
    appends = record { fits = f.part.appends.fits; text = f.part.appends.text; room = f.part.appends.room };
  };
  cause = counted_held why old new f.cause;
  full = f.full;
  counts = record { faults = f.counts.faults; wants = f.counts.wants };
}

halted_held : (why : Option Stop) (due : Result (List ℕ) PackRefusal) (old new : Told) → IsHaltedBy why due (record old { held = None }) (record new { held = None }) → IsHaltedBy why due old new
halted_held None due old new halted = absurd halted
halted_held (Some (stop.Step why)) due old new halted = halted
halted_held (Some (stop.Sink why)) due old new halted = record {
  cause = counted_held why old new halted.cause;
  counts = record { faults = halted.counts.faults; wants = halted.counts.wants };
  front = λ bytes is. front_held (halted.front bytes is);
}

module _ {K : Type 0} (told : K → Told) (start : CborState) (e : Emission) (old new : Writer K) (is_start : cbor_writer_state old ≡ start) where
  is_written : due_written (steps e.calls (cbor_writer_state old)) ≡ written_from e.calls start
  is_written = sym (steps_written e.calls (cbor_writer_state old)) ∙ ap (written_from e.calls) is_start

  pub after_streams : Streams cbor_writer_law (cbor_writer_standing told old) e (cbor_writer_standing told new) → IsAfter (written_from e.calls start) old.sink.ghost_name new.sink.ghost_name (told old.sink.now) (told new.sink.now)
  after_streams s =
      let d = ran_as e.calls (cbor_writer_view told old) (cbor_writer_view told new) s.ran in
      record {
        name = ap (λ v. v.target.name) d.view;
        wrote = subst (λ due. WroteAll due (told old.sink.now) (told new.sink.now)) is_written (whole_held (wrote_all (steps e.calls (cbor_writer_state old)) d));
      }

  pub after_stops : e.refuses ≡ false → Stops cbor_writer_law (cbor_writer_standing told old) e (cbor_writer_standing told new) → IsAfterStop new.why (written_from e.calls start) old.sink.ghost_name new.sink.ghost_name (told old.sink.now) (told new.sink.now)
  after_stops willing s =
      let cut = cut_of (cbor_writer_standing told old) (cbor_writer_standing told new) e.calls e.refuses (cbor_writer_view told old) willing s.stopped in
      record {
        name = cut.name;
        halted = subst (λ due. IsHaltedBy new.why due (told old.sink.now) (told new.sink.now)) is_written (halted_held new.why (due_written (steps e.calls (cbor_writer_state old))) (told old.sink.now) (told new.sink.now) cut.halted);
      }
