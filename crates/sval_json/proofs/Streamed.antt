-- What is known of a sink after the writer took some calls.
use Rattle.std.specs.Prelude.{◌≡◌, ℕ, Bool, true, List, [], ◌∷◌, Option, Some, None, Result, Ok, Err, refl}
use Rattle.std.proofs.Common.{sym, ap, ◌∙◌, subst, inl, inr}
use Rattle.sval_label.specs.Calls.{Call}
use Rattle.sval_core.specs.Trees.{Tree}
use Rattle.sval_core.specs.Real.{IsReal}
use Rattle.sval_core.specs.Law.{Standing, Emission, Ran, StoppedIn, Stops, Rose}
use Rattle.sval_io.specs.declared.sink.SinkError.TheVariants.{Failed, NoMemory}
use Rattle.sval_io.specs.Sinks.{Told, IsSteady, NoCountFell, IsQuiet, Appends, AppendsFront, AppendsPart}
use Rattle.sval_io.proofs.Appending.{all_is_front, steady_counts}
use Rattle.sval_json.specs.declared.style.Variants.{Variants}
use Rattle.sval_json.specs.declared.error.ErrorKind.{ErrorKind}
use Rattle.sval_json.specs.declared.error.ErrorKind.TheVariants.{Generic, IO}
use Rattle.sval_json.specs.declared.error.ErrorKind.TheVariants as kind
use Rattle.sval_json.specs.declared.error.Stop.{Stop}
use Rattle.sval_json.specs.declared.error.Stop.TheVariants.{Step, Sink}
use Rattle.sval_json.specs.ErrorKinds.{seen_refusal, refusal_kind, error_kind}
use Rattle.sval_json.specs.Json.{Json}
use Rattle.sval_json.specs.Shape.{json_in}
use Rattle.sval_json.specs.Actions.{writer_start, nothing}
use Rattle.sval_json.specs.Number.{Refusal, InvalidKey, InvalidNumber}
use Rattle.sval_json.specs.Steps.{writer_step, writer_steps, written_in}
use Rattle.sval_json.specs.declared.writer.JsonWriter.{JsonWriter}
use Rattle.sval_json.specs.WriterLaw.{WriterView, after_action, HasDone, IsLeftBy, IsStopped, writer_law, writer_state, writer_view, writer_standing}
use Rattle.sval_json.specs.Laws.{IsWrittenAs}
use Rattle.sval_json.specs.Promises.{KeepsPromises}
use Rattle.sval_json.specs.Written.{IsWrittenIn, IsBegunIn, IsCutIn, IsRefusedIn, IsTooLongFor, WritesTreeIn, WritesSpelledTree, WritesValueIn, WritesSpelledValue, RefusesSpelledTree, BeginsSpelledTree, EndsRefused}
use Rattle.sval_json.specs.Passed.{ArePassed}
use Rattle.sval_json.proofs.Passing.{passed_real}
use Rattle.sval_json.proofs.WritingPlain.{spelling_written}
use Rattle.sval_json.proofs.Meaning.{text_means}
use Rattle.sval_json.proofs.Doing.{nothing_done, done_then, stopped_first, stopped_later}

-- ---- from view to view

pub ran_as : (calls : List Call) (old new : WriterView) → Ran writer_law old calls new → HasDone (writer_steps old.style calls) old new
ran_as [] old new e = subst (HasDone nothing old) (sym e) (nothing_done old)
ran_as (call ∷ calls) old new r = done_then (record { may = r.0.0; view = refl }) (ran_as calls (after_action (writer_step old.style call) old) new r.1)

-- all calls were taken and the value refused, or the writer was stopped in one of them
pub data Ending (old : WriterView) (e : Emission) (new : WriterView) : Type 0 where
  refused : e.refuses ≡ true → HasDone (writer_steps old.style e.calls) old new → Ending old e new
  failed : IsStopped (writer_steps old.style e.calls) old new → Ending old e new

pub ending_of : (old new : Standing WriterView) (calls : List Call) (refuses : Bool) (view : WriterView) → StoppedIn writer_law old new view calls refuses
    → Ending view (record { calls = calls; refuses = refuses }) new.view
ending_of old new [] refuses view (r, e) = refused r (ran_as [] view new.view e)
ending_of old new (call ∷ calls) refuses view (inl (cause, stop)) = failed (stopped_first (writer_steps view.style calls) stop)
ending_of old new (call ∷ calls) refuses view (inr (accepted, rest)) = later (ending_of old new calls refuses (after_action (writer_step view.style call) view) rest)
  where
    first : HasDone (writer_step view.style call) view (after_action (writer_step view.style call) view)
    first = record { may = accepted.0; view = refl }

    later : Ending (after_action (writer_step view.style call) view) (record { calls = calls; refuses = refuses }) new.view → Ending view (record { calls = call ∷ calls; refuses = refuses }) new.view
    later (refused r done) = refused r (done_then first done)
    later (failed stop) = failed (stopped_later first stop)

-- ---- what the sink tells, from where a writer begins. It is the same sink that is held

-- all calls were taken
pub record IsAfter (style : Variants) (calls : List Call) (held holds : ℕ) (old new : Told) : Type 0 where
  pub name : holds ≡ held
  pub written : IsWrittenIn style calls old new
  pub steady : IsSteady old new

-- a call or the value was refused, and the answer is an error of this kind
pub record IsAfterStop (style : Variants) (e : Emission) (found : ErrorKind) (held holds : ℕ) (old new : Told) : Type 0 where
  pub name : holds ≡ held
  pub generic : found ≡ Generic → EndsRefused style e old new
  pub refused : (why : Refusal) → found ≡ refusal_kind why → IsRefusedIn style why e.calls old new
  pub io : found ≡ IO → Rose old.faults new.faults
  pub io_room : found ≡ IO → IsTooLongFor style e.calls old
  pub io_short : found ≡ IO → IsCutIn style e.calls old new
  pub no_memory : found ≡ kind.NoMemory → Rose old.wants new.wants
  pub no_memory_short : found ≡ kind.NoMemory → IsCutIn style e.calls old new
  pub counts : NoCountFell old new
  pub prefix : IsBegunIn style e.calls old new

-- the writer's own refusals are apart from each other and from all else
refusal_apart : (why : Refusal) → (refusal_kind why ≡ Generic → ⊥) × (refusal_kind why ≡ IO → ⊥) × (refusal_kind why ≡ kind.NoMemory → ⊥)
refusal_apart InvalidKey = (λ f. cc f, λ f. cc f, λ f. cc f)
refusal_apart InvalidNumber = (λ f. cc f, λ f. cc f, λ f. cc f)

one_refusal : (why other : Refusal) → refusal_kind why ≡ refusal_kind other → why ≡ other
one_refusal InvalidKey InvalidKey e = refl
one_refusal InvalidKey InvalidNumber e = cc e
one_refusal InvalidNumber InvalidKey e = cc e
one_refusal InvalidNumber InvalidNumber e = refl

-- what a sink holds back doesn't matter to what it took
abbrev front_held : {old new : Told} {bytes : List ℕ} → AppendsFront (record old { held = None }) bytes (record new { held = None }) → AppendsFront old bytes new
front_held f = record { count = f.count; within = f.within; appends = record { fits = f.appends.fits; text = f.appends.text; room = f.appends.room } }

abbrev part_held : {old new : Told} {bytes : List ℕ} → AppendsPart (record old { held = None }) bytes (record new { held = None }) → AppendsPart old bytes new
part_held p = record { count = p.count; within = p.within; appends = record { fits = p.appends.fits; text = p.appends.text; room = p.appends.room } }

module _ (style : Variants) (e : Emission) (held holds : ℕ) (old new : Told) (name : holds ≡ held) where
  -- a step refused
  after_own : (why : Refusal) → IsRefusedIn style why e.calls old new → IsAfterStop style e (refusal_kind why) held holds old new
  after_own why r =
      let apart = refusal_apart why in
      record {
        name = name;
        generic = λ f. absurd (apart.0 f);
        refused = λ other f. subst (λ w. IsRefusedIn style w e.calls old new) (one_refusal why other f) r;
        io = λ f. absurd (apart.1 f);
        io_room = λ f. absurd (apart.1 f);
        io_short = λ f. absurd (apart.1 f);
        no_memory = λ f. absurd (apart.2 f);
        no_memory_short = λ f. absurd (apart.2 f);
        counts = steady_counts r.steady;
        prefix = all_is_front (written_in style e.calls).written r.appends;
      }

  -- the value refused
  after_itself : EndsRefused style e old new → IsAfterStop style e Generic held holds old new
  after_itself r = record {
    name = name;
    generic = λ f. r;
    refused = λ other f. absurd ((refusal_apart other).0 (sym f));
    io = λ f. cc f;
    io_room = λ f. cc f;
    io_short = λ f. cc f;
    no_memory = λ f. cc f;
    no_memory_short = λ f. cc f;
    counts = steady_counts r.steady;
    prefix = all_is_front (written_in style e.calls).written r.written.appends;
  }

  -- the writer was stopped, and its sink left so, but for what that holds back
  after_left : (why : Option Stop) → IsLeftBy why (written_in style e.calls).refusal (written_in style e.calls).written (record old { held = None }) (record new { held = None })
      → IsAfterStop style e (error_kind why) held holds old new
  after_left None left = absurd left
  after_left (Some (Step why)) left = after_own (seen_refusal why) (record {
    refusal = left.0;
    appends = record { fits = left.1.appends.fits; text = left.1.appends.text; room = left.1.appends.room };
    steady = record { faults = left.1.steady.faults; wants = left.1.steady.wants };
  })
  after_left (Some (Sink Failed)) left = record {
    name = name;
    generic = λ f. cc f;
    refused = λ other f. absurd ((refusal_apart other).1 (sym f));
    io = λ f. left.cause;
    io_room = λ f. left.full refl;
    io_short = λ f. part_held left.part;
    no_memory = λ f. cc f;
    no_memory_short = λ f. cc f;
    counts = record { faults = left.counts.faults; wants = left.counts.wants };
    prefix = front_held left.front;
  }
  after_left (Some (Sink NoMemory)) left = record {
    name = name;
    generic = λ f. cc f;
    refused = λ other f. absurd ((refusal_apart other).2 (sym f));
    io = λ f. cc f;
    io_room = λ f. cc f;
    io_short = λ f. cc f;
    no_memory = λ f. left.cause;
    no_memory_short = λ f. part_held left.part;
    counts = record { faults = left.counts.faults; wants = left.counts.wants };
    prefix = front_held left.front;
  }

module _ {K : Type 0} (told : K → Told) (e : Emission) (old new : JsonWriter K) (is_start : writer_state old ≡ writer_start) where
  pub after_done : HasDone (writer_steps old.variants e.calls) (writer_view told old) (writer_view told new) → IsAfter old.variants e.calls old.sink.ghost_name new.sink.ghost_name (told old.sink.now) (told new.sink.now)
  after_done d = record {
    name = ap (λ v. v.target.name) d.view;
    written = record {
      refusal = subst (λ state. (writer_steps old.variants e.calls state).refusal ≡ None) is_start d.may.refusal;
      appends = subst (λ state. Appends (told old.sink.now) (writer_steps old.variants e.calls state).written (told new.sink.now)) is_start (record {
        fits = d.may.fits;
        text = ap (λ v. v.target.told.text) d.view;
        room = ap (λ v. v.target.told.room) d.view;
      });
    };
    steady = record { faults = ap (λ v. v.target.told.faults) d.view; wants = ap (λ v. v.target.told.wants) d.view };
  }

  pub after_ran : Ran writer_law (writer_view told old) e.calls (writer_view told new) → IsAfter old.variants e.calls old.sink.ghost_name new.sink.ghost_name (told old.sink.now) (told new.sink.now)
  after_ran ran = after_done (ran_as e.calls (writer_view told old) (writer_view told new) ran)

  after_refusal : e.refuses ≡ true → new.why ≡ None → HasDone (writer_steps old.variants e.calls) (writer_view told old) (writer_view told new)
      → IsAfterStop old.variants e (error_kind new.why) old.sink.ghost_name new.sink.ghost_name (told old.sink.now) (told new.sink.now)
  after_refusal r none d =
      let after = after_done d in
      let is : error_kind new.why ≡ Generic = ap error_kind none in
      subst (λ found. IsAfterStop old.variants e found old.sink.ghost_name new.sink.ghost_name (told old.sink.now) (told new.sink.now)) (sym is)
      (after_itself old.variants e old.sink.ghost_name new.sink.ghost_name (told old.sink.now) (told new.sink.now) after.name (record { refuses = r; written = after.written; steady = after.steady }))

  pub after_failure : IsStopped (writer_steps old.variants e.calls) (writer_view told old) (writer_view told new)
      → IsAfterStop old.variants e (error_kind new.why) old.sink.ghost_name new.sink.ghost_name (told old.sink.now) (told new.sink.now)
  after_failure stop =
      after_left old.variants e old.sink.ghost_name new.sink.ghost_name (told old.sink.now) (told new.sink.now) stop.name new.why
      (subst (λ state. IsLeftBy new.why (writer_steps old.variants e.calls state).refusal (writer_steps old.variants e.calls state).written (writer_view told old).target.told (writer_view told new).target.told) is_start stop.left)

  pub after_stops : {found : ErrorKind} → old.why ≡ None → found ≡ error_kind new.why → Stops writer_law (writer_standing told old) e (writer_standing told new)
      → IsAfterStop old.variants e found old.sink.ghost_name new.sink.ghost_name (told old.sink.now) (told new.sink.now)
  after_stops none is s =
      subst (λ kind. IsAfterStop old.variants e kind old.sink.ghost_name new.sink.ghost_name (told old.sink.now) (told new.sink.now)) (sym is)
      (by_ending (ending_of (writer_standing told old) (writer_standing told new) e.calls e.refuses (writer_view told old) s.stopped))
    where
      by_ending : Ending (writer_view told old) e (writer_view told new) → IsAfterStop old.variants e (error_kind new.why) old.sink.ghost_name new.sink.ghost_name (told old.sink.now) (told new.sink.now)
      by_ending (refused r d) = after_refusal r (ap (λ v. v.target.why) d.view ∙ none) d
      by_ending (failed stop) = after_failure stop

-- where neither count rose, the value itself is left as a cause, or a step that refuses
pub is_generic : {style : Variants} {e : Emission} {found : ErrorKind} {held holds : ℕ} {old new : Told} → IsAfterStop style e found held holds old new → (written_in style e.calls).refusal ≡ None → IsQuiet old new
    → found ≡ Generic
is_generic {style = style} {e = e} {found = found} after none quiet = by_kind found refl
  where
    not_refused : (why : Refusal) → found ≡ refusal_kind why → ⊥
    not_refused why is = let some : None ≡ Some why = sym none ∙ (after.refused why is).refusal in cc some

    by_kind : (k : ErrorKind) → found ≡ k → found ≡ Generic
    by_kind Generic is = is
    by_kind IO is = absurd (quiet.faults (after.io is))
    by_kind kind.InvalidKey is = absurd (not_refused InvalidKey is)
    by_kind kind.InvalidNumber is = absurd (not_refused InvalidNumber is)
    by_kind kind.NoMemory is = absurd (quiet.wants (after.no_memory is))

pub is_refused : {style : Variants} {e : Emission} {found : ErrorKind} {held holds : ℕ} {old new : Told} → IsAfterStop style e found held holds old new → (why : Refusal) → (written_in style e.calls).refusal ≡ Some why
    → IsQuiet old new → found ≡ refusal_kind why
is_refused {style = style} {e = e} {found = found} after why some quiet = by_kind found refl
  where
    same : (other : Refusal) → found ≡ refusal_kind other → found ≡ refusal_kind why
    same other is = let both : Some other ≡ Some why = sym (after.refused other is).refusal ∙ some in let one : other ≡ why = cc both in is ∙ ap refusal_kind one

    by_kind : (k : ErrorKind) → found ≡ k → found ≡ refusal_kind why
    by_kind Generic is = let none : Some why ≡ None = sym some ∙ (after.generic is).written.refusal in cc none
    by_kind IO is = absurd (quiet.faults (after.io is))
    by_kind kind.InvalidKey is = same InvalidKey is
    by_kind kind.InvalidNumber is = same InvalidNumber is
    by_kind kind.NoMemory is = absurd (quiet.wants (after.no_memory is))

-- ---- where the calls spell a tree

written_tree : {old new : Told} {calls : List Call} (style : Variants) (tree : Tree) (found : Result Json Refusal) → json_in style tree ≡ found → IsWrittenAs found (written_in style calls)
    → IsWrittenIn style calls old new → WritesTreeIn style tree old new
written_tree {old} {new} style tree (Ok json) is w done = record { json = json; shape = is; appends = subst (λ bytes. Appends old bytes new) w.0 done.appends }
written_tree style tree (Err why) is w done = let e = w in let f = done.refusal in cc

pub writes_spelled : {old new : Told} {style : Variants} {calls : List Call} → IsWrittenIn style calls old new → WritesSpelledTree style calls old new
writes_spelled {style = style} {calls = calls} done tree s = written_tree style tree (json_in style tree) refl (spelling_written style calls tree s) done

-- the text of a tree denotes what is meant
written_value : {old new : Told} (style : Variants) (tree : Tree) → WritesTreeIn style tree old new → IsReal tree → KeepsPromises tree → WritesValueIn style tree old new
written_value style tree done real promises =
    let meant = text_means style tree done.json real promises done.shape in
    record { json = done.json; shape = done.shape; value = meant.0; is = meant.1; appends = done.appends }

pub values_spelled : {old new : Told} {style : Variants} {calls : List Call} → IsWrittenIn style calls old new → ArePassed calls → WritesSpelledValue style calls old new
values_spelled {style = style} {calls = calls} done passed tree s promises = written_value style tree (writes_spelled done tree s) (passed_real calls tree passed s) promises

refused_tree : (style : Variants) (tree : Tree) (found : Result Json Refusal) (refusal : Option Refusal) (why : Refusal) → refusal ≡ Some why → json_in style tree ≡ found
    → ((json : Json) → found ≡ Ok json → refusal ≡ None) → ((other : Refusal) → found ≡ Err other → refusal ≡ Some other) → json_in style tree ≡ Err why
refused_tree style tree (Ok json) refusal why some is on_json on_refusal = let none : Some why ≡ None = sym some ∙ on_json json refl in cc none
refused_tree style tree (Err other) refusal why some is on_json on_refusal = let both : Some other ≡ Some why = sym (on_refusal other refl) ∙ some in let one : other ≡ why = cc both in is ∙ ap Err one

pub refuses_spelled : {old new : Told} {style : Variants} {why : Refusal} {calls : List Call} → IsRefusedIn style why calls old new → RefusesSpelledTree style why calls
refuses_spelled {style = style} {why = why} {calls = calls} r tree s =
    let w = spelling_written style calls tree s in
    refused_tree style tree (json_in style tree) (written_in style calls).refusal why r.refusal refl
    (λ json is. (subst (λ found. IsWrittenAs found (written_in style calls)) is w).1) (λ other is. subst (λ found. IsWrittenAs found (written_in style calls)) is w)

pub begins_spelled : {old new : Told} (style : Variants) (calls : List Call) → IsBegunIn style calls old new → BeginsSpelledTree style calls old new
begins_spelled {old} {new} style calls front tree json s is =
    let w = subst (λ found. IsWrittenAs found (written_in style calls)) is (spelling_written style calls tree s) in
    subst (λ bytes. AppendsFront old bytes new) w.0 front
