-- Calls that are written together: what is so of each of them.
use Rattle.std.specs.Prelude.{◌≡◌, ◌⊎◌, ℕ, ◌+◌, ◌-◌, ◌<◌, ◌≤◌, Bool, true, false, List, [], ◌∷◌, ◌++◌, codes, Option, Some, None, IfSome, Result, Ok, Err, OnErr, take, length, refl}
use Rattle.std.proofs.Common.{sym, ap, ◌∙◌, subst, arith, inl, inr}
use Rattle.std.proofs.lemmas.List.{length-append, length-take-le, take-append-le}
use Rattle.std.proofs.Math.Seq.{take-append-add}
use Rattle.sval_label.specs.Calls.{Call, Slot}
use Rattle.sval_label.specs.declared.error.Error.{Error}
use Rattle.sval_core.specs.Law.{Standing, Rose, Ran, StoppedIn, Emits}
use Rattle.sval_core.specs.Values.{makes, whole_text_calls, whole_key_calls}
use Rattle.sval_io.specs.declared.sink.SinkError.{SinkError}
use Rattle.sval_io.specs.declared.sink.SinkError.TheVariants.{Failed, NoMemory}
use Rattle.sval_io.specs.Sinks.{Told, IsSteady, IsCounted, NoCountFell, IsFull, less_room, HasRoom, Appends, AppendsPart, WritesFront}
use Rattle.sval_io.proofs.Appending.{appended-appended, less_room-less_room, counted_since, counts_since}
use Rattle.sval_json.specs.declared.error.Stop.{Stop}
use Rattle.sval_json.specs.declared.error.Stop.TheVariants.{Step, Sink}
use Rattle.sval_json.specs.declared.style.Variants.{Variants}
use Rattle.sval_json.specs.declared.writer.JsonWriter.{JsonWriter}
use Rattle.sval_json.specs.Actions.{WriterState, Outcome, escapes, write}
use Rattle.sval_json.specs.Escape.{escaped}
use Rattle.sval_json.specs.Steps.{writer_step}
use Rattle.sval_json.specs.WriterLaw.{WriterView, with_bytes, after_action, MayDo, IsLeftBy, IsStopped, Does, step_law, writer_view, writer_standing}
use Rattle.sval_json.proofs.Doing.{with_bytes-nothing, with_bytes-append}

-- from this state on none of the calls is refused, they write these bytes, and lead to the last state
abbrev pub JoinsAs : Variants → WriterState → List Call → List ℕ → WriterState → Type 0
JoinsAs style state [] bytes last = (bytes ≡ []) × (last ≡ state)
JoinsAs style state (call ∷ calls) bytes last =
    ((writer_step style call state).refusal ≡ None)
    × ((rest : List ℕ) × (bytes ≡ (writer_step style call state).written ++ rest) × JoinsAs style (writer_step style call state).state calls rest last)

-- the view after these bytes were written, in this state
abbrev pub joined : WriterView → List ℕ → WriterState → WriterView
joined view bytes last = record { style = view.style; state = last; target = with_bytes bytes view.target }

-- ---- all were taken

room_first : (room : Option ℕ) (xs ys : List ℕ) → IfSome room (λ left. length (xs ++ ys) ≤ left) → IfSome room (λ left. length xs ≤ left)
room_first None xs ys h = tt
room_first (Some left) xs ys h = omega (arith, length-append xs ys, h)

room_rest : (room : Option ℕ) (xs ys : List ℕ) → IfSome room (λ left. length (xs ++ ys) ≤ left) → IfSome (less_room room (length xs)) (λ left. length ys ≤ left)
room_rest None xs ys h = tt
room_rest (Some left) xs ys h = omega (arith, length-append xs ys, h)

pub joined_ran : (view : WriterView) (calls : List Call) (bytes : List ℕ) (last : WriterState) → JoinsAs view.style view.state calls bytes last → HasRoom view.target.told bytes
    → Ran step_law view calls (joined view bytes last)
joined_ran view [] bytes last j fits =
    ap (λ bytes. joined view bytes last) j.0 ∙ ap (joined view []) j.1
    ∙ ap (λ target. let same : WriterView = record view { target = target } in same) (with_bytes-nothing view.target)
joined_ran view (call ∷ calls) bytes last j fits =
    let o : Outcome = writer_step view.style call view.state in
    let rest : List ℕ = j.1.0 in
    let split : bytes ≡ o.written ++ rest = j.1.1 in
    let here : HasRoom view.target.told (o.written ++ rest) = subst (HasRoom view.target.told) split fits in
    let next : WriterView = after_action (writer_step view.style call) view in
    let may : MayDo (writer_step view.style call) view = record { refusal = j.0; fits = room_first view.target.told.room o.written rest here } in
    let on : Ran step_law next calls (joined next rest last) = joined_ran next calls rest last j.1.2 (room_rest view.target.told.room o.written rest here) in
    let same : joined next rest last ≡ joined view bytes last =
    ap (λ target. let end : WriterView = record { style = view.style; state = last; target = target } in end) (with_bytes-append view.target o.written rest)
    ∙ ap (λ bytes. joined view bytes last) (sym split) in
    (may, subst (Ran step_law next calls) same on)

-- ---- a first part was taken

-- some first bytes of these were taken, but not all of them, and the sink says why: it failed only with no room left
pub record Cut (why : SinkError) (view : WriterView) (bytes : List ℕ) (new : WriterView) : Type 0 where
  pub part : AppendsPart view.target.told bytes new.target.told
  pub cause : IsCounted why view.target.told new.target.told
  pub full : why ≡ Failed → IsFull new.target.told
  pub counts : NoCountFell view.target.told new.target.told
  pub why_is : new.target.why ≡ Some (Sink why)
  pub name : new.target.name ≡ view.target.name

order : (a b : ℕ) → (a < b) ⊎ (b ≤ a)
order a b = grind arith

-- where so many bytes were taken and no room is left, there was no room for more
lacks : (room : Option ℕ) (count : ℕ) (taken bytes : List ℕ) → length taken ≡ count → count < length bytes → IfSome room (λ left. length taken ≤ left)
    → IfSome (less_room room (length taken)) (λ left. left ≡ 0) → IfSome room (λ left. left < length bytes)
lacks None count taken bytes size within fits full = tt
lacks (Some left) count taken bytes size within fits full = omega (arith, size, within, fits, full)

-- it stopped in the first call
stops_in_first : (why : SinkError) (view new : WriterView) (call : Call) (rest bytes : List ℕ) → bytes ≡ (writer_step view.style call view.state).written ++ rest → (cut : Cut why view bytes new)
    → cut.part.count < length (writer_step view.style call view.state).written → IsStopped (writer_step view.style call) view new
stops_in_first why view new call rest bytes split cut within =
    let piece : List ℕ = (writer_step view.style call view.state).written in
    let n : ℕ = cut.part.count in
    let same : take n bytes ≡ take n piece = ap (take n) split ∙ take-append-le n piece rest (omega (arith, within)) in
    let told : Told = view.target.told in
    let appends : Appends told (take n piece) new.target.told = subst (λ taken. Appends told taken new.target.told) same cut.part.appends in
    let size : length (take n piece) ≡ n = length-take-le n piece (omega (arith, within)) in
    let left : WritesFront why told piece new.target.told = record {
      front = record { count = n; within = omega (arith, within); appends = appends };
      part = record { count = n; within = within; appends = appends };
      cause = cut.cause;
      full = λ failed. lacks told.room n (take n piece) piece size within appends.fits (subst (λ room. IfSome room (λ left. left ≡ 0)) appends.room (cut.full failed));
      counts = cut.counts;
    } in
    record {
      left = subst (λ (stop : Option Stop). IsLeftBy stop (writer_step view.style call view.state).refusal piece told new.target.told) (sym cut.why_is) left;
      name = cut.name;
    }

-- it stopped behind the first call
stops_behind : (why : SinkError) (view new : WriterView) (call : Call) (rest bytes : List ℕ) → bytes ≡ (writer_step view.style call view.state).written ++ rest → (writer_step view.style call view.state).refusal ≡ None
    → (cut : Cut why view bytes new) → length (writer_step view.style call view.state).written ≤ cut.part.count
    → MayDo (writer_step view.style call) view × Cut why (after_action (writer_step view.style call) view) rest new
stops_behind why view new call rest bytes split accepted cut behind =
    let piece : List ℕ = (writer_step view.style call view.state).written in
    let n : ℕ = cut.part.count - length piece in
    let told : Told = view.target.told in
    let count_is : cut.part.count ≡ length piece + n = omega (arith, behind) in
    let taken : take cut.part.count bytes ≡ piece ++ take n rest = ap (λ m. take m bytes) count_is ∙ ap (take (length piece + n)) split ∙ take-append-add piece rest n in
    let appends : Appends told (piece ++ take n rest) new.target.told = subst (λ taken. Appends told taken new.target.told) taken cut.part.appends in
    let size : length bytes ≡ length piece + length rest = ap length split ∙ length-append piece rest in
    let after : Told = (after_action (writer_step view.style call) view).target.told in
    let steady : IsSteady after told = record { faults = refl; wants = refl } in
    let later : Cut why (after_action (writer_step view.style call) view) rest new = record {
      part = record {
        count = n;
        within = omega (arith, count_is, size, cut.part.within);
        appends = record {
          fits = room_rest told.room piece (take n rest) appends.fits;
          text = appends.text ∙ sym (appended-appended told.text piece (take n rest));
          room = appends.room ∙ ap (less_room told.room) (length-append piece (take n rest)) ∙ sym (less_room-less_room told.room (length piece) (length (take n rest)));
        };
      };
      cause = counted_since new.target.told why steady cut.cause;
      full = cut.full;
      counts = counts_since steady cut.counts;
      why_is = cut.why_is;
      name = cut.name;
    } in
    (record { refusal = accepted; fits = room_first told.room piece (take n rest) appends.fits }, later)

pub joined_stops : (old new : Standing WriterView) (why : SinkError) → Rose old.faults new.faults ⊎ Rose old.wants new.wants → (view : WriterView) (calls : List Call) (bytes : List ℕ) (last : WriterState)
    → JoinsAs view.style view.state calls bytes last → Cut why view bytes new.view → StoppedIn step_law old new view calls false
joined_stops old new why rose view [] bytes last j cut =
    let none : cut.part.count < 0 = subst (λ bytes. cut.part.count < length bytes) j.0 cut.part.within in
    absurd (omega (arith, none))
joined_stops old new why rose view (call ∷ calls) bytes last j cut =
    by_order (order cut.part.count (length (writer_step view.style call view.state).written))
    (λ later. joined_stops old new why rose (after_action (writer_step view.style call) view) calls j.1.0 last j.1.2 later)
  where
    next : WriterView
    next = after_action (writer_step view.style call) view

    by_order : (cut.part.count < length (writer_step view.style call view.state).written) ⊎ (length (writer_step view.style call view.state).written ≤ cut.part.count)
        → (Cut why next j.1.0 new.view → StoppedIn step_law old new next calls false) → StoppedIn step_law old new view (call ∷ calls) false
    by_order (inl within) on = inl (inr rose, stops_in_first why view new.view call j.1.0 bytes j.1.1 cut within)
    by_order (inr behind) on =
        let two = stops_behind why view new.view call j.1.0 bytes j.1.1 j.0 cut behind in
        inr (two.0, on two.1)

-- ---- what is written together, by what writing it answers

-- what stopped it was the sink
stopped_cut : (view new : WriterView) (bytes : List ℕ) (last : WriterState) → IsStopped (write bytes) (record view { state = last }) new
    → (new.target.why ≡ Some (Sink Failed) → IsFull new.target.told) → (why : SinkError) × Cut why view bytes new
stopped_cut view new bytes last stop full = by_why new.target.why refl stop.left
  where
    by_why : (why : Option Stop) → new.target.why ≡ why → IsLeftBy why None bytes view.target.told new.target.told → (why : SinkError) × Cut why view bytes new
    by_why None is left = absurd left
    by_why (Some (Step why)) is left = cc left.0
    by_why (Some (Sink why)) is left = (
      why,
      record {
        part = left.part;
        cause = left.cause;
        full = λ failed. full (is ∙ ap (λ why. Some (Sink why)) failed);
        counts = left.counts;
        why_is = is;
        name = stop.name;
      },
    )

module _ {K : Type 0} (told : K → Told) (w w' : JsonWriter K) where
  abbrev before : WriterView
  before = writer_view told w

  abbrev behind : WriterView
  behind = writer_view told w'

  rose : (why : SinkError) → IsCounted why before.target.told behind.target.told
      → Rose (writer_standing told w).faults (writer_standing told w').faults ⊎ Rose (writer_standing told w).wants (writer_standing told w').wants
  rose Failed counted = inl counted
  rose NoMemory counted = inr counted

  pub emits_joined : (r : Result (Unit {0}) Error) (calls : List Call) (bytes : List ℕ) (last : WriterState) → JoinsAs before.style before.state calls bytes last
      → Does (write bytes) r (record before { state = last }) behind → OnErr r (w'.why ≡ Some (Sink Failed) → IsFull (told w'.sink.now))
      → Emits step_law r (writer_standing told w) (makes calls) (writer_standing told w')
  emits_joined (Ok done) calls bytes last j d full = record {
    willing = refl;
    ran = subst (Ran step_law before calls) (sym d.view) (joined_ran before calls bytes last j d.may.fits);
    faults = ap (λ view. view.target.told.faults) d.view;
    wants = ap (λ view. view.target.told.wants) d.view;
  }
  emits_joined (Err refusal) calls bytes last j stop full =
      let cut = stopped_cut before behind bytes last stop full in
      record {
        stopped = joined_stops (writer_standing told w) (writer_standing told w') cut.0 (rose cut.0 cut.1.cause) before calls bytes last j cut.1;
        faults = cut.1.counts.faults;
        wants = cut.1.counts.wants;
      }

-- ---- a whole text, and one that is a key

-- the state of one who escapes texts
abbrev pub escaping : (named empty quoted : Bool) → WriterState
escaping named empty quoted = record { named = named; empty = empty; quoted = quoted; handler = escapes }

pub text_joins : (style : Variants) (named empty : Bool) (size : Option ℕ) (text : List ℕ) → escaped text ≡ text
    → JoinsAs style (escaping named empty true) (whole_text_calls size text) (codes "\"" ++ (text ++ codes "\"")) (escaping named false true)
text_joins style named empty size text plain = (
  refl,
  (
    text ++ codes "\"",
    refl,
    (
      refl,
      (
        codes "\"",
        ap (λ t. t ++ codes "\"") (sym plain),
        (
          refl,
          (
            [],
            refl,
            (refl, refl),
          ),
        ),
      ),
    ),
  ),
)

-- what stands in front of a key's text
abbrev pub key_begins : Bool → List ℕ
key_begins true = codes "\""
key_begins false = codes ",\""

key_goes_on : (style : Variants) (empty : Bool) (size : Option ℕ) (text : List ℕ) → escaped text ≡ text
    → JoinsAs style (escaping false empty false) (whole_text_calls size text ++ (Call.PartEnd Slot.Key ∷ [])) (text ++ codes "\":") (escaping false false true)
key_goes_on style empty size text plain = (
  refl,
  (
    text ++ codes "\":",
    refl,
    (
      refl,
      (
        codes "\":",
        ap (λ t. t ++ codes "\":") (sym plain),
        (
          refl,
          (
            codes "\":",
            refl,
            (
              refl,
              (
                [],
                refl,
                (refl, refl),
              ),
            ),
          ),
        ),
      ),
    ),
  ),
)

pub key_joins : (style : Variants) (named empty quoted : Bool) (size : Option ℕ) (text : List ℕ) → escaped text ≡ text
    → JoinsAs style (escaping named empty quoted) (whole_key_calls size text) (key_begins empty ++ (text ++ codes "\":")) (escaping false false true)
key_joins style named true quoted size text plain = (refl, (text ++ codes "\":", refl, key_goes_on style true size text plain))
key_joins style named false quoted size text plain = (refl, (text ++ codes "\":", refl, key_goes_on style false size text plain))
