-- A map's key that is none: where the writer stops in it.
use Rattle.std.specs.Prelude.{◌≡◌, ℕ, Bool, true, false, ◌&&◌, List, [], ◌++◌, codes, if◌then◌else◌, is_some, Option, Some, None, Result, Ok, Err, refl}
use Rattle.std.proofs.Common.{append_assoc, sym, ap, ◌∙◌, subst, append-nil}
use Rattle.sval_label.specs.Calls.{Call, Head, Name}
use Rattle.sval_core.specs.Trees.{Tree, Null, Truth, Int, Text, Binary, Standalone, Tagged, EmptyEnum, Enum, Container, TextKind, Ordinary, Number, JsonValue, JsonText, JsonNumber, text_kind, MayHold, IsGood}
use Rattle.sval_core.specs.Spells.{bare_name}
use Rattle.sval_json.specs.declared.style.Variants.{Variants}
use Rattle.sval_json.specs.Json.{Key, raw_key}
use Rattle.sval_json.specs.Number.{Refusal, InvalidKey, InvalidNumber, Machine, NumberReading, normal, take_bytes, number_at_end, answer, number_answer}
use Rattle.sval_json.specs.Shape.{map_ok, handle, is_wrapped, tagged_key, key}
use Rattle.sval_json.specs.Actions.{Handler, escapes, reads, set_quoted, set_handler, Outcome, Action, continue, ◌then◌, ◌sets◌, when}
use Rattle.sval_json.specs.Steps.{opens, name_step, refusal_of, number_ends, standalone_step, container_begins, after_name, writer_step}
use Rattle.sval_json.specs.Laws.{BeginsWith}
use Rattle.sval_json.proofs.Numbers.{machine_is_normal}
use Rattle.sval_json.proofs.Writing.{at, machine_start}
use Rattle.sval_json.proofs.WritingKeys.{Begins, tag_quiet, tag_refused, enum_quiet, enum_refused, container_refused}
use Rattle.sval_json.proofs.WrittenOnce.{run}
use Rattle.sval_json.proofs.MendedRuns.{tag_begin, tag_end, text_run}

-- the steps stop, and what they wrote begins what a number's machine writes for this text
pub record StopsIn (text : List ℕ) (o : Outcome) : Type 0 where
  pub why : Refusal
  pub refusal : o.refusal ≡ Some why
  pub begins : BeginsWith (take_bytes machine_start text).written o.written

silent : {o : Outcome} (why : Refusal) → o.refusal ≡ Some why → o.written ≡ [] → StopsIn [] o
silent {o = o} why is none = record { why = why; refusal = is; begins = ([], sym (append-nil o.written ∙ none)) }

-- what follows a refused step isn't done
stays : (o : Outcome) (next : Action) (why : Refusal) → o.refusal ≡ Some why → continue o.refusal o next ≡ o
stays o next why is = ap (λ r. continue r o next) is

silent_first : (o : Outcome) (next : Action) (why : Refusal) → o.refusal ≡ Some why → o.written ≡ [] → StopsIn [] (continue o.refusal o next)
silent_first o next why is none = subst (StopsIn []) (sym (stays o next why is)) (silent {o = o} why is none)

-- ---- a number

-- the number stops at a byte or at its end
stops_at_end : (b : Name) (c n : Bool) (h : Handler) (o : Option (List ℕ)) (w text : List ℕ) (next : Action) (why : Refusal) → number_answer o w ≡ Err why → (take_bytes machine_start text).written ≡ w →
    (let f : Outcome = ((λ s. number_ends o (set_quoted true (set_handler escapes s))) then when (λ state. state.empty) (standalone_step b) sets after_name b) (at n false false h) in
    let k : Outcome = continue f.refusal f next in
    let whole : Outcome = record { state = k.state; written = w ++ k.written; refusal = k.refusal } in StopsIn text whole)
stops_at_end b c n h None w text next why e is = record { why = InvalidNumber; refusal = refl; begins = ([], is ∙ sym (append-nil w) ∙ sym (append-nil (w ++ []))) }
stops_at_end b c n h (Some end) w text next why e is = cc e

stops_in_text : (style : Variants) (b : Name) (n : Bool) (v : Bool) (w text : List ℕ) (machine : Machine) (next : Action) (why : Refusal) →
    answer (record { written = w; machine = machine; valid = v }) ≡ Err why → (take_bytes machine_start text).written ≡ w →
    StopsIn text (continue (refusal_of v) (record { state = at n false false (reads machine); written = w; refusal = refusal_of v }) (writer_step style Call.TextEnd then (tag_end Number b then next)))
stops_in_text style b n false w text machine next why e is = record { why = InvalidNumber; refusal = refl; begins = ([], is ∙ sym (append-nil w)) }
stops_in_text style b n true w text machine next why e is = stops_at_end b true n (reads machine) (number_at_end machine.phase) w text next why e is

-- a text that is no number stops where it is read as one
pub number_stops : (style : Variants) (b : Name) (n e : Bool) (text : List ℕ) (next : Action) (why : Refusal) → normal text ≡ Err why → StopsIn text (text_run style text (tag_end Number b then next) (at n e false (reads machine_start)))
number_stops style b n e text next why bad =
    let r : NumberReading = take_bytes machine_start text in
    stops_in_text style b n r.valid r.written text r.machine next why (machine_is_normal text ∙ bad) refl

-- a number is written whole
whole_at_end : (b : Name) (n : Bool) (h : Handler) (o : Option (List ℕ)) (w out : List ℕ) (next : Action) → number_answer o w ≡ Ok out →
    (let f : Outcome = ((λ s. number_ends o (set_quoted true (set_handler escapes s))) then when (λ state. state.empty) (standalone_step b) sets after_name b) (at n false false h) in
    let k : Outcome = continue f.refusal f next in BeginsWith (w ++ k.written) out)
whole_at_end b n h None w out next e = cc e
whole_at_end b n h (Some end) w out next e =
    let more : List ℕ = (next (at (is_some (handle b)) false true escapes)).written in
    let whole : w ++ end ≡ out = cc e in
    (more, ap (λ x. w ++ (x ++ more)) (append-nil end) ∙ sym (append_assoc w end more) ∙ ap (λ x. x ++ more) whole)

whole_in_text : (style : Variants) (b : Name) (n : Bool) (v : Bool) (w out : List ℕ) (machine : Machine) (next : Action) → answer (record { written = w; machine = machine; valid = v }) ≡ Ok out
    → BeginsWith (continue (refusal_of v) (record { state = at n false false (reads machine); written = w; refusal = refusal_of v }) (writer_step style Call.TextEnd then (tag_end Number b then next))).written out
whole_in_text style b n false w out machine next e = cc e
whole_in_text style b n true w out machine next e = whole_at_end b n (reads machine) (number_at_end machine.phase) w out next e

pub number_begins : (style : Variants) (b : Name) (n e : Bool) (text out : List ℕ) (next : Action) → normal text ≡ Ok out → BeginsWith (text_run style text (tag_end Number b then next) (at n e false (reads machine_start))).written out
number_begins style b n e text out next is =
    let r : NumberReading = take_bytes machine_start text in
    whole_in_text style b n r.valid r.written out r.machine next (machine_is_normal text ∙ is)

-- ---- a key

name_unwritten : (style : Variants) (v e : Bool) (h : Option (List ℕ)) → (v && is_some h) ≡ true → (name_step style h (at v e false escapes)).written ≡ []
name_unwritten style true e (Some h) a = refl
name_unwritten style true e None a = cc a
name_unwritten style false e h a = cc a

tag_unwritten : (style : Variants) (k : TextKind) (v e : Bool) (h : Option (List ℕ)) → (v && is_some h) ≡ true → (Begins style k h (at v e false escapes)).written ≡ []
tag_unwritten style JsonValue v e h a = refl
tag_unwritten style Ordinary v e h a = name_unwritten style v e h a
tag_unwritten style JsonText v e h a = name_unwritten style v e h a
tag_unwritten style JsonNumber v e h a = name_unwritten style v e h a
tag_unwritten style Number v e h a = name_unwritten style v e h a

opens_unwritten : (style : Variants) (v e : Bool) (h : Option (List ℕ)) (bracket : List ℕ) → ((name_step style h then opens bracket) (at v e false escapes)).written ≡ []
opens_unwritten style true e None bracket = refl
opens_unwritten style true e (Some h) bracket = refl
opens_unwritten style false e h bracket = refl

container_unwritten : (style : Variants) (head : Head) (v e : Bool) → (container_begins style head (at v e false escapes)).written ≡ []
container_unwritten style Head.Seq v e = refl
container_unwritten style Head.Map v e = refl
container_unwritten style (Head.Record name) v e = opens_unwritten style v e (handle name) (codes "{")
container_unwritten style (Head.Tuple name) v e = opens_unwritten style v e (handle name) (codes "[")
container_unwritten style (Head.RecordTuple name) v e = opens_unwritten style v e (handle name) (codes "{")

not_number : (x : Result (List ℕ) Refusal) (why : Refusal) → map_ok raw_key x ≡ Err why → x ≡ Err why
not_number (Ok out) why e = cc e
not_number (Err other) why e = cc e

-- for a text the steps over this tree stop in it, where a key is due
abbrev pub KeyStops : Tree → Bool → Type 0
KeyStops tree variant = (text : List ℕ) × ((style : Variants) (e : Bool) (next : Action) → StopsIn text (run style tree next (at variant e false escapes)))

tagged_stops : (k : TextKind) (name : Name) (tree : Tree) (v w : Bool) (why : Refusal) → (v && is_some (handle name)) ≡ w → MayHold k tree → (if w then Err InvalidKey else tagged_key k tree (key tree false)) ≡ Err why
    → ((other : Refusal) → key tree false ≡ Err other → KeyStops tree false)
    → (text : List ℕ) × ((style : Variants) (e : Bool) (next : Action) → StopsIn text ((tag_begin style k (handle name) then run style tree (tag_end k (bare_name name) then next)) (at v e false escapes)))
unfolding run
tagged_stops k name tree v true why is m bad inner = (
  [],
  λ style e next. silent_first (tag_begin style k (handle name) (at v e false escapes)) (run style tree (tag_end k (bare_name name) then next)) InvalidKey (tag_refused style k v e (handle name) is) (tag_unwritten style k v e (handle name) is),
)
tagged_stops JsonValue name tree v false why is m bad inner = (
  [],
  λ style e next. silent_first (tag_begin style JsonValue (handle name) (at v e false escapes)) (run style tree (tag_end JsonValue (bare_name name) then next)) InvalidKey refl refl,
)
tagged_stops Ordinary name tree v false why is m bad inner =
    let d = inner why bad in (
      d.0,
      λ style e next. subst (λ (f : Outcome). StopsIn d.0 (continue f.refusal f (run style tree (tag_end Ordinary (bare_name name) then next)))) (sym (tag_quiet style Ordinary v e (handle name) (λ x. cc x) is))
          (d.1 style true (tag_end Ordinary (bare_name name) then next)),
    )
tagged_stops Number name (Text bytes) v false why is m bad inner = (
  bytes,
  λ style e next. subst (λ (f : Outcome). StopsIn bytes (continue f.refusal f (text_run style bytes (tag_end Number (bare_name name) then next)))) (sym (tag_quiet style Number v e (handle name) (λ x. cc x) is))
      (number_stops style (bare_name name) false true bytes next why (not_number (normal bytes) why bad)),
)
tagged_stops JsonText name (Text bytes) v false why is m bad inner = cc bad
tagged_stops JsonNumber name (Text bytes) v false why is m bad inner = cc bad
tagged_stops _ name _ v false why is m bad inner = absurd m

empty_stops : (name : Name) (v w : Bool) (k : Key) (why : Refusal) → (v && is_some (handle name)) ≡ w → (if w then Err InvalidKey else Ok k) ≡ Err why → KeyStops (EmptyEnum name) v
unfolding run
empty_stops name v true k why is bad = (
  [],
  λ style e next. silent_first (writer_step style (Call.EnumBegin name) (at v e false escapes)) (writer_step style (Call.EnumEnd (bare_name name)) then next) InvalidKey (enum_refused style v e (handle name) is) (name_unwritten style v e (handle name) is),
)
empty_stops name v false k why is bad = cc bad

enum_stops : (name : Name) (tree : Tree) (v w : Bool) (why : Refusal) → (v && is_some (handle name)) ≡ w → (if w then Err InvalidKey else key tree true) ≡ Err why
    → ((other : Refusal) → key tree true ≡ Err other → KeyStops tree true) → KeyStops (Enum name tree) v
unfolding run
enum_stops name tree v true why is bad inner = (
  [],
  λ style e next. silent_first (writer_step style (Call.EnumBegin name) (at v e false escapes)) (run style tree (writer_step style (Call.EnumEnd (bare_name name)) then next)) InvalidKey (enum_refused style v e (handle name) is) (name_unwritten style v e (handle name) is),
)
enum_stops name tree v false why is bad inner =
    let d = inner why bad in (
      d.0,
      λ style e next. subst (λ (f : Outcome). StopsIn d.0 (continue f.refusal f (run style tree (writer_step style (Call.EnumEnd (bare_name name)) then next)))) (sym (enum_quiet style v e (handle name) is))
          (d.1 style true (writer_step style (Call.EnumEnd (bare_name name)) then next)),
    )

-- the steps stop in a key that is none
pub key_stops : (tree : Tree) (v : Bool) (why : Refusal) → IsGood tree → key tree v ≡ Err why → KeyStops tree v
unfolding run
key_stops Null v why g bad = cc bad
key_stops (Truth b) v why g bad = cc bad
key_stops (Int type n) v why g bad = cc bad
key_stops (Text bytes) v why g bad = cc bad
key_stops (Binary bytes) v why g bad = ([], λ style e next. silent InvalidKey refl refl)
key_stops (Standalone name) v why g bad = cc bad
key_stops (Tagged name tree) v why g bad = tagged_stops (text_kind name.tag) name tree v (is_wrapped v name) why refl g.1 bad (λ other is. key_stops tree false other g.2 is)
key_stops (EmptyEnum name) v why g bad = empty_stops name v (is_wrapped v name) _ why refl bad
key_stops (Enum name tree) v why g bad = enum_stops name tree v (is_wrapped v name) why refl bad (λ other is. key_stops tree true other g.2 is)
key_stops (Container head parts) v why g bad = (
  [],
  λ style e next. silent_first (container_begins style head (at v e false escapes)) _ InvalidKey (container_refused style head v e) (container_unwritten style head v e),
)
