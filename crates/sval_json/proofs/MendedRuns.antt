-- Two runs of the writer's steps, of which the first stops where the second goes on.
use Rattle.std.specs.Prelude.{◌≡◌, ℕ, Bool, true, false, not, if◌then◌else◌, List, [], ◌∷◌, ◌++◌, Option, Some, None, refl}
use Rattle.std.specs.Fmt.{decimal}
use Rattle.std.proofs.Common.{sym, ap, ◌∙◌, subst, append_assoc}
use Rattle.sval_label.specs.Calls.{Call, Head, Slot, Name, Label}
use Rattle.sval_core.specs.Trees.{Tree, Null, Truth, Int, Text, Binary, Standalone, Tagged, EmptyEnum, Enum, Container, Parts, none, part, TextKind, Ordinary, Number, JsonValue, JsonText, JsonNumber, text_kind, MayHold, IsGood, AreGood}
use Rattle.sval_core.specs.Spells.{bare_name, bare_head, bare_slot}
use Rattle.sval_json.specs.declared.style.Variants.{Variants}
use Rattle.sval_json.specs.Number.{Refusal, number_at_end}
use Rattle.sval_json.specs.Shape.{handle, handle_of, is_none_tag}
use Rattle.sval_json.specs.Actions.{Handler, escapes, copies, reads, WriterState, set_named, set_empty, set_quoted, set_handler, Outcome, Action, write, nothing, continue, ◌then◌, ◌sets◌, when}
use Rattle.sval_json.specs.Steps.{refuse_in_key, opens, closes, quote_if_quoted, opens_handle, name_step, after_name, item_begins, value_written, text_begins, fragment_by, fragment, number_ends, handler_ends, bytes_step, label_step, own_step, standalone_step, begins_tagged, number_is_over, ends_tagged, refuses_key, container_begins, container_ends, part_begins, part_ends, writer_step}
use Rattle.sval_json.specs.Laws.{BeginsWith}
use Rattle.sval_json.proofs.WrittenOnce.{run, run_parts}

-- both do the same, or the first is refused and what it wrote begins what the second writes
pub data Goes (o other : Outcome) : Type 0 where
  alike : o ≡ other → Goes o other
  stopped : (why : Refusal) → o.refusal ≡ Some why → BeginsWith other.written o.written → Goes o other

pub goes_begins : {o other : Outcome} → Goes o other → BeginsWith other.written o.written
goes_begins {o} (alike e) = ([], ap (λ (o : Outcome). o.written) (sym e) ∙ sym (nil_after o.written))
  where
    nil_after : (w : List ℕ) → w ++ [] ≡ w
    nil_after [] = refl
    nil_after (x ∷ w) = ap (λ w. x ∷ w) (nil_after w)
goes_begins (stopped why is begins) = begins

after_bytes : {o other : Outcome} (w : List ℕ) → Goes o other
    → Goes (record { state = o.state; written = w ++ o.written; refusal = o.refusal }) (record { state = other.state; written = w ++ other.written; refusal = other.refusal })
after_bytes w (alike e) = alike (ap (λ (o : Outcome). let after : Outcome = record { state = o.state; written = w ++ o.written; refusal = o.refusal } in after) e)
after_bytes {o} w (stopped why is begins) = stopped why is (begins.0, ap (λ x. w ++ x) begins.1 ∙ sym (append_assoc w o.written begins.0))

pub goes_after : (refusal : Option Refusal) (done : Outcome) (next other : Action) → Goes (next done.state) (other done.state) → Goes (continue refusal done next) (continue refusal done other)
goes_after (Some why) done next other g = alike refl
goes_after None done next other g = after_bytes done.written g

-- ---- actions that keep texts escaped

-- where fragments are escaped, they are after it
abbrev pub Keeps : Action → Type 0
Keeps a = (s : WriterState) → s.handler ≡ escapes → (a s).state.handler ≡ escapes

kept_on : (refusal : Option Refusal) (done : Outcome) (next : Action) → done.state.handler ≡ escapes → Keeps next → (continue refusal done next).state.handler ≡ escapes
kept_on (Some why) done next h k = h
kept_on None done next h k = k done.state h

pub keeps_then : (a b : Action) → Keeps a → Keeps b → Keeps (a then b)
keeps_then a b k l s h = kept_on (a s).refusal (a s) b (k s h) l

keeps_when : (test : WriterState → Bool) (a : Action) → Keeps a → Keeps (when test a)
keeps_when test a k s h = elim (test s) as (λ b. ((if b then a else nothing) s).state.handler ≡ escapes) [ true ↦ k s h | false ↦ h ]

keeps_refuse : Keeps refuse_in_key
keeps_refuse = keeps_when (λ state. not state.quoted) _ (λ s h. h)

keeps_opens : (w : List ℕ) → Keeps (opens w)
keeps_opens w s h = keeps_then refuse_in_key (write w) keeps_refuse (λ s h. h) s h

keeps_quote : Keeps quote_if_quoted
keeps_quote = keeps_when (λ state. state.quoted) _ (λ s h. h)

keeps_handle : (style : Variants) (h : Option (List ℕ)) → Keeps (opens_handle style h)
keeps_handle style None s e = e
keeps_handle style (Some handle) s e = keeps_then refuse_in_key (write _) keeps_refuse (λ s h. h) s e

pub keeps_name : (style : Variants) (h : Option (List ℕ)) → Keeps (name_step style h)
keeps_name style h s e = keeps_when (λ state. state.named) (opens_handle style h) (keeps_handle style h) s e

keeps_text : Keeps text_begins
keeps_text s h = keeps_quote (set_empty false s) h

keeps_fragment : (bytes : List ℕ) → Keeps (fragment bytes)
keeps_fragment bytes s h = subst (λ k. (fragment_by k bytes s).state.handler ≡ escapes) (sym h) h

keeps_label : (l : Option Label) (d : Option (List ℕ)) → Keeps (label_step l d)
keeps_label (Some label) d s h = keeps_then (text_begins then fragment label.text) quote_if_quoted (keeps_then text_begins (fragment label.text) keeps_text (keeps_fragment label.text)) keeps_quote s h
keeps_label None (Some d) s h = h
keeps_label None None s h = h

keeps_own : (b : Bool) (l : Option Label) (d : Option (List ℕ)) → Keeps (own_step b l d)
keeps_own true l d s h = h
keeps_own false l d s h = keeps_label l d s h

keeps_standalone : (name : Name) → Keeps (standalone_step name)
keeps_standalone name s h = keeps_own (is_none_tag name.tag) name.label (handle_of None name.index) (set_empty false (set_named false s)) h

keeps_bytes : (bytes : List ℕ) → Keeps (bytes_step bytes)
keeps_bytes [] s h = h
keeps_bytes (b ∷ bytes) s h = keeps_then (item_begins then value_written (decimal b)) (bytes_step bytes) (keeps_then item_begins (value_written (decimal b)) (λ s h. h) (λ s h. h)) (keeps_bytes bytes) s h

keeps_own_if_empty : (name : Name) → Keeps (when (λ state. state.empty) (standalone_step name))
keeps_own_if_empty name = keeps_when (λ state. state.empty) (standalone_step name) (keeps_standalone name)

keeps_enum_end : (style : Variants) (name : Name) → Keeps (writer_step style (Call.EnumEnd name))
keeps_enum_end style name s h =
    keeps_then (when (λ state. state.empty) (standalone_step name)) _ (keeps_own_if_empty name) (keeps_when (λ state. state.named) (closes _) (λ s h. h)) s h

keeps_begin : (style : Variants) (head : Head) → Keeps (container_begins style head)
keeps_begin style Head.Seq s h = keeps_opens _ s h
keeps_begin style Head.Map s h = keeps_opens _ s h
keeps_begin style (Head.Record name) s h = keeps_then (name_step style (handle name)) (opens _) (keeps_name style (handle name)) (keeps_opens _) s h
keeps_begin style (Head.Tuple name) s h = keeps_then (name_step style (handle name)) (opens _) (keeps_name style (handle name)) (keeps_opens _) s h
keeps_begin style (Head.RecordTuple name) s h = keeps_then (name_step style (handle name)) (opens _) (keeps_name style (handle name)) (keeps_opens _) s h

keeps_end : (head : Head) → Keeps (container_ends head)
keeps_end Head.Seq s h = h
keeps_end Head.Map s h = h
keeps_end (Head.Record name) s h = h
keeps_end (Head.Tuple name) s h = h
keeps_end (Head.RecordTuple name) s h = h

pub keeps_part : (slot : Slot) → Keeps (part_begins slot)
keeps_part Slot.Item s h = h
keeps_part Slot.Key s h = h
keeps_part Slot.Value s h = h
keeps_part (Slot.Field _ label) s h = h
keeps_part (Slot.Place _ _) s h = h
keeps_part (Slot.FieldPlace _ label _) s h = h

pub keeps_part_end : (slot : Slot) → Keeps (part_ends slot)
keeps_part_end Slot.Key s h = h
keeps_part_end _ s h = h

-- ---- a tagged value

-- its begin, by how text under its tag is meant
abbrev pub tag_begin : Variants → TextKind → Option (List ℕ) → Action
tag_begin style k h = refuses_key k then name_step style h sets begins_tagged k sets set_empty true

-- its end
abbrev pub tag_end : TextKind → Name → Action
tag_end k name = ends_tagged k then when (λ state. state.empty) (standalone_step name) sets after_name name

keeps_tag : (style : Variants) (h : Option (List ℕ)) → Keeps (tag_begin style Ordinary h)
keeps_tag style h s e = keeps_then nothing (name_step style h) (λ s h. h) (keeps_name style h) s e

keeps_tag_end : (name : Name) → Keeps (tag_end Ordinary name)
keeps_tag_end name s h = keeps_then nothing (when (λ state. state.empty) (standalone_step name)) (λ s h. h) (keeps_own_if_empty name) s h

-- after the end of a text that is meant in a way of its own fragments are escaped, whatever happened before
over_at : (h : Handler) (s : WriterState) → s.handler ≡ escapes → (handler_ends h s).state.handler ≡ escapes
over_at escapes s e = e
over_at copies s e = e
over_at (reads machine) s e = last (number_at_end machine.phase)
  where
    last : (o : Option (List ℕ)) → (number_ends o s).state.handler ≡ escapes
    last None = e
    last (Some bytes) = e

clears : (k : TextKind) (name : Name) (s : WriterState) → (k ≡ Ordinary → ⊥) → (tag_end k name s).state.handler ≡ escapes
clears Ordinary name s other = absurd (other refl)
clears JsonText name s other = kept_on None (ends_tagged JsonText s) (when (λ state. state.empty) (standalone_step name)) refl (keeps_own_if_empty name)
clears JsonValue name s other = kept_on None (ends_tagged JsonValue s) (when (λ state. state.empty) (standalone_step name)) refl (keeps_own_if_empty name)
clears JsonNumber name s other = kept_on None (ends_tagged JsonNumber s) (when (λ state. state.empty) (standalone_step name)) refl (keeps_own_if_empty name)
clears Number name s other = kept_on (number_is_over s).refusal (number_is_over s) (when (λ state. state.empty) (standalone_step name)) (over_at s.handler (set_quoted true (set_handler escapes s)) refl) (keeps_own_if_empty name)

-- ---- what follows

-- where fragments are escaped, the one goes as the other
abbrev pub Sim : Action → Action → Type 0
Sim next other = (s : WriterState) → s.handler ≡ escapes → Goes (next s) (other s)

-- wherever
abbrev pub SimAll : Action → Action → Type 0
SimAll next other = (s : WriterState) → Goes (next s) (other s)

pub sim_then : (a : Action) {next other : Action} → Keeps a → Sim next other → Sim (a then next) (a then other)
sim_then a {next} {other} k g s h = goes_after (a s).refusal (a s) next other (g (a s).state (k s h))

pub all_then : (a : Action) {next other : Action} → SimAll next other → SimAll (a then next) (a then other)
all_then a {next} {other} g s = goes_after (a s).refusal (a s) next other (g (a s).state)

all_end : (k : TextKind) (name : Name) {next other : Action} → (k ≡ Ordinary → ⊥) → Sim next other → SimAll (tag_end k name then next) (tag_end k name then other)
all_end k name {next} {other} special g s = goes_after (tag_end k name s).refusal (tag_end k name s) next other (g (tag_end k name s).state (clears k name s special))

-- a text that a tag holds
abbrev pub text_run : Variants → List ℕ → Action → Action
text_run style bytes next = writer_step style (Call.TextBegin None) then (fragment bytes then (writer_step style Call.TextEnd then next))

held_text : (style : Variants) (k : TextKind) (h : Option (List ℕ)) (name : Name) (bytes : List ℕ) {next other : Action} → (k ≡ Ordinary → ⊥) → Sim next other
    → Sim (tag_begin style k h then text_run style bytes (tag_end k name then next)) (tag_begin style k h then text_run style bytes (tag_end k name then other))
held_text style k h name bytes special g s e =
    all_then (tag_begin style k h) (all_then (writer_step style (Call.TextBegin None)) (all_then (fragment bytes) (all_then (writer_step style Call.TextEnd) (all_end k name special g)))) s

pub sim_held : (style : Variants) (k : TextKind) (h : Option (List ℕ)) (name : Name) (tree : Tree) {next other : Action} → MayHold k tree →
    ((a b : Action) → Sim a b → Sim (run style tree a) (run style tree b)) → Sim next other →
    Sim (tag_begin style k h then run style tree (tag_end k name then next)) (tag_begin style k h then run style tree (tag_end k name then other))
unfolding run
sim_held style Ordinary h name tree m inner g =
    sim_then (tag_begin style Ordinary h) (keeps_tag style h) (inner _ _ (sim_then (tag_end Ordinary name) (keeps_tag_end name) g))
sim_held style Number h name (Text bytes) m inner g = held_text style Number h name bytes (λ e. cc e) g
sim_held style JsonValue h name (Text bytes) m inner g = held_text style JsonValue h name bytes (λ e. cc e) g
sim_held style JsonText h name (Text bytes) m inner g = held_text style JsonText h name bytes (λ e. cc e) g
sim_held style JsonNumber h name (Text bytes) m inner g = held_text style JsonNumber h name bytes (λ e. cc e) g
sim_held style _ h name _ m inner g = absurd m

-- ---- one tree, and what follows it

pub sim_ordinary : (style : Variants) (h : Option (List ℕ)) (name : Name) {begun ended next other : Action} → (Sim (tag_end Ordinary name then next) (tag_end Ordinary name then other) → Sim begun ended)
    → Sim next other → Sim (tag_begin style Ordinary h then begun) (tag_begin style Ordinary h then ended)
sim_ordinary style h name inner g = sim_then (tag_begin style Ordinary h) (keeps_tag style h) (inner (sim_then (tag_end Ordinary name) (keeps_tag_end name) g))

pub sim_enum : (style : Variants) (name last : Name) {begun ended next other : Action} → (Sim (writer_step style (Call.EnumEnd last) then next) (writer_step style (Call.EnumEnd last) then other) → Sim begun ended)
    → Sim next other → Sim (writer_step style (Call.EnumBegin name) then begun) (writer_step style (Call.EnumBegin name) then ended)
sim_enum style name last inner g =
    sim_then (writer_step style (Call.EnumBegin name)) (λ s h. keeps_name style (handle name) s h) (inner (sim_then (writer_step style (Call.EnumEnd last)) (keeps_enum_end style last) g))

pub sim_container : (style : Variants) (head last : Head) {begun ended next other : Action} → (Sim (writer_step style (Call.End last) then next) (writer_step style (Call.End last) then other) → Sim begun ended)
    → Sim next other → Sim (writer_step style (Call.Begin head None) then begun) (writer_step style (Call.Begin head None) then ended)
sim_container style head last inner g =
    sim_then (writer_step style (Call.Begin head None)) (keeps_begin style head) (inner (sim_then (writer_step style (Call.End last)) (keeps_end last) g))

mutual
  unfolding run

  pub sim_same : (style : Variants) (t : Tree) (next other : Action) → IsGood t → Sim next other → Sim (run style t next) (run style t other)
  sim_same style Null next other good g = sim_then (writer_step style Call.Null) (λ s h. h) g
  sim_same style (Truth b) next other good g = sim_then (writer_step style (Call.Truth b)) (λ s h. h) g
  sim_same style (Int type n) next other good g = sim_then (writer_step style (Call.Int type n)) (λ s h. h) g
  sim_same style (Text bytes) next other good g =
      sim_then (writer_step style (Call.TextBegin None)) keeps_text (sim_then (fragment bytes) (keeps_fragment bytes) (sim_then (writer_step style Call.TextEnd) keeps_quote g))
  sim_same style (Binary bytes) next other good g =
      sim_then (writer_step style (Call.BinaryBegin None)) (keeps_opens _) (sim_then (bytes_step bytes) (keeps_bytes bytes) (sim_then (writer_step style Call.BinaryEnd) (λ s h. h) g))
  sim_same style (Standalone name) next other good g = sim_then (writer_step style (Call.Standalone name)) (keeps_standalone name) g
  sim_same style (Tagged name tree) next other good g =
      sim_held style (text_kind name.tag) (handle name) (bare_name name) tree good.1 (λ a b h. sim_same style tree a b good.2 h) g
  sim_same style (EmptyEnum name) next other good g = sim_enum style name (bare_name name) (λ h. h) g
  sim_same style (Enum name tree) next other good g = sim_enum style name (bare_name name) (sim_same style tree _ _ good.2) g
  sim_same style (Container head parts) next other good g = sim_container style head (bare_head head) (sim_same_parts style parts _ _ good.2) g

  sim_same_parts : (style : Variants) (p : Parts) (next other : Action) → AreGood p → Sim next other → Sim (run_parts style p next) (run_parts style p other)
  sim_same_parts style none next other good g = g
  sim_same_parts style (part slot tree parts) next other good g =
      sim_then (writer_step style (Call.PartBegin slot)) (keeps_part slot)
      (sim_same style tree _ _ good.1 (sim_then (writer_step style (Call.PartEnd (bare_slot slot))) (keeps_part_end (bare_slot slot)) (sim_same_parts style parts next other good.2 g)))
