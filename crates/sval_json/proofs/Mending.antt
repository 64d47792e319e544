-- A tree that has no JSON is mended, and what is written for it begins the text of the mended tree.
use Rattle.std.specs.Prelude.{◌≡◌, ℕ, Bool, true, false, List, [], ◌++◌, codes, Option, Result, Ok, Err, ⊤, refl}
use Rattle.std.proofs.Common.{sym, ap, ◌∙◌, subst}
use Rattle.sval_label.specs.Calls.{Call, Head, Slot, Name, Label}
use Rattle.sval_core.specs.Names.{tag_alone}
use Rattle.sval_core.specs.Trees.{Tree, Null, Truth, Int, Text, Binary, Standalone, Tagged, EmptyEnum, Enum, Container, Parts, none, part, Kind, Item, Key, Field, Place, FieldPlace, kind_of, first_kind, next_kind, AreInOrder, TextKind, Ordinary, Number, JsonValue, JsonText, JsonNumber, text_kind, MayHold, IsVariant, IsGood, AreGood, calls_of, plain_slot}
use Rattle.sval_core.specs.Spells.{Spells, plain, bare_name, bare_head, bare_slot}
use Rattle.sval_core.proofs.Spellings.{calls_of-spells}
use Rattle.sval_json.specs.declared.style.Variants.{Variants}
use Rattle.sval_json.specs.Json as json
use Rattle.sval_json.specs.Json.{Json, Items, no_item, item, Pairs, no_pair, pair, raw, compact}
use Rattle.sval_json.specs.Number.{Refusal, normal}
use Rattle.sval_json.specs.Shape.{on_ok, map_ok, handle, wrap, field_key, tagged_json, key, shape, items, pairs, json_in}
use Rattle.sval_core.specs.Real.{IsInRange, AreInRange, IsReal}
use Rattle.sval_json.specs.Promises.{KeepsTextPromise, KeepsPromises, KeepPromises}
use Rattle.sval_json.specs.Grammar.{Denotes}
use Rattle.sval_json.specs.Fronts.{IsFront}
use Rattle.sval_json.specs.Mended.{Mends, same, number, tagged, enum, container, MendParts, no_part, a_part, a_key}
use Rattle.sval_json.specs.Actions.{escapes, writer_start, Outcome, Action, nothing, ◌then◌}
use Rattle.sval_json.specs.Steps.{name_step, begins_number, part_begins, writer_step, written_in}
use Rattle.sval_json.specs.Laws.{BeginsWith, IsWrittenAs, IsBegunAs}
use Rattle.sval_json.proofs.Writing.{at}
use Rattle.sval_json.proofs.WritingPlain.{steps_plain, spelling_written}
use Rattle.sval_json.proofs.WrittenOnce.{run, run_parts, says_run}
use Rattle.sval_json.proofs.Meaning.{text_means}
use Rattle.sval_json.proofs.MendedNumbers.{begins_on, GoesOnAs, goes_on_as}
use Rattle.sval_json.proofs.MendedRuns.{Goes, alike, stopped, goes_begins, goes_after, keeps_then, keeps_name, keeps_part, keeps_part_end, Sim, sim_then, sim_ordinary, sim_enum, sim_container, sim_same, tag_begin, tag_end, text_run}
use Rattle.sval_json.proofs.MendedKeys.{number_stops, number_begins, key_stops}

-- ---- keys

number_name : Name
number_name = tag_alone (codes "NUMBER")

-- another key stands in place of one that is none
record KeyMending (tree : Tree) : Type 0 where
  other : Tree
  k : json.Key
  is : key other false ≡ Ok k
  good : IsGood other
  in_range : IsInRange other
  keeps : KeepsPromises other
  goes : (style : Variants) (e : Bool) (next after : Action) → Goes (run style tree next (at false e false escapes)) (run style other after (at false e false escapes))

mended_key : (tree : Tree) (why : Refusal) → IsGood tree → key tree false ≡ Err why → KeyMending tree
unfolding run number_name
mended_key tree why g bad =
    let s = key_stops tree false why g bad in
    let c = goes_on_as s.0 in
    record {
      other = Tagged number_name (Text c.0);
      k = json.raw_key c.0;
      is = ap (map_ok json.raw_key) c.1.is_number;
      good = (refl, tt, tt);
      in_range = ((tt, tt), c.1.utf8);
      keeps = (tt, tt);
      goes = λ style e next after.
          let stop = s.1 style e next in
          stopped stop.why stop.refusal (begins_on _ (number_begins style (bare_name number_name) false true c.0 c.0 after c.1.is_number) (begins_on _ c.1.begins stop.begins));
    }

-- ---- numbers

goes_number : (style : Variants) (h : Option (List ℕ)) (name : Name) (text other : List ℕ) (why : Refusal) (next after : Action) → normal text ≡ Err why → GoesOnAs text other
    → Sim (tag_begin style Number h then text_run style text (tag_end Number name then next)) (tag_begin style Number h then text_run style other (tag_end Number name then after))
goes_number style h name text other why next after bad c s e =
    let begun : Outcome = tag_begin style Number h s in
    let named : Outcome = (nothing then name_step style h) s in
    let escaping = keeps_then nothing (name_step style h) (λ s h. h) (keeps_name style h) s e in
    let stop = number_stops style name named.state.named true text next why bad in
    goes_after begun.refusal begun (text_run style text (tag_end Number name then next)) (text_run style other (tag_end Number name then after))
    (subst (λ x. Goes (text_run style text (tag_end Number name then next) (at named.state.named true false (begins_number x))) (text_run style other (tag_end Number name then after) (at named.state.named true false (begins_number x)))) (sym escaping)
    (stopped stop.why stop.refusal (begins_on _ (number_begins style name named.state.named true other other after c.is_number) (begins_on _ c.begins stop.begins))))

-- ---- trees

HasShape : Tree → Type 0
HasShape tree = (style : Variants) (v : Bool) → (j : Json) × (shape style tree v ≡ Ok j)

record Mending (t : Tree) : Type 0 where
  other : Tree
  mends : Mends t other
  shaped : HasShape other
  good : IsGood other
  in_range : IsInRange t → IsInRange other
  keeps : KeepsPromises t → KeepsPromises other
  variant : IsVariant t → IsVariant other
  sim : (style : Variants) (next after : Action) → Sim next after → Sim (run style t next) (run style other after)

kept : (t : Tree) → IsGood t → HasShape t → Mending t
kept t g h = record { other = t; mends = same; shaped = h; good = g; in_range = λ r. r; keeps = λ p. p; variant = λ i. i; sim = λ style next after s. sim_same style t next after g s }

tagged_shape : (name : Name) (tree : Tree) (k : TextKind) → text_kind name.tag ≡ k → ((style : Variants) → (j : Json) × (tagged_json k tree (shape style tree false) ≡ Ok j)) → HasShape (Tagged name tree)
unfolding HasShape
tagged_shape name tree k is h = λ style v.
    let j = h style in
    (wrap style v name j.0, ap (map_ok (wrap style v name)) (ap (λ k. tagged_json k tree (shape style tree false)) is ∙ j.1))

mended_number : (name : Name) (text : List ℕ) (x : Result (List ℕ) Refusal) → normal text ≡ x → text_kind name.tag ≡ Number → IsGood (Tagged name (Text text)) → Mending (Tagged name (Text text))
unfolding HasShape run
mended_number name text (Ok out) is k g = kept (Tagged name (Text text)) g (tagged_shape name (Text text) Number k (λ style. (raw out, ap (map_ok raw) is)))
mended_number name text (Err why) is k g =
    let c = goes_on_as text in
    record {
      other = Tagged name (Text c.0);
      mends = number k is c.1.is_number;
      shaped = tagged_shape name (Text c.0) Number k (λ style. (raw c.0, ap (map_ok raw) c.1.is_number));
      good = (g.0, subst (λ k. MayHold k (Text c.0)) (sym k) tt, tt);
      in_range = λ r. (r.0, c.1.utf8);
      keeps = λ p. (subst (λ k. KeepsTextPromise k (Text c.0)) (sym k) tt, tt);
      variant = λ i. tt;
      sim = λ style next after s.
          subst (λ k. Sim (tag_begin style k (handle name) then text_run style text (tag_end k (bare_name name) then next)) (tag_begin style k (handle name) then text_run style c.0 (tag_end k (bare_name name) then after))) (sym k)
          (goes_number style (handle name) (bare_name name) text c.0 why next after is c.1);
    }

mended_tagged : (name : Name) (tree : Tree) (k : TextKind) → text_kind name.tag ≡ k → MayHold k tree → IsGood (Tagged name tree) → Mending tree → Mending (Tagged name tree)
unfolding HasShape run
mended_tagged name tree Ordinary k held g m = record {
  other = Tagged name m.other;
  mends = tagged m.mends;
  shaped = tagged_shape name m.other Ordinary k (λ style. m.shaped style false);
  good = (g.0, subst (λ k. MayHold k m.other) (sym k) tt, m.good);
  in_range = λ r. (r.0, m.in_range r.1);
  keeps = λ p. (subst (λ k. KeepsTextPromise k m.other) (sym k) tt, m.keeps p.1);
  variant = λ i. tt;
  sim = λ style next after s.
      subst (λ k. Sim (tag_begin style k (handle name) then run style tree (tag_end k (bare_name name) then next)) (tag_begin style k (handle name) then run style m.other (tag_end k (bare_name name) then after))) (sym k)
      (sim_ordinary style (handle name) (bare_name name) (m.sim style _ _) s);
}
mended_tagged name (Text bytes) Number k held g m = mended_number name bytes (normal bytes) refl k g
mended_tagged name (Text bytes) JsonText k held g m = kept (Tagged name (Text bytes)) g (tagged_shape name (Text bytes) JsonText k (λ style. (_, refl)))
mended_tagged name (Text bytes) JsonValue k held g m = kept (Tagged name (Text bytes)) g (tagged_shape name (Text bytes) JsonValue k (λ style. (_, refl)))
mended_tagged name (Text bytes) JsonNumber k held g m = kept (Tagged name (Text bytes)) g (tagged_shape name (Text bytes) JsonNumber k (λ style. (_, refl)))
mended_tagged name _ _ k held g m = absurd held

-- ---- the parts of containers

PartShaped : Slot → Tree → Type 0
PartShaped Slot.Key tree = (k : json.Key) × (key tree false ≡ Ok k)
PartShaped _ tree = HasShape tree

AreShaped : Parts → Type 0
AreShaped none = ⊤
AreShaped (part slot tree parts) = PartShaped slot tree × AreShaped parts

record PartsMending (p : Parts) : Type 0 where
  others : Parts
  mends : MendParts p others
  shaped : AreShaped others
  good : AreGood others
  in_range : AreInRange p → AreInRange others
  keeps : KeepPromises p → KeepPromises others
  order : (kind : Kind) → AreInOrder kind p → AreInOrder kind others
  sim : (style : Variants) (next after : Action) → Sim next after → Sim (run_parts style p next) (run_parts style others after)

value_shape : (slot : Slot) (tree : Tree) → (kind_of slot ≡ Key → ⊥) → PartShaped slot tree → HasShape tree
unfolding PartShaped
value_shape Slot.Key tree other s = absurd (other refl)
value_shape Slot.Item tree other s = s
value_shape Slot.Value tree other s = s
value_shape (Slot.Field _ _) tree other s = s
value_shape (Slot.Place _ _) tree other s = s
value_shape (Slot.FieldPlace _ _ _) tree other s = s

one_item : (style : Variants) (tree : Tree) (parts : Parts) → HasShape tree → ((is : Items) × (items style parts ≡ Ok is)) → (slot : Slot) → (is : Items) × (items style (part slot tree parts) ≡ Ok is)
unfolding HasShape
one_item style tree parts h rest slot =
    let j = h style false in
    (item j.0 rest.0, ap (λ x. on_ok x (λ json. map_ok (item json) (items style parts))) j.1 ∙ ap (map_ok (item j.0)) rest.1)

one_field : (style : Variants) (label : Label) (tree : Tree) (parts : Parts) → HasShape tree → ((ps : Pairs) × (pairs style parts ≡ Ok ps))
    → (ps : Pairs) × (on_ok (shape style tree false) (λ json. map_ok (pair (field_key label) json) (pairs style parts)) ≡ Ok ps)
unfolding HasShape
one_field style label tree parts h rest =
    let j = h style false in
    (pair (field_key label) j.0 rest.0, ap (λ x. on_ok x (λ json. map_ok (pair (field_key label) json) (pairs style parts))) j.1 ∙ ap (map_ok (pair (field_key label) j.0)) rest.1)

one_pair : (style : Variants) (name tree : Tree) (parts : Parts) → ((k : json.Key) × (key name false ≡ Ok k)) → HasShape tree → ((ps : Pairs) × (pairs style parts ≡ Ok ps))
    → (ps : Pairs) × (pairs style (part Slot.Key name (part Slot.Value tree parts)) ≡ Ok ps)
unfolding HasShape
one_pair style name tree parts k h rest =
    let j = h style false in (
      pair k.0 j.0 rest.0,
      ap (λ x. on_ok x (λ k. on_ok (shape style tree false) (λ json. map_ok (pair k json) (pairs style parts)))) k.1
          ∙ ap (λ x. on_ok x (λ json. map_ok (pair k.0 json) (pairs style parts))) j.1 ∙ ap (map_ok (pair k.0 j.0)) rest.1,
    )

items_ok : (style : Variants) (kind : Kind) (p : Parts) → (kind ≡ Key → ⊥) → next_kind kind ≡ kind → AreInOrder kind p → AreShaped p → (is : Items) × (items style p ≡ Ok is)
unfolding AreShaped
items_ok style kind none other next o s = (no_item, refl)
items_ok style kind (part slot tree parts) other next o s =
    one_item style tree parts (value_shape slot tree (λ k. other (sym o.0 ∙ k)) s.0) (items_ok style kind parts other next (subst (λ k. AreInOrder k parts) next o.1) s.1) slot

fields_ok : (style : Variants) (kind : Kind) (p : Parts) → (kind ≡ Key → ⊥) → next_kind kind ≡ kind → AreInOrder kind p → AreShaped p → (ps : Pairs) × (pairs style p ≡ Ok ps)
unfolding AreShaped PartShaped
fields_ok style kind none other next o s = (no_pair, refl)
fields_ok style kind (part Slot.Key tree parts) other next o s = absurd (other (sym o.0))
fields_ok style kind (part (Slot.Field tag label) tree parts) other next o s = one_field style label tree parts s.0 (fields_ok style kind parts other next (subst (λ k. AreInOrder k parts) next o.1) s.1)
fields_ok style kind (part (Slot.FieldPlace tag label index) tree parts) other next o s = one_field style label tree parts s.0 (fields_ok style kind parts other next (subst (λ k. AreInOrder k parts) next o.1) s.1)
fields_ok style kind (part _ tree parts) other next o s = (no_pair, refl)

pairs_ok : (style : Variants) (p : Parts) → AreInOrder Key p → AreShaped p → (ps : Pairs) × (pairs style p ≡ Ok ps)
unfolding AreShaped PartShaped
pairs_ok style none o s = (no_pair, refl)
pairs_ok style (part Slot.Key name (part Slot.Value tree parts)) o s = one_pair style name tree parts s.0 s.1.0 (pairs_ok style parts o.1.1 s.1.1)
pairs_ok style (part Slot.Key name none) o s = absurd o.1
pairs_ok style (part Slot.Key name (part _ tree parts)) o s = cc o.1.0
pairs_ok style (part _ name parts) o s = cc o.0

container_shape : (head : Head) (p : Parts) → AreInOrder (first_kind head) p → AreShaped p → HasShape (Container head p)
unfolding HasShape
container_shape Head.Seq p o s = λ style v. let is = items_ok style Item p (λ e. cc e) refl o s in (json.array is.0, ap (map_ok json.array) is.1)
container_shape Head.Map p o s = λ style v. let ps = pairs_ok style p o s in (json.object ps.0, ap (map_ok json.object) ps.1)
container_shape (Head.Record name) p o s = λ style v.
    let ps = fields_ok style Field p (λ e. cc e) refl o s in
    (wrap style v name (json.object ps.0), ap (map_ok (λ fields. wrap style v name (json.object fields))) ps.1)
container_shape (Head.Tuple name) p o s = λ style v.
    let is = items_ok style Place p (λ e. cc e) refl o s in
    (wrap style v name (json.array is.0), ap (map_ok (λ places. wrap style v name (json.array places))) is.1)
container_shape (Head.RecordTuple name) p o s = λ style v.
    let ps = fields_ok style FieldPlace p (λ e. cc e) refl o s in
    (wrap style v name (json.object ps.0), ap (map_ok (λ fields. wrap style v name (json.object fields))) ps.1)

other_part : (slot : Slot) (tree : Tree) (parts : Parts) → plain_slot slot ≡ slot → (m : Mending tree) → PartShaped slot m.other → PartsMending parts → PartsMending (part slot tree parts)
unfolding AreShaped run
other_part slot tree parts g m h rest = record {
  others = part slot m.other rest.others;
  mends = a_part m.mends rest.mends;
  shaped = (h, rest.shaped);
  good = (g, m.good, rest.good);
  in_range = λ r. (r.0, m.in_range r.1, rest.in_range r.2);
  keeps = λ p. (p.0, m.keeps p.1, rest.keeps p.2);
  order = λ kind o. (o.0, rest.order (next_kind kind) o.1);
  sim = λ style next after s.
      sim_then (writer_step style (Call.PartBegin slot)) (keeps_part slot)
      (m.sim style _ _ (sim_then (writer_step style (Call.PartEnd (bare_slot slot))) (keeps_part_end (bare_slot slot)) (rest.sim style next after s)));
}

key_part : (tree : Tree) (parts : Parts) (x : Result json.Key Refusal) → key tree false ≡ x → IsGood tree → PartsMending parts → PartsMending (part Slot.Key tree parts)
unfolding AreShaped PartShaped run
key_part tree parts (Ok k) is g rest = record {
  others = part Slot.Key tree rest.others;
  mends = a_part same rest.mends;
  shaped = ((k, is), rest.shaped);
  good = (refl, g, rest.good);
  in_range = λ r. (r.0, r.1, rest.in_range r.2);
  keeps = λ p. (p.0, p.1, rest.keeps p.2);
  order = λ kind o. (o.0, rest.order (next_kind kind) o.1);
  sim = λ style next after s.
      sim_then (writer_step style (Call.PartBegin Slot.Key)) (keeps_part Slot.Key)
      (sim_same style tree _ _ g (sim_then (writer_step style (Call.PartEnd Slot.Key)) (keeps_part_end Slot.Key) (rest.sim style next after s)));
}
key_part tree parts (Err why) is g rest =
    let m = mended_key tree why g is in
    record {
      others = part Slot.Key m.other rest.others;
      mends = a_key is m.is rest.mends;
      shaped = ((m.k, m.is), rest.shaped);
      good = (refl, m.good, rest.good);
      in_range = λ r. (r.0, m.in_range, rest.in_range r.2);
      keeps = λ p. (p.0, m.keeps, rest.keeps p.2);
      order = λ kind o. (o.0, rest.order (next_kind kind) o.1);
      sim = λ style next after s state e.
          let begun : Outcome = part_begins Slot.Key state in
          let then_on : Action = writer_step style (Call.PartEnd Slot.Key) then run_parts style parts next in
          let then_other : Action = writer_step style (Call.PartEnd Slot.Key) then run_parts style rest.others after in
          goes_after begun.refusal begun (run style tree then_on) (run style m.other then_other)
          (subst (λ x. Goes (run style tree then_on (at false state.empty false x)) (run style m.other then_other (at false state.empty false x))) (sym e) (m.goes style state.empty then_on then_other));
    }

mutual
  unfolding HasShape AreShaped PartShaped run

  mending : (t : Tree) → IsGood t → Mending t
  mending Null g = kept Null g (λ style v. (_, refl))
  mending (Truth b) g = kept (Truth b) g (λ style v. (_, refl))
  mending (Int type n) g = kept (Int type n) g (λ style v. (_, refl))
  mending (Text bytes) g = kept (Text bytes) g (λ style v. (_, refl))
  mending (Binary bytes) g = kept (Binary bytes) g (λ style v. (_, refl))
  mending (Standalone name) g = kept (Standalone name) g (λ style v. (_, refl))
  mending (Tagged name tree) g = mended_tagged name tree (text_kind name.tag) refl g.1 g (mending tree g.2)
  mending (EmptyEnum name) g = kept (EmptyEnum name) g (λ style v. (_, refl))
  mending (Enum name tree) g =
      let m = mending tree g.2 in
      record {
        other = Enum name m.other;
        mends = enum m.mends;
        shaped = λ style v. let j = m.shaped style true in (wrap style v name j.0, ap (map_ok (wrap style v name)) j.1);
        good = (g.0, m.variant g.1, m.good);
        in_range = λ r. (r.0, m.in_range r.1);
        keeps = λ p. m.keeps p;
        variant = λ i. tt;
        sim = λ style next after s. sim_enum style name (bare_name name) (m.sim style _ _) s;
      }
  mending (Container head parts) g =
      let m = parts_mending parts g.2 in
      record {
        other = Container head m.others;
        mends = container m.mends;
        shaped = container_shape head m.others (m.order (first_kind head) g.1) m.shaped;
        good = (g.0, m.order (first_kind head) g.1, m.good);
        in_range = λ r. (r.0, m.in_range r.1);
        keeps = λ p. m.keeps p;
        variant = λ i. i;
        sim = λ style next after s. sim_container style head (bare_head head) (m.sim style _ _) s;
      }

  parts_mending : (p : Parts) → AreGood p → PartsMending p
  parts_mending none g = record { others = none; mends = no_part; shaped = tt; good = tt; in_range = λ r. r; keeps = λ p. p; order = λ kind o. o; sim = λ style next after s. s }
  parts_mending (part Slot.Key tree parts) g = key_part tree parts (key tree false) refl g.1 (parts_mending parts g.2)
  parts_mending (part Slot.Item tree parts) g = let m = mending tree g.1 in other_part Slot.Item tree parts g.0 m m.shaped (parts_mending parts g.2)
  parts_mending (part Slot.Value tree parts) g = let m = mending tree g.1 in other_part Slot.Value tree parts g.0 m m.shaped (parts_mending parts g.2)
  parts_mending (part (Slot.Field tag label) tree parts) g = let m = mending tree g.1 in other_part (Slot.Field tag label) tree parts g.0 m m.shaped (parts_mending parts g.2)
  parts_mending (part (Slot.Place tag index) tree parts) g = let m = mending tree g.1 in other_part (Slot.Place tag index) tree parts g.0 m m.shaped (parts_mending parts g.2)
  parts_mending (part (Slot.FieldPlace tag label index) tree parts) g = let m = mending tree g.1 in other_part (Slot.FieldPlace tag label index) tree parts g.0 m m.shaped (parts_mending parts g.2)

-- ---- what was written

spelled : (style : Variants) (calls : List Call) (tree : Tree) → Spells calls tree → written_in style calls ≡ run style tree nothing writer_start
spelled style calls tree s = ap (λ f. f writer_start) (sym (steps_plain style calls) ∙ says_run style tree (plain calls) [] s.1)

written_compact : (style : Variants) (calls : List Call) (tree : Tree) (j : Json) → Spells calls tree → json_in style tree ≡ Ok j → (written_in style calls).written ≡ compact j
written_compact style calls tree j s is = (subst (λ x. IsWrittenAs x (written_in style calls)) is (spelling_written style calls tree s)).0

module _ (style : Variants) (calls : List Call) (tree : Tree) (s : Spells calls tree) where
  mended_text : (m : Mending tree) (j : Json) → json_in style m.other ≡ Ok j → BeginsWith (compact j) (written_in style calls).written
  mended_text m j is =
      let spells = calls_of-spells m.other m.good in
      let both = goes_begins (m.sim style nothing nothing (λ state e. alike refl) writer_start refl) in
      let whole : compact j ≡ (run style m.other nothing writer_start).written = sym (written_compact style (calls_of m.other) m.other j spells is) ∙ ap (λ o. o.written) (spelled style (calls_of m.other) m.other spells) in
      (both.0, whole ∙ both.1 ∙ ap (λ o. o.written ++ both.0) (sym (spelled style calls tree s)))

  -- whatever calls spell a tree, what is written for them begins the text of a tree that mends it
  pub begun_as_mended : IsBegunAs style tree (written_in style calls).written
  unfolding HasShape
  begun_as_mended =
      let m = mending tree s.0 in
      let j = m.shaped style false in
      record { other = m.other; mends = m.mends; spells = calls_of-spells m.other m.good; json = j.0; shape = j.1; begins = mended_text m j.0 j.1 }

  -- and where the tree is real and keeps its promises, a text that denotes a value
  pub written_is_front : IsReal tree → KeepsPromises tree → IsFront (written_in style calls).written
  unfolding HasShape
  written_is_front r p =
      let m = mending tree s.0 in
      let j = m.shaped style false in
      let begins = mended_text m j.0 j.1 in
      let meant = text_means style m.other j.0 (m.good, m.in_range r.1) (m.keeps p) j.1 in
      record { more = begins.0; value = meant.0; denotes = subst (λ bytes. Denotes bytes meant.0) begins.1 meant.1.denotes }
