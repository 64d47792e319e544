-- Where the parts of a value tell trees, the value tells the tree that is built of them.
use Rattle.std.specs.Prelude.{◌≡◌, ℕ, ◌+◌, length, false, List, [], ◌∷◌, ◌++◌, map, Option, Some, None, option_map, refl}
use Rattle.std.specs.List.{AllByRecursion}
use Rattle.std.proofs.Common.{ap, ◌∙◌, sym, subst, arith, append_assoc, append-nil}
use Rattle.std.proofs.lemmas.List.Elements.{filter_map-append}
use Rattle.sval_label.specs.Calls.{Call, Head, Slot, Name, Label}
use Rattle.sval_core.specs.Trees as tree
use Rattle.sval_core.specs.Trees.{Kind, Tree, Null, Truth, Int, Text, Binary, Standalone, Tagged, EmptyEnum, Enum, Container, Parts, none, part, text_kind, MayHold, IsVariant, plain_name, plain_label, plain_head, plain_slot, first_kind, AreInOrder}
use Rattle.sval_core.specs.Spells.{bare_name, bare_head, bare_slot, plain_call, plain, entries, Says, SayParts}
use Rattle.sval_core.specs.Law.{Emission, silent, emits, then_emits}
use Rattle.sval_core.specs.Names.{tag_alone, constant_size_tag, no_name, offset, some_name}
use Rattle.sval_core.specs.Values.{makes, part_emission, enum_emission, tagged_emission, container_emission, parts_emission, binary_emission, seq_emission, array_emission, entry_emission, map_emission, option_emission, places_emission, tuple_emission}
use Rattle.sval_core.specs.ValueTrees.{Tells, TellsParts, tagged_tree, item_parts, seq_tree, array_tree, entry_parts, map_tree, option_tree, place_parts, tuple_tree}
use Rattle.sval_core.specs.ValueLaws.{PlainValuesTell, EnumsTell, TellEach}
use Rattle.sval_core.proofs.Joining.{associate, between_is}

-- ---- further calls after a spelling

text_on : (first : List Call) (cs : List Call) (last : Call) (begin : Call) (rest more : List Call) → cs ≡ begin ∷ first ++ last ∷ rest → cs ++ more ≡ begin ∷ first ++ last ∷ (rest ++ more)
text_on first cs last begin rest more e = ap (λ x. x ++ more) e ∙ ap (λ x. begin ∷ x) (append_assoc first (last ∷ rest) more)

mutual
  pub says_on : (t : Tree) (cs rest more : List Call) → Says t cs rest → Says t (cs ++ more) (rest ++ more)
  says_on Null cs rest more s = ap (λ x. x ++ more) s
  says_on (Truth b) cs rest more s = ap (λ x. x ++ more) s
  says_on (Int type n) cs rest more s = ap (λ x. x ++ more) s
  says_on (Text bytes) cs rest more s = (s.0, s.1, s.2, s.3, text_on (map (Call.TextFragment false) s.1) cs Call.TextEnd (Call.TextBegin s.0) rest more s.4)
  says_on (Binary bytes) cs rest more s = (s.0, s.1, s.2, s.3, text_on (map (Call.BinaryFragment false) s.1) cs Call.BinaryEnd (Call.BinaryBegin s.0) rest more s.4)
  says_on (Standalone name) cs rest more s = ap (λ x. x ++ more) s
  says_on (Tagged name t) cs rest more s = (s.0 ++ more, ap (λ x. x ++ more) s.1, says_on t s.0 (Call.TaggedEnd (bare_name name) ∷ rest) more s.2)
  says_on (EmptyEnum name) cs rest more s = ap (λ x. x ++ more) s
  says_on (Enum name t) cs rest more s = (s.0 ++ more, ap (λ x. x ++ more) s.1, says_on t s.0 (Call.EnumEnd (bare_name name) ∷ rest) more s.2)
  says_on (Container head parts) cs rest more s = (s.0, s.1 ++ more, s.2, ap (λ x. x ++ more) s.3, say_parts_on parts s.1 (Call.End (bare_head head) ∷ rest) more s.4)

  pub say_parts_on : (p : Parts) (cs rest more : List Call) → SayParts p cs rest → SayParts p (cs ++ more) (rest ++ more)
  say_parts_on none cs rest more s = ap (λ x. x ++ more) s
  say_parts_on (part slot t parts) cs rest more s =
      (s.0 ++ more, s.1 ++ more, ap (λ x. x ++ more) s.2, says_on t s.0 (Call.PartEnd (bare_slot slot) ∷ s.1) more s.3, say_parts_on parts s.1 rest more s.4)

pub tells_then : {e : Emission} {t : Tree} → Tells e t → (rest : List Call) → Says t (plain e.calls ++ rest) rest
tells_then {e = e} {t = t} tells rest = says_on t (plain e.calls) [] rest tells.spells.1

-- ---- names that are plain already

plain_label_twice : (o : Option Label) → option_map plain_label (option_map plain_label o) ≡ option_map plain_label o
plain_label_twice None = refl
plain_label_twice (Some label) = refl

pub plain_name_twice : (name : Name) → plain_name (plain_name name) ≡ plain_name name
plain_name_twice name = ap (λ label. let n : Name = record { tag = name.tag; label = label; index = name.index } in n) (plain_label_twice name.label)

pub bare_plain_name : (name : Name) → bare_name (plain_name name) ≡ bare_name name
bare_plain_name name = go name.label
  where
    go : (o : Option Label) → bare_name (record { tag = name.tag; label = option_map plain_label o; index = name.index }) ≡ bare_name (record { tag = name.tag; label = o; index = name.index })
    go None = refl
    go (Some label) = refl

-- what a head that a tree keeps is once more kept, what its end keeps of it, and what it may hold
kept_head : (head : Head) → (plain_head (plain_head head) ≡ plain_head head) × (bare_head (plain_head head) ≡ bare_head head) × (first_kind (plain_head head) ≡ first_kind head)
kept_head Head.Seq = (refl, refl, refl)
kept_head Head.Map = (refl, refl, refl)
kept_head (Head.Record name) = (ap Head.Record (plain_name_twice name), ap Head.Record (bare_plain_name name), refl)
kept_head (Head.Tuple name) = (ap Head.Tuple (plain_name_twice name), ap Head.Tuple (bare_plain_name name), refl)
kept_head (Head.RecordTuple name) = (ap Head.RecordTuple (plain_name_twice name), ap Head.RecordTuple (bare_plain_name name), refl)

pub plain_head_twice : (head : Head) → plain_head (plain_head head) ≡ plain_head head
plain_head_twice head = (kept_head head).0

pub bare_plain_head : (head : Head) → bare_head (plain_head head) ≡ bare_head head
bare_plain_head head = (kept_head head).1

-- the same of the place of a part
kept_slot : (slot : Slot) → (plain_slot (plain_slot slot) ≡ plain_slot slot) × (bare_slot (plain_slot slot) ≡ bare_slot slot)
kept_slot Slot.Item = (refl, refl)
kept_slot Slot.Key = (refl, refl)
kept_slot Slot.Value = (refl, refl)
kept_slot (Slot.Field tag label) = (refl, refl)
kept_slot (Slot.Place tag index) = (refl, refl)
kept_slot (Slot.FieldPlace tag label index) = (refl, refl)

pub plain_slot_twice : (slot : Slot) → plain_slot (plain_slot slot) ≡ plain_slot slot
plain_slot_twice slot = (kept_slot slot).0

pub bare_plain_slot : (slot : Slot) → bare_slot (plain_slot slot) ≡ bare_slot slot
bare_plain_slot slot = (kept_slot slot).1

-- ---- one layer

-- plain calls with an end after them, and then the rest
plain_end : (cs : List Call) (end bare : Call) (rest : List Call) → plain (end ∷ []) ≡ bare ∷ [] → plain (cs ++ end ∷ []) ++ rest ≡ plain cs ++ bare ∷ rest
plain_end cs end bare rest e =
    ap (λ x. x ++ rest) (filter_map-append plain_call cs (end ∷ []) ∙ ap (λ x. plain cs ++ x) e) ∙ append_assoc (plain cs) (bare ∷ []) rest

pub tagged_tells : (name : Name) (e : Emission) (t : Tree) → MayHold (text_kind name.tag) t → Tells e t → Tells (tagged_emission name e) (tagged_tree name t)
tagged_tells name e t may tells =
    subst (λ x. Tells x (tagged_tree name t)) (sym (between_is (Call.TaggedBegin name) (Call.TaggedEnd name) e tells.willing)) (record {
      willing = refl;
      spells = (
        (plain_name_twice name, may, tells.spells.0),
        (
          plain (e.calls ++ Call.TaggedEnd name ∷ []),
          refl,
          subst (λ x. Says t x (Call.TaggedEnd (bare_name (plain_name name)) ∷ []))
              (sym (sym (append-nil (plain (e.calls ++ Call.TaggedEnd name ∷ [])))
              ∙ plain_end e.calls (Call.TaggedEnd name) (Call.TaggedEnd (bare_name (plain_name name))) [] (ap (λ n. Call.TaggedEnd n ∷ []) (sym (bare_plain_name name)))))
              (tells_then tells (Call.TaggedEnd (bare_name (plain_name name)) ∷ [])),
        ),
      );
    })

pub enum_tells : (name : Name) (e : Emission) (t : Tree) → IsVariant t → Tells e t → Tells (enum_emission name e) (Enum (plain_name name) t)
enum_tells name e t variant tells =
    let end = Call.EnumEnd (bare_name (plain_name name)) in
    subst (λ x. Tells x (Enum (plain_name name) t)) (sym (between_is (Call.EnumBegin name) (Call.EnumEnd name) e tells.willing)) (record {
      willing = refl;
      spells = (
        (plain_name_twice name, variant, tells.spells.0),
        (
          plain (e.calls ++ Call.EnumEnd name ∷ []),
          refl,
          subst (λ x. Says t x (end ∷ []))
              (sym (sym (append-nil (plain (e.calls ++ Call.EnumEnd name ∷ []))) ∙ plain_end e.calls (Call.EnumEnd name) end [] (ap (λ n. Call.EnumEnd n ∷ []) (sym (bare_plain_name name)))))
              (tells_then tells (end ∷ [])),
        ),
      );
    })

pub enums_tell : EnumsTell
unfolding then_emits emits silent
enums_tell = record {
  tag = λ name. record { willing = refl; spells = (plain_name_twice name, refl) };
  of_variant = enum_tells;
  empty = λ name. record { willing = refl; spells = (plain_name_twice name, ap (λ n. Call.EnumBegin (plain_name name) ∷ Call.EnumEnd n ∷ []) (sym (bare_plain_name name))) };
}

pub no_part_tells : TellsParts silent none
unfolding silent
no_part_tells = record { willing = refl; good = tt; say = λ rest. refl }

made_first : (calls : List Call) (more : Emission) → then_emits (makes calls) more ≡ record { calls = calls ++ more.calls; refuses = more.refuses }
unfolding then_emits
made_first calls more = refl

-- what a willing part makes, and what follows it
part_is : (slot : Slot) (e more : Emission) → e.refuses ≡ false
    → then_emits (part_emission slot e) more ≡ record { calls = (Call.PartBegin slot ∷ (e.calls ++ Call.PartEnd slot ∷ [])) ++ more.calls; refuses = more.refuses }
part_is slot e more willing =
    ap (λ x. then_emits x more) (between_is (Call.PartBegin slot) (Call.PartEnd slot) e willing) ∙ made_first (Call.PartBegin slot ∷ (e.calls ++ Call.PartEnd slot ∷ [])) more

-- the calls inside of a part, its end, and what follows
part_inside : (slot : Slot) (cs ds rest : List Call) → plain ((cs ++ Call.PartEnd slot ∷ []) ++ ds) ++ rest ≡ plain cs ++ Call.PartEnd (bare_slot (plain_slot slot)) ∷ (plain ds ++ rest)
part_inside slot cs ds rest =
    ap (λ x. x ++ rest) (filter_map-append plain_call (cs ++ Call.PartEnd slot ∷ []) ds)
    ∙ append_assoc (plain (cs ++ Call.PartEnd slot ∷ [])) (plain ds) rest
    ∙ plain_end cs (Call.PartEnd slot) (Call.PartEnd (bare_slot (plain_slot slot))) (plain ds ++ rest) (ap (λ s. Call.PartEnd s ∷ []) (sym (bare_plain_slot slot)))

pub part_tells : (slot : Slot) (e more : Emission) (t : Tree) (parts : Parts) → Tells e t → TellsParts more parts → TellsParts (then_emits (part_emission slot e) more) (part (plain_slot slot) t parts)
part_tells slot e more t parts tells others =
    subst (λ x. TellsParts x (part (plain_slot slot) t parts)) (sym (part_is slot e more tells.willing)) (record {
      willing = others.willing;
      good = (plain_slot_twice slot, tells.spells.0, others.good);
      say = λ rest. (
        plain ((e.calls ++ Call.PartEnd slot ∷ []) ++ more.calls) ++ rest,
        plain more.calls ++ rest,
        refl,
        subst (λ x. Says t x (Call.PartEnd (bare_slot (plain_slot slot)) ∷ (plain more.calls ++ rest))) (sym (part_inside slot e.calls more.calls rest))
            (tells_then tells (Call.PartEnd (bare_slot (plain_slot slot)) ∷ (plain more.calls ++ rest))),
        others.say rest,
      );
    })

pub container_tells : (head : Head) (size : ℕ) (e : Emission) (parts : Parts) → TellsParts e parts → AreInOrder (first_kind head) parts → entries parts ≡ size
    → Tells (container_emission head size e) (Container (plain_head head) parts)
container_tells head size e parts tells order count =
    let end = Call.End (bare_head (plain_head head)) in
    subst (λ x. Tells x (Container (plain_head head) parts)) (sym (between_is (Call.Begin head (Some size)) (Call.End head) e tells.willing)) (record {
      willing = refl;
      spells = (
        (plain_head_twice head, subst (λ k. AreInOrder k parts) (sym (kept_head head).2) order, tells.good),
        (
          Some size,
          plain (e.calls ++ Call.End head ∷ []),
          sym count,
          refl,
          subst (λ x. SayParts parts x (end ∷ []))
              (sym (sym (append-nil (plain (e.calls ++ Call.End head ∷ [])))
              ∙ plain_end e.calls (Call.End head) end [] (ap (λ h. Call.End h ∷ []) (sym (bare_plain_head head)))))
              (tells.say (end ∷ [])),
        ),
      );
    })

-- the emission is the parts of a container from this kind of part on, which are in order and so many entries
pub record TellsEntries (kind : Kind) (e : Emission) (parts : Parts) (size : ℕ) : Type 0 where
  pub tells : TellsParts e parts
  pub in_order : AreInOrder kind parts
  pub counted : entries parts ≡ size

pub entries_tell_container : (head : Head) {size : ℕ} {e : Emission} {parts : Parts} → TellsEntries (first_kind head) e parts size
    → Tells (container_emission head size e) (Container (plain_head head) parts)
entries_tell_container head {size = size} {e = e} {parts = parts} all = container_tells head size e parts all.tells all.in_order all.counted

-- ---- values that are built of no others

pub plain_values_tell : PlainValuesTell
unfolding then_emits emits
plain_values_tell = record {
  null = record { willing = refl; spells = (tt, refl) };
  truth = λ b. record { willing = refl; spells = (tt, refl) };
  int = λ type n. record { willing = refl; spells = (tt, refl) };
  unit = record { willing = refl; spells = (refl, refl) };
  text = λ borrowed text. record { willing = refl; spells = (tt, (Some (length text), text ∷ [], refl, append-nil text, refl)) };
  binary = λ bytes. record { willing = refl; spells = (tt, (Some (length bytes), bytes ∷ [], refl, append-nil bytes, refl)) };
  binary_array = λ bytes. tagged_tells (tag_alone constant_size_tag) (binary_emission bytes) (Binary bytes) tt
      (record { willing = refl; spells = (tt, (Some (length bytes), bytes ∷ [], refl, append-nil bytes, refl)) });
}

-- ---- values that are built of others

module _ {T : Type 0} (emission : T → Emission) (t : T → Tree) where
  items_tell : (xs : List T) → AllByRecursion (λ x. Tells (emission x) (t x)) xs → TellsParts (parts_emission (λ x. part_emission Slot.Item (emission x)) xs) (item_parts t xs)
  unfolding parts_emission
  items_tell [] all = no_part_tells
  items_tell (x ∷ xs) all = part_tells Slot.Item (emission x) (parts_emission (λ x. part_emission Slot.Item (emission x)) xs) (t x) (item_parts t xs) all.0 (items_tell xs all.1)

  pub items_in_order : (xs : List T) → AreInOrder tree.Item (item_parts t xs)
  items_in_order [] = tt
  items_in_order (x ∷ xs) = (refl, items_in_order xs)

  pub items_count : (xs : List T) → entries (item_parts t xs) ≡ length xs
  items_count [] = refl
  items_count (x ∷ xs) = let more = items_count xs in omega arith

  pub seq_tells : (xs : List T) → AllByRecursion (λ x. Tells (emission x) (t x)) xs → Tells (seq_emission emission xs) (seq_tree t xs)
  seq_tells xs all = container_tells Head.Seq (length xs) (parts_emission (λ x. part_emission Slot.Item (emission x)) xs) (item_parts t xs) (items_tell xs all) (items_in_order xs) (items_count xs)

  pub array_tells : (xs : List T) → AllByRecursion (λ x. Tells (emission x) (t x)) xs → Tells (array_emission emission xs) (array_tree t xs)
  array_tells xs all = tagged_tells (tag_alone constant_size_tag) (seq_emission emission xs) (seq_tree t xs) tt (seq_tells xs all)

  pub option_tells : (o : Option T) → ((x : T) → o ≡ Some x → Tells (emission x) (t x)) → Tells (option_emission emission o) (option_tree t o)
  unfolding emits
  option_tells None each = record { willing = refl; spells = (refl, refl) }
  option_tells (Some x) each = tagged_tells some_name (emission x) (t x) tt (each x refl)

  -- the same where each value of the type is whole
  pub all_tell : ((x : T) → Tells (emission x) (t x)) → (xs : List T) → AllByRecursion (λ x. Tells (emission x) (t x)) xs
  all_tell each [] = tt
  all_tell each (x ∷ xs) = (each x, all_tell each xs)

module _ {K V : Type 0} (key : K → Emission) (value : V → Emission) (k : K → Tree) (v : V → Tree) where
  abbrev entry : K × V → Emission
  entry e = entry_emission (key e.0) (value e.1)

  entries_tell : (all : List (K × V)) → AllByRecursion (λ e. Tells (key e.0) (k e.0) × Tells (value e.1) (v e.1)) all → TellsEntries tree.Key (parts_emission entry all) (entry_parts k v all) (length all)
  unfolding parts_emission
  entries_tell [] each = record { tells = no_part_tells; in_order = tt; counted = refl }
  entries_tell (e ∷ all) each =
      let rest = parts_emission entry all in
      let more = entries_tell all each.1 in
      record {
        tells = subst (λ x. TellsParts x (entry_parts k v (e ∷ all))) (sym (associate (part_emission Slot.Key (key e.0)) (part_emission Slot.Value (value e.1)) rest))
            (part_tells Slot.Key (key e.0) (then_emits (part_emission Slot.Value (value e.1)) rest) (k e.0) (part Slot.Value (v e.1) (entry_parts k v all)) each.0.0
            (part_tells Slot.Value (value e.1) rest (v e.1) (entry_parts k v all) each.0.1 more.tells));
        in_order = (refl, (refl, more.in_order));
        counted = omega (arith, more.counted);
      }

  pub map_tells : (all : List (K × V)) → AllByRecursion (λ e. Tells (key e.0) (k e.0) × Tells (value e.1) (v e.1)) all → Tells (map_emission key value all) (map_tree k v all)
  map_tells all each = entries_tell_container Head.Map (entries_tell all each)

places_tell : (i : ℕ) (es : List Emission) (ts : List Tree) → TellEach es ts → TellsEntries tree.Place (places_emission i es) (place_parts i ts) (length es)
places_tell i [] [] each = record { tells = no_part_tells; in_order = tt; counted = refl }
places_tell i [] (t ∷ ts) each = absurd each
places_tell i (e ∷ es) [] each = absurd each
places_tell i (e ∷ es) (t ∷ ts) each =
    let more = places_tell (i + 1) es ts each.1 in
    record {
      tells = part_tells (Slot.Place None (offset i)) e (places_emission (i + 1) es) t (place_parts (i + 1) ts) each.0 more.tells;
      in_order = (refl, more.in_order);
      counted = omega (arith, more.counted);
    }

-- a tuple of any name
pub places_container_tells : (name : Name) (es : List Emission) (ts : List Tree) → TellEach es ts
    → Tells (container_emission (Head.Tuple name) (length es) (places_emission 0 es)) (Container (plain_head (Head.Tuple name)) (place_parts 0 ts))
places_container_tells name es ts each = entries_tell_container (Head.Tuple name) (places_tell 0 es ts each)

pub tuple_tells : (es : List Emission) (ts : List Tree) → TellEach es ts → Tells (tuple_emission es) (tuple_tree ts)
tuple_tells es ts each = places_container_tells no_name es ts each
