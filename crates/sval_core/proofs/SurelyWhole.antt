-- Where the parts of a value are whole values, the value is one.
use Rattle.std.specs.Prelude.{◌≡◌, ℕ, ◌+◌, ◌<◌, ℤ, Bool, length, take, get_or, map, List, [], ◌∷◌, ◌++◌, Some, None, refl}
use Rattle.std.specs.List.{AllByRecursion}
use Rattle.std.proofs.Common.{arith, ap, ◌∙◌, sym, subst}
use Rattle.std.proofs.ByRecursion.{All-push}
use Rattle.std.proofs.lemmas.List.{take_more, map-append}
use Rattle.sval_label.specs.Calls.{Head, Slot, Name, IntType}
use Rattle.sval_core.specs.Trees as tree
use Rattle.sval_core.specs.Trees.{Tree, Parts, none, part, text_kind, MayHold, Ordinary}
use Rattle.sval_core.specs.Law.{Emission, then_emits}
use Rattle.sval_core.specs.Names.{tag_alone, constant_size_tag, some_name, none_name}
use Rattle.sval_core.specs.Values.{part_emission, entry_emission, tagged_emission, tag_emission, parts_emission, null_emission, truth_emission, int_emission, one_text_emission, binary_emission, binary_array_emission, seq_emission, array_emission, map_emission, option_emission, tuple_emission}
use Rattle.sval_core.specs.ValueTrees.{Tells, TellsParts}
use Rattle.sval_core.specs.ValueLaws.{TellEach}
use Rattle.sval_core.specs.OneValue.{IsOneValue, EachIsOneValue, EachEntryIsWhole}
use Rattle.sval_core.proofs.Joining.{associate}
use Rattle.sval_core.proofs.ToldTrees.{TellsEntries, entries_tell_container, tagged_tells, enums_tell, no_part_tells, part_tells, plain_values_tell, tuple_tells}

-- what tells a tree is one whole value, and the other way round
pub whole_from_told : {e : Emission} {t : Tree} → Tells e t → IsOneValue e
whole_from_told {t = t} tells = record { willing = tells.willing; spells = (t, tells.spells) }

pub told_from_whole : {e : Emission} (one : IsOneValue e) → Tells e one.spells.0
told_from_whole one = record { willing = one.willing; spells = one.spells.1 }

-- ---- values that are built of no others

pub null_is_whole : IsOneValue null_emission
null_is_whole = whole_from_told plain_values_tell.null

pub truth_is_whole : (b : Bool) → IsOneValue (truth_emission b)
truth_is_whole b = whole_from_told (plain_values_tell.truth b)

pub int_is_whole : (type : IntType) (n : ℤ) → IsOneValue (int_emission type n)
int_is_whole type n = whole_from_told (plain_values_tell.int type n)

pub tag_is_whole : (name : Name) → IsOneValue (tag_emission name)
tag_is_whole name = whole_from_told (enums_tell.tag name)

pub text_is_whole : (borrowed : Bool) (text : List ℕ) → IsOneValue (one_text_emission borrowed text)
text_is_whole borrowed text = whole_from_told (plain_values_tell.text borrowed text)

pub binary_is_whole : (bytes : List ℕ) → IsOneValue (binary_emission bytes)
binary_is_whole bytes = whole_from_told (plain_values_tell.binary bytes)

pub binary_array_is_whole : (bytes : List ℕ) → IsOneValue (binary_array_emission bytes)
binary_array_is_whole bytes = whole_from_told (plain_values_tell.binary_array bytes)

-- for functions that say so of such values
pub ruleset of_plain_wholes = (null_is_whole, truth_is_whole, int_is_whole, tag_is_whole, text_is_whole, binary_is_whole, binary_array_is_whole)

-- ---- values that are built of others

-- under a tag that leaves a text as it is
pub tagged_is_whole : (name : Name) (e : Emission) → text_kind name.tag ≡ Ordinary → IsOneValue e → IsOneValue (tagged_emission name e)
tagged_is_whole name e ordinary one =
    let may : MayHold (text_kind name.tag) one.spells.0 = subst (λ k. MayHold k one.spells.0) (sym ordinary) tt in
    whole_from_told (tagged_tells name e one.spells.0 may (told_from_whole one))

module _ {T : Type 0} (emission : T → Emission) where
  items_are_parts : (xs : List T) → EachIsOneValue emission xs
      → (parts : Parts) × TellsEntries tree.Item (parts_emission (λ x. part_emission Slot.Item (emission x)) xs) parts (length xs)
  unfolding parts_emission
  items_are_parts [] all = (none, record { tells = no_part_tells; in_order = tt; counted = refl })
  items_are_parts (x ∷ xs) all =
      let more = items_are_parts xs all.1 in (
        part Slot.Item all.0.spells.0 more.0,
        record {
          tells = part_tells Slot.Item (emission x) (parts_emission (λ x. part_emission Slot.Item (emission x)) xs) all.0.spells.0 more.0 (told_from_whole all.0) more.1.tells;
          in_order = (refl, more.1.in_order);
          counted = omega (arith, more.1.counted);
        },
      )

  pub seq_is_whole : (xs : List T) → EachIsOneValue emission xs → IsOneValue (seq_emission emission xs)
  seq_is_whole xs all = whole_from_told (entries_tell_container Head.Seq (items_are_parts xs all).1)

  pub array_is_whole : (xs : List T) → EachIsOneValue emission xs → IsOneValue (array_emission emission xs)
  array_is_whole xs all = tagged_is_whole (tag_alone constant_size_tag) (seq_emission emission xs) refl (seq_is_whole xs all)

  pub none_is_whole : IsOneValue (option_emission emission None)
  none_is_whole = tag_is_whole none_name

  pub some_is_whole : (x : T) → IsOneValue (emission x) → IsOneValue (option_emission emission (Some x))
  some_is_whole x one = tagged_is_whole some_name (emission x) refl one

  -- one item more of a slice
  pub one_more_whole : (xs : List T) (i : ℕ) (x : T) → i < length xs → x ≡ get_or xs i x → EachIsOneValue emission (take i xs) → IsOneValue (emission x)
      → EachIsOneValue emission (take (i + 1) xs)
  one_more_whole xs i x h is all one =
      subst (EachIsOneValue emission) (ap (λ y. take i xs ++ y ∷ []) is ∙ sym (take_more xs i x h)) (All-push (λ x. IsOneValue (emission x)) (take i xs) x all one)

module _ {K V : Type 0} (key : K → Emission) (value : V → Emission) where
  abbrev entry : K × V → Emission
  entry e = entry_emission (key e.0) (value e.1)

  entries_are_parts : (all : List (K × V)) → EachEntryIsWhole key value all
      → (parts : Parts) × TellsEntries tree.Key (parts_emission entry all) parts (length all)
  unfolding parts_emission
  entries_are_parts [] each = (none, record { tells = no_part_tells; in_order = tt; counted = refl })
  entries_are_parts (e ∷ all) each =
      let more = entries_are_parts all each.1 in
      let rest = parts_emission entry all in
      let held = part Slot.Value each.0.1.spells.0 more.0 in (
        part Slot.Key each.0.0.spells.0 held,
        record {
          tells = subst (λ x. TellsParts x (part Slot.Key each.0.0.spells.0 held)) (sym (associate (part_emission Slot.Key (key e.0)) (part_emission Slot.Value (value e.1)) rest))
              (part_tells Slot.Key (key e.0) (then_emits (part_emission Slot.Value (value e.1)) rest) each.0.0.spells.0 held (told_from_whole each.0.0)
              (part_tells Slot.Value (value e.1) rest each.0.1.spells.0 more.0 (told_from_whole each.0.1) more.1.tells));
          in_order = (refl, (refl, more.1.in_order));
          counted = omega (arith, more.1.counted);
        },
      )

  -- one entry more of those that an iterator gives
  pub one_more_entry : {A : Type 0} (shows : A → K × V) (xs : List A) (x : A) → EachEntryIsWhole key value (map shows xs)
      → IsOneValue (key (shows x).0) × IsOneValue (value (shows x).1) → EachEntryIsWhole key value (map shows (xs ++ x ∷ []))
  one_more_entry shows xs x each one =
      subst (EachEntryIsWhole key value) (sym (map-append shows xs (x ∷ []))) (All-push (λ e. IsOneValue (key e.0) × IsOneValue (value e.1)) (map shows xs) (shows x) each one)

  pub map_is_whole : (all : List (K × V)) → EachEntryIsWhole key value all → IsOneValue (map_emission key value all)
  map_is_whole all each = whole_from_told (entries_tell_container Head.Map (entries_are_parts all each).1)

-- ---- tuples

pub trees_of_wholes : (es : List Emission) → AllByRecursion IsOneValue es → (ts : List Tree) × TellEach es ts
trees_of_wholes [] all = ([], tt)
trees_of_wholes (e ∷ es) all =
    let more = trees_of_wholes es all.1 in
    (all.0.spells.0 ∷ more.0, (told_from_whole all.0, more.1))

pub tuple_is_whole : (es : List Emission) → AllByRecursion IsOneValue es → IsOneValue (tuple_emission es)
tuple_is_whole es all =
    let trees = trees_of_wholes es all in
    whole_from_told (tuple_tells es trees.0 trees.1)
