-- What some values emit, and trees of them, as they compute.
use Rattle.std.specs.Prelude.{◌≡◌, ℕ, pos, true, false, [], ◌∷◌, codes, Some, None, refl}
use lib.Utf8.{encode}
use Rattle.sval_label.specs.Calls.{IntType, Head, Slot, Name, Call}
use Rattle.sval_core.specs.Trees as tree
use Rattle.sval_core.specs.Trees.{Tree, Parts, none, part}
use Rattle.sval_core.specs.Law.{Emission, silent, emits, then_emits}
use Rattle.sval_core.specs.Names.{constant_size_tag, tag_alone, no_name, offset}
use Rattle.sval_core.specs.Values.{makes, parts_emission, null_emission, truth_emission, int_emission, str_emission, char_emission, binary_array_emission, seq_emission, array_emission, map_emission, option_emission, tuple_emission}
use Rattle.sval_core.specs.ValueTrees.{Tells}
use Rattle.sval_core.proofs.ToldTrees.{plain_values_tell, all_tell, seq_tells, option_tells}

abbrev byte : ℕ → Emission
byte n = int_emission IntType.U8 (pos n)

-- an option of 42
abbrev some_calls : Name
some_calls = record {
  tag = Some (codes "RUST_OPTION_SOME");
  label = Some (record { text = codes "Some"; tag = Some (codes "VALUE_IDENT"); is_static = true });
  index = Some (record { number = pos 1; tag = Some (codes "VALUE_OFFSET") });
}

some_number : option_emission (int_emission IntType.I32) (Some (pos 42)) ≡ makes (Call.TaggedBegin some_calls ∷ Call.Int IntType.I32 (pos 42) ∷ Call.TaggedEnd some_calls ∷ [])
unfolding then_emits emits
some_number = refl

no_number : option_emission (int_emission IntType.I32) None ≡ makes (Call.Standalone (record {
  tag = Some (codes "RUST_OPTION_NONE");
  label = Some (record { text = codes "None"; tag = Some (codes "VALUE_IDENT"); is_static = true });
  index = Some (record { number = pos 0; tag = Some (codes "VALUE_OFFSET") });
}) ∷ [])
unfolding emits
no_number = refl

texts :
    (str_emission (codes "ab") ≡ makes (Call.TextBegin (Some 2) ∷ Call.TextFragment true (codes "ab") ∷ Call.TextEnd ∷ []))
    × (char_emission 233 ≡ makes (Call.TextBegin (Some 2) ∷ Call.TextFragment false (195 ∷ 169 ∷ []) ∷ Call.TextEnd ∷ []))
unfolding then_emits emits encode
texts = (refl, refl)

bytes : seq_emission byte (7 ∷ 8 ∷ [])
    ≡ makes (Call.Begin Head.Seq (Some 2) ∷ Call.PartBegin Slot.Item ∷ Call.Int IntType.U8 (pos 7) ∷ Call.PartEnd Slot.Item
    ∷ Call.PartBegin Slot.Item ∷ Call.Int IntType.U8 (pos 8) ∷ Call.PartEnd Slot.Item ∷ Call.End Head.Seq ∷ [])
unfolding then_emits emits silent parts_emission
bytes = refl

arrays :
    (array_emission byte (7 ∷ []) ≡ makes (Call.TaggedBegin (tag_alone constant_size_tag) ∷ Call.Begin Head.Seq (Some 1) ∷ Call.PartBegin Slot.Item
    ∷ Call.Int IntType.U8 (pos 7) ∷ Call.PartEnd Slot.Item ∷ Call.End Head.Seq ∷ Call.TaggedEnd (tag_alone constant_size_tag) ∷ []))
    × (binary_array_emission (7 ∷ []) ≡ makes (Call.TaggedBegin (tag_alone constant_size_tag) ∷ Call.BinaryBegin (Some 1) ∷ Call.BinaryFragment true (7 ∷ [])
    ∷ Call.BinaryEnd ∷ Call.TaggedEnd (tag_alone constant_size_tag) ∷ []))
unfolding then_emits emits silent parts_emission
arrays = (refl, refl)

one_entry : map_emission byte truth_emission ((7, true) ∷ [])
    ≡ makes (Call.Begin Head.Map (Some 1) ∷ Call.PartBegin Slot.Key ∷ Call.Int IntType.U8 (pos 7) ∷ Call.PartEnd Slot.Key
    ∷ Call.PartBegin Slot.Value ∷ Call.Truth true ∷ Call.PartEnd Slot.Value ∷ Call.End Head.Map ∷ [])
unfolding then_emits emits silent parts_emission
one_entry = refl

two_places : tuple_emission (truth_emission true ∷ null_emission ∷ [])
    ≡ makes (Call.Begin (Head.Tuple no_name) (Some 2)
    ∷ Call.PartBegin (Slot.Place None (offset 0)) ∷ Call.Truth true ∷ Call.PartEnd (Slot.Place None (offset 0))
    ∷ Call.PartBegin (Slot.Place None (offset 1)) ∷ Call.Null ∷ Call.PartEnd (Slot.Place None (offset 1))
    ∷ Call.End (Head.Tuple no_name) ∷ [])
unfolding then_emits emits silent
two_places = refl

-- the calls end where those of the part that refuses end
refusing_part : seq_emission (λ e. e) (null_emission ∷ record { calls = Call.Truth true ∷ []; refuses = true } ∷ null_emission ∷ [])
    ≡ record {
      calls = Call.Begin Head.Seq (Some 3) ∷ Call.PartBegin Slot.Item ∷ Call.Null ∷ Call.PartEnd Slot.Item ∷ Call.PartBegin Slot.Item ∷ Call.Truth true ∷ [];
      refuses = true;
    }
unfolding then_emits emits silent parts_emission
refusing_part = refl

-- an option of bytes tells its tree, by the laws alone
bytes_in_option : Tells (option_emission (seq_emission byte) (Some (7 ∷ 8 ∷ [])))
    (tree.Tagged (record { tag = Some (codes "RUST_OPTION_SOME"); label = Some (record { text = codes "Some"; tag = Some (codes "VALUE_IDENT"); is_static = false }); index = Some (offset 1) })
    (tree.Container Head.Seq (part Slot.Item (tree.Int IntType.U8 (pos 7)) (part Slot.Item (tree.Int IntType.U8 (pos 8)) none))))
bytes_in_option =
    option_tells (seq_emission byte) _ (Some (7 ∷ 8 ∷ []))
    (λ x e. seq_tells byte (λ n. tree.Int IntType.U8 (pos n)) x (all_tell byte (λ n. tree.Int IntType.U8 (pos n)) (λ n. plain_values_tell.int IntType.U8 (pos n)) x))
