-- Some lists of calls, the trees that they spell, and what is written of them.
use Rattle.std.specs.Prelude.{◌≡◌, true, false, pos, negsuc, List, [], ◌∷◌, codes, Some, None, refl}
use Rattle.std.specs.Fmt.{digits}
use Rattle.sval_label.specs.Calls.{Call, Head, Slot, IntType}
use Rattle.sval_core.specs.Trees.{Tree, Truth, Int, Text, Binary, Tagged, EmptyEnum, Enum, Container, none, part, calls_of}
use Rattle.sval_json.specs.declared.style.Variants.TheVariants.{Inside}
use Rattle.sval_json.specs.Number.{InvalidKey}
use Rattle.sval_json.proofs.examples.Spelled.{ExampleText, ExampleRefusal, label, index, name, unnamed, named, numbered, field, field_place, tagged_calls, tagged_tree, key_calls, key_tree, truth_in_enum_calls, truth_in_enum_tree}

abbrev pub record_tuple_calls : List Call
record_tuple_calls =
    Call.Begin (Head.RecordTuple (name None (Some (label (codes "MyRecord") (Some (codes "VALUE_IDENT")))) None)) (Some 3)
    ∷ Call.PartBegin (field_place (codes "field_0") (pos 0))
    ∷ Call.Int IntType.I32 (pos 1)
    ∷ Call.PartEnd (field_place (codes "field_0") (pos 0))
    ∷ Call.PartBegin (field_place (codes "field_1") (pos 1))
    ∷ Call.Truth true
    ∷ Call.PartEnd (field_place (codes "field_1") (pos 1))
    ∷ Call.PartBegin (field_place (codes "field_2") (pos 2))
    ∷ Call.TextBegin (Some 9)
    ∷ Call.TextFragment true (codes "some text")
    ∷ Call.TextEnd
    ∷ Call.PartEnd (field_place (codes "field_2") (pos 2))
    ∷ Call.End (Head.RecordTuple (name None (Some (label (codes "MyRecord") (Some (codes "VALUE_IDENT")))) None))
    ∷ []

abbrev pub record_tuple_tree : Tree
record_tuple_tree = Container (Head.RecordTuple (name None (Some (label (codes "MyRecord") (Some (codes "VALUE_IDENT")))) None)) (part (field_place (codes "field_0") (pos 0)) (Int IntType.I32 (pos 1)) (part (field_place (codes "field_1") (pos 1)) (Truth true) (part (field_place (codes "field_2") (pos 2)) (Text (codes "some text")) none)))

pub record_tuple : ExampleText Inside record_tuple_calls record_tuple_tree (codes "{\"field_0\":1,\"field_1\":true,\"field_2\":\"some text\"}")
unfolding digits
record_tuple = record { spells = ((refl, (refl, (refl, (refl, tt))), (refl, tt, (refl, tt, (refl, tt, tt)))), ((Some 3), _, refl, refl, (_, _, refl, refl, (_, _, refl, refl, (_, _, refl, ((Some 9), (codes "some text") ∷ [], refl, refl, refl), refl))))); json = refl; written = refl; refusal = refl }

-- the entries of a map, and its end
abbrev integer_keys_entries : List Call
integer_keys_entries =
    Call.PartBegin Slot.Key
    ∷ Call.Int IntType.I32 (pos 0)
    ∷ Call.PartEnd Slot.Key
    ∷ Call.PartBegin Slot.Value
    ∷ Call.Truth false
    ∷ Call.PartEnd Slot.Value
    ∷ Call.PartBegin Slot.Key
    ∷ Call.Int IntType.I32 (pos 1)
    ∷ Call.PartEnd Slot.Key
    ∷ Call.PartBegin Slot.Value
    ∷ Call.Truth true
    ∷ Call.PartEnd Slot.Value
    ∷ Call.End Head.Map
    ∷ []

abbrev integer_keys_tree : Tree
integer_keys_tree = Container Head.Map (part Slot.Key (Int IntType.I32 (pos 0)) (part Slot.Value (Truth false) (part Slot.Key (Int IntType.I32 (pos 1)) (part Slot.Value (Truth true) none))))

integer_keys : ExampleText Inside (Call.Begin Head.Map (Some 2) ∷ integer_keys_entries) integer_keys_tree (codes "{\"0\":false,\"1\":true}")
unfolding digits
integer_keys = record { spells = ((refl, (refl, (refl, (refl, (refl, tt)))), (refl, tt, (refl, tt, (refl, tt, (refl, tt, tt))))), ((Some 2), _, refl, refl, (_, _, refl, refl, (_, _, refl, refl, (_, _, refl, refl, (_, _, refl, refl, refl)))))); json = refl; written = refl; refusal = refl }

abbrev pub record_in_enum_calls : List Call
record_in_enum_calls =
    Call.EnumBegin (named (codes "E"))
    ∷ Call.Begin (Head.Record (named (codes "V"))) (Some 1)
    ∷ Call.PartBegin (field (codes "a"))
    ∷ Call.Int IntType.I32 (pos 1)
    ∷ Call.PartEnd (field (codes "a"))
    ∷ Call.End (Head.Record (named (codes "V")))
    ∷ Call.EnumEnd (named (codes "E"))
    ∷ []

abbrev pub record_in_enum_tree : Tree
record_in_enum_tree = Enum (named (codes "E")) (Container (Head.Record (named (codes "V"))) (part (field (codes "a")) (Int IntType.I32 (pos 1)) none))

pub record_in_enum : ExampleText Inside record_in_enum_calls record_in_enum_tree (codes "{\"V\":{\"a\":1}}")
unfolding digits
record_in_enum = record { spells = ((refl, tt, (refl, (refl, tt), (refl, tt, tt))), (_, refl, ((Some 1), _, refl, refl, (_, _, refl, refl, refl)))); json = refl; written = refl; refusal = refl }

abbrev pub record_alone_calls : List Call
record_alone_calls =
    Call.Begin (Head.Record (named (codes "V"))) (Some 1)
    ∷ Call.PartBegin (field (codes "a"))
    ∷ Call.Int IntType.I32 (pos 1)
    ∷ Call.PartEnd (field (codes "a"))
    ∷ Call.End (Head.Record (named (codes "V")))
    ∷ []

abbrev pub record_alone_tree : Tree
record_alone_tree = Container (Head.Record (named (codes "V"))) (part (field (codes "a")) (Int IntType.I32 (pos 1)) none)

pub record_alone : ExampleText Inside record_alone_calls record_alone_tree (codes "{\"a\":1}")
unfolding digits
record_alone = record { spells = ((refl, (refl, tt), (refl, tt, tt)), ((Some 1), _, refl, refl, (_, _, refl, refl, refl))); json = refl; written = refl; refusal = refl }

abbrev pub empty_enum_calls : List Call
empty_enum_calls =
    Call.EnumBegin (named (codes "L"))
    ∷ Call.EnumEnd (named (codes "L"))
    ∷ []

abbrev pub empty_enum_tree : Tree
empty_enum_tree = EmptyEnum (named (codes "L"))

pub empty_enum : ExampleText Inside empty_enum_calls empty_enum_tree (codes "\"L\"")
unfolding digits
empty_enum = record { spells = (refl, refl); json = refl; written = refl; refusal = refl }

abbrev pub empty_enum_in_enum_calls : List Call
empty_enum_in_enum_calls =
    Call.EnumBegin (named (codes "E1"))
    ∷ Call.EnumBegin (named (codes "E2"))
    ∷ Call.EnumEnd (named (codes "E2"))
    ∷ Call.EnumEnd (named (codes "E1"))
    ∷ []

abbrev pub empty_enum_in_enum_tree : Tree
empty_enum_in_enum_tree = Enum (named (codes "E1")) (EmptyEnum (named (codes "E2")))

pub empty_enum_in_enum : ExampleText Inside empty_enum_in_enum_calls empty_enum_in_enum_tree (codes "{\"E2\":\"E2\"}")
unfolding digits
empty_enum_in_enum = record { spells = ((refl, tt, refl), (_, refl, refl)); json = refl; written = refl; refusal = refl }

abbrev pub unnamed_enum_in_enum_calls : List Call
unnamed_enum_in_enum_calls =
    Call.EnumBegin (named (codes "E"))
    ∷ Call.EnumBegin unnamed
    ∷ Call.TaggedBegin (named (codes "V"))
    ∷ Call.Int IntType.I32 (pos 1)
    ∷ Call.TaggedEnd (named (codes "V"))
    ∷ Call.EnumEnd unnamed
    ∷ Call.EnumEnd (named (codes "E"))
    ∷ []

abbrev pub unnamed_enum_in_enum_tree : Tree
unnamed_enum_in_enum_tree = Enum (named (codes "E")) (Enum unnamed (Tagged (named (codes "V")) (Int IntType.I32 (pos 1))))

pub unnamed_enum_in_enum : ExampleText Inside unnamed_enum_in_enum_calls unnamed_enum_in_enum_tree (codes "{\"V\":1}")
unfolding digits
unnamed_enum_in_enum = record { spells = ((refl, tt, (refl, tt, (refl, tt, tt))), (_, refl, (_, refl, (_, refl, refl)))); json = refl; written = refl; refusal = refl }

abbrev option_key_calls : List Call
option_key_calls =
    Call.Begin Head.Map (Some 1)
    ∷ Call.PartBegin Slot.Key
    ∷ Call.TaggedBegin (name (Some (codes "RUST_OPTION_SOME")) (Some (label (codes "Some") (Some (codes "VALUE_IDENT")))) (Some (index (pos 1) (Some (codes "VALUE_OFFSET")))))
    ∷ Call.TextBegin (Some 1)
    ∷ Call.TextFragment true (codes "k")
    ∷ Call.TextEnd
    ∷ Call.TaggedEnd (name (Some (codes "RUST_OPTION_SOME")) (Some (label (codes "Some") None)) (Some (index (pos 1) None)))
    ∷ Call.PartEnd Slot.Key
    ∷ Call.PartBegin Slot.Value
    ∷ Call.Begin (Head.Record (named (codes "R"))) None
    ∷ Call.PartBegin (field (codes "a"))
    ∷ Call.Int IntType.I32 (pos 1)
    ∷ Call.PartEnd (field (codes "a"))
    ∷ Call.End (Head.Record (named (codes "R")))
    ∷ Call.PartEnd Slot.Value
    ∷ Call.End Head.Map
    ∷ []

abbrev option_key_tree : Tree
option_key_tree = Container Head.Map (part Slot.Key (Tagged (name (Some (codes "RUST_OPTION_SOME")) (Some (label (codes "Some") (Some (codes "VALUE_IDENT")))) (Some (index (pos 1) (Some (codes "VALUE_OFFSET"))))) (Text (codes "k"))) (part Slot.Value (Container (Head.Record (named (codes "R"))) (part (field (codes "a")) (Int IntType.I32 (pos 1)) none)) none))

option_key : ExampleText Inside option_key_calls option_key_tree (codes "{\"k\":{\"a\":1}}")
unfolding digits
option_key = record { spells = ((refl, (refl, (refl, tt)), (refl, (refl, tt, tt), (refl, (refl, (refl, tt), (refl, tt, tt)), tt))), ((Some 1), _, refl, refl, (_, _, refl, (_, refl, ((Some 1), (codes "k") ∷ [], refl, refl, refl)), (_, _, refl, (None, _, tt, refl, (_, _, refl, refl, refl)), refl)))); json = refl; written = refl; refusal = refl }

abbrev escapes_in_pieces_calls : List Call
escapes_in_pieces_calls =
    Call.TextBegin (Some 8)
    ∷ Call.TextFragment true (34 ∷ 92 ∷ 0 ∷ [])
    ∷ Call.TextFragment true []
    ∷ Call.TextFragment true (10 ∷ 31 ∷ 127 ∷ 195 ∷ 169 ∷ [])
    ∷ Call.TextEnd
    ∷ []

abbrev escapes_in_pieces_tree : Tree
escapes_in_pieces_tree = Text (34 ∷ 92 ∷ 0 ∷ 10 ∷ 31 ∷ 127 ∷ 195 ∷ 169 ∷ [])

escapes_in_pieces : ExampleText Inside escapes_in_pieces_calls escapes_in_pieces_tree (34 ∷ 92 ∷ 34 ∷ 92 ∷ 92 ∷ 92 ∷ 117 ∷ 48 ∷ 48 ∷ 48 ∷ 48 ∷ 92 ∷ 110 ∷ 92 ∷ 117 ∷ 48 ∷ 48 ∷ 49 ∷ 102 ∷ 127 ∷ 195 ∷ 169 ∷ 34 ∷ [])
unfolding digits
escapes_in_pieces = record { spells = (tt, ((Some 8), (34 ∷ 92 ∷ 0 ∷ []) ∷ [] ∷ (10 ∷ 31 ∷ 127 ∷ 195 ∷ 169 ∷ []) ∷ [], refl, refl, refl)); json = refl; written = refl; refusal = refl }

abbrev widest_integers_calls : List Call
widest_integers_calls =
    Call.Begin Head.Seq (Some 2)
    ∷ Call.PartBegin Slot.Item
    ∷ Call.Int IntType.U128 (pos 340282366920938463463374607431768211455)
    ∷ Call.PartEnd Slot.Item
    ∷ Call.PartBegin Slot.Item
    ∷ Call.Int IntType.I128 (negsuc 170141183460469231731687303715884105727)
    ∷ Call.PartEnd Slot.Item
    ∷ Call.End Head.Seq
    ∷ []

abbrev widest_integers_tree : Tree
widest_integers_tree = Container Head.Seq (part Slot.Item (Int IntType.U128 (pos 340282366920938463463374607431768211455)) (part Slot.Item (Int IntType.I128 (negsuc 170141183460469231731687303715884105727)) none))

widest_integers : ExampleText Inside widest_integers_calls widest_integers_tree (codes "[340282366920938463463374607431768211455,-170141183460469231731687303715884105728]")
unfolding digits
widest_integers = record { spells = ((refl, (refl, (refl, tt)), (refl, tt, (refl, tt, tt))), ((Some 2), _, refl, refl, (_, _, refl, refl, (_, _, refl, refl, refl)))); json = refl; written = refl; refusal = refl }

abbrev binary_as_array_calls : List Call
binary_as_array_calls =
    Call.BinaryBegin (Some 2)
    ∷ Call.BinaryFragment true (0 ∷ 255 ∷ [])
    ∷ Call.BinaryEnd
    ∷ []

abbrev binary_as_array_tree : Tree
binary_as_array_tree = Binary (0 ∷ 255 ∷ [])

binary_as_array : ExampleText Inside binary_as_array_calls binary_as_array_tree (codes "[0,255]")
unfolding digits
binary_as_array = record { spells = (tt, ((Some 2), (0 ∷ 255 ∷ []) ∷ [], refl, refl, refl)); json = refl; written = refl; refusal = refl }

abbrev hint_between_fragments_calls : List Call
hint_between_fragments_calls =
    Call.TextBegin (Some 2)
    ∷ Call.TextFragment true (codes "a")
    ∷ Call.TagHint (codes "NUMBER")
    ∷ Call.TextFragment true (codes "b")
    ∷ Call.TextEnd
    ∷ []

abbrev hint_between_fragments_tree : Tree
hint_between_fragments_tree = Text (codes "ab")

hint_between_fragments : ExampleText Inside hint_between_fragments_calls hint_between_fragments_tree (codes "\"ab\"")
unfolding digits
hint_between_fragments = record { spells = (tt, ((Some 2), (codes "a") ∷ (codes "b") ∷ [], refl, refl, refl)); json = refl; written = refl; refusal = refl }

raw_value : ExampleText Inside (tagged_calls (codes "JSON_VALUE") (codes "[1, 2]" ∷ [])) (tagged_tree (codes "JSON_VALUE") (codes "[1, 2]")) (codes "[1, 2]")
unfolding digits
raw_value = record { spells = ((refl, tt, tt), (_, refl, (None, codes "[1, 2]" ∷ [], tt, refl, refl))); json = refl; written = refl; refusal = refl }

-- ---- an index as a name

pub index_as_handle : ExampleText Inside (truth_in_enum_calls (numbered (pos 7))) (truth_in_enum_tree (numbered (pos 7))) (codes "{\"7\":true}")
unfolding digits
index_as_handle = record { spells = ((refl, tt, (refl, tt, tt)), (_, refl, (_, refl, refl))); json = refl; written = refl; refusal = refl }

pub index_past_64_bits : ExampleText Inside (truth_in_enum_calls (numbered (pos 9223372036854775808))) (truth_in_enum_tree (numbered (pos 9223372036854775808))) (codes "true")
unfolding digits
index_past_64_bits = record { spells = ((refl, tt, (refl, tt, tt)), (_, refl, (_, refl, refl))); json = refl; written = refl; refusal = refl }

-- ---- what is no key

pub sequence_as_key : ExampleRefusal Inside (key_calls (Call.Begin Head.Seq None ∷ Call.End Head.Seq ∷ [])) (key_tree (Container Head.Seq none)) InvalidKey (codes "{\"")
unfolding digits
sequence_as_key = record { spells = ((refl, (refl, (refl, tt)), (refl, (refl, tt, tt), (refl, tt, tt))), (None, _, tt, refl, (_, _, refl, (None, _, tt, refl, refl), (_, _, refl, refl, refl)))); json = refl; written = refl; refusal = refl }

raw_value_as_key : ExampleRefusal Inside (key_calls (tagged_calls (codes "JSON_VALUE") [])) (key_tree (tagged_tree (codes "JSON_VALUE") [])) InvalidKey (codes "{\"")
unfolding digits
raw_value_as_key = record { spells = ((refl, (refl, (refl, tt)), (refl, (refl, tt, tt), (refl, tt, tt))), (None, _, tt, refl, (_, _, refl, (_, refl, (None, [], tt, refl, refl)), (_, _, refl, refl, refl)))); json = refl; written = refl; refusal = refl }

binary_as_key : ExampleRefusal Inside (key_calls binary_as_array_calls) (key_tree binary_as_array_tree) InvalidKey (codes "{\"")
unfolding digits
binary_as_key = record { spells = ((refl, (refl, (refl, tt)), (refl, tt, (refl, tt, tt))), (None, _, tt, refl, (_, _, refl, ((Some 2), (0 ∷ 255 ∷ []) ∷ [], refl, refl, refl), (_, _, refl, refl, refl)))); json = refl; written = refl; refusal = refl }

-- ---- the one list of calls that is printed of a tree

integer_keys_canonical : calls_of integer_keys_tree ≡ Call.Begin Head.Map None ∷ integer_keys_entries
integer_keys_canonical = refl

option_key_canonical : calls_of option_key_tree ≡ Call.Begin Head.Map None
    ∷ Call.PartBegin Slot.Key
    ∷ Call.TaggedBegin (name (Some (codes "RUST_OPTION_SOME")) (Some (label (codes "Some") (Some (codes "VALUE_IDENT")))) (Some (index (pos 1) (Some (codes "VALUE_OFFSET")))))
    ∷ Call.TextBegin (Some 1)
    ∷ Call.TextFragment true (codes "k")
    ∷ Call.TextEnd
    ∷ Call.TaggedEnd (name (Some (codes "RUST_OPTION_SOME")) (Some (label (codes "Some") (Some (codes "VALUE_IDENT")))) (Some (index (pos 1) (Some (codes "VALUE_OFFSET")))))
    ∷ Call.PartEnd Slot.Key
    ∷ Call.PartBegin Slot.Value
    ∷ Call.Begin (Head.Record (named (codes "R"))) None
    ∷ Call.PartBegin (field (codes "a"))
    ∷ Call.Int IntType.I32 (pos 1)
    ∷ Call.PartEnd (field (codes "a"))
    ∷ Call.End (Head.Record (named (codes "R")))
    ∷ Call.PartEnd Slot.Value
    ∷ Call.End Head.Map
    ∷ []
option_key_canonical = refl

hint_between_fragments_canonical : calls_of hint_between_fragments_tree ≡ Call.TextBegin (Some 2)
    ∷ Call.TextFragment true (codes "ab")
    ∷ Call.TextEnd
    ∷ []
hint_between_fragments_canonical = refl
