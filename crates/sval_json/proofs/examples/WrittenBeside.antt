-- Some lists of calls, and what is written of them where variants stand beside their names.
use Rattle.std.specs.Prelude.{◌≡◌, pos, List, [], ◌∷◌, codes, Some, None, Ok, refl}
use Rattle.std.specs.Fmt.{digits}
use Rattle.sval_label.specs.Calls.{Call, Head, IntType}
use Rattle.sval_core.specs.Trees.{Tree, Int, Tagged, EmptyEnum, Enum, Container, none}
use Rattle.sval_json.specs.declared.style.Variants.TheVariants.{Inside, Beside}
use Rattle.sval_json.specs.Json as shape
use Rattle.sval_json.specs.Json.{Json, escaped_key, no_pair, pair}
use Rattle.sval_json.specs.Number.{InvalidKey}
use Rattle.sval_json.specs.Shape.{json_in}
use Rattle.sval_json.specs.Grammar.{Number, Text, Object, no_members, a_member}
use Rattle.sval_json.specs.Means.{plain_key, Means, number, escaped_text, object, no_more_pairs, one_pair}
use Rattle.sval_json.proofs.examples.Spelled.{ExampleText, ExampleRefusal, label, name, unnamed, named, numbered, key_calls, key_tree, truth_in_enum_calls, truth_in_enum_tree}
use Rattle.sval_json.proofs.examples.WrittenTrees.{record_tuple_calls, record_tuple_tree, record_tuple, record_in_enum_calls, record_in_enum_tree, record_in_enum, record_alone_calls, record_alone_tree, record_alone, empty_enum_calls, empty_enum_tree, empty_enum, empty_enum_in_enum_calls, empty_enum_in_enum_tree, empty_enum_in_enum, unnamed_enum_in_enum_calls, unnamed_enum_in_enum_tree, unnamed_enum_in_enum, sequence_as_key, index_past_64_bits, index_as_handle}

-- ---- a variant that has a name

record_in_enum_beside : ExampleText Beside record_in_enum_calls record_in_enum_tree (codes "{\"variant\":\"V\",\"value\":{\"a\":1}}")
unfolding digits
record_in_enum_beside = record { spells = record_in_enum.spells; json = refl; written = refl; refusal = refl }

empty_enum_in_enum_beside : ExampleText Beside empty_enum_in_enum_calls empty_enum_in_enum_tree (codes "{\"variant\":\"E2\",\"value\":\"E2\"}")
unfolding digits
empty_enum_in_enum_beside = record { spells = empty_enum_in_enum.spells; json = refl; written = refl; refusal = refl }

index_as_handle_beside : ExampleText Beside (truth_in_enum_calls (numbered (pos 7))) (truth_in_enum_tree (numbered (pos 7))) (codes "{\"variant\":\"7\",\"value\":true}")
unfolding digits
index_as_handle_beside = record { spells = index_as_handle.spells; json = refl; written = refl; refusal = refl }

-- an enum without a name is passed over, as ever
unnamed_enum_in_enum_beside : ExampleText Beside unnamed_enum_in_enum_calls unnamed_enum_in_enum_tree (codes "{\"variant\":\"V\",\"value\":1}")
unfolding digits
unnamed_enum_in_enum_beside = record { spells = unnamed_enum_in_enum.spells; json = refl; written = refl; refusal = refl }

abbrev enum_in_enum_calls : List Call
enum_in_enum_calls =
    Call.EnumBegin (named (codes "E"))
    ∷ Call.EnumBegin (named (codes "F"))
    ∷ Call.TaggedBegin (named (codes "V"))
    ∷ Call.Int IntType.I32 (pos 1)
    ∷ Call.TaggedEnd (named (codes "V"))
    ∷ Call.EnumEnd (named (codes "F"))
    ∷ Call.EnumEnd (named (codes "E"))
    ∷ []

abbrev enum_in_enum_tree : Tree
enum_in_enum_tree = Enum (named (codes "E")) (Enum (named (codes "F")) (Tagged (named (codes "V")) (Int IntType.I32 (pos 1))))

enum_in_enum_inside : ExampleText Inside enum_in_enum_calls enum_in_enum_tree (codes "{\"F\":{\"V\":1}}")
unfolding digits
enum_in_enum_inside = record { spells = ((refl, tt, (refl, tt, (refl, tt, tt))), (_, refl, (_, refl, (_, refl, refl)))); json = refl; written = refl; refusal = refl }

enum_in_enum_beside : ExampleText Beside enum_in_enum_calls enum_in_enum_tree (codes "{\"variant\":\"F\",\"value\":{\"variant\":\"V\",\"value\":1}}")
unfolding digits
enum_in_enum_beside = record { spells = enum_in_enum_inside.spells; json = refl; written = refl; refusal = refl }

-- the name is escaped, and what is none stands as `null` under it
abbrev none_in_enum_calls : List Call
none_in_enum_calls =
    Call.EnumBegin unnamed
    ∷ Call.EnumBegin (name (Some (codes "RUST_OPTION_NONE")) (Some (label (codes "\"") None)) None)
    ∷ Call.EnumEnd (name (Some (codes "RUST_OPTION_NONE")) (Some (label (codes "\"") None)) None)
    ∷ Call.EnumEnd unnamed
    ∷ []

abbrev none_in_enum_tree : Tree
none_in_enum_tree = Enum unnamed (EmptyEnum (name (Some (codes "RUST_OPTION_NONE")) (Some (label (codes "\"") None)) None))

none_in_enum_beside : ExampleText Beside none_in_enum_calls none_in_enum_tree (codes "{\"variant\":\"\\\"\",\"value\":null}")
unfolding digits
none_in_enum_beside = record { spells = ((refl, tt, refl), (_, refl, refl)); json = refl; written = refl; refusal = refl }

-- ---- what is no variant, or has no name, is the same in both styles

record_tuple_beside : ExampleText Beside record_tuple_calls record_tuple_tree (codes "{\"field_0\":1,\"field_1\":true,\"field_2\":\"some text\"}")
unfolding digits
record_tuple_beside = record { spells = record_tuple.spells; json = refl; written = refl; refusal = refl }

record_alone_beside : ExampleText Beside record_alone_calls record_alone_tree (codes "{\"a\":1}")
unfolding digits
record_alone_beside = record { spells = record_alone.spells; json = refl; written = refl; refusal = refl }

empty_enum_alone_beside : ExampleText Beside empty_enum_calls empty_enum_tree (codes "\"L\"")
unfolding digits
empty_enum_alone_beside = record { spells = empty_enum.spells; json = refl; written = refl; refusal = refl }

index_past_64_bits_beside : ExampleText Beside (truth_in_enum_calls (numbered (pos 9223372036854775808))) (truth_in_enum_tree (numbered (pos 9223372036854775808))) (codes "true")
unfolding digits
index_past_64_bits_beside = record { spells = index_past_64_bits.spells; json = refl; written = refl; refusal = refl }

-- ---- keys

sequence_as_key_beside : ExampleRefusal Beside (key_calls (Call.Begin Head.Seq None ∷ Call.End Head.Seq ∷ [])) (key_tree (Container Head.Seq none)) InvalidKey (codes "{\"")
unfolding digits
sequence_as_key_beside = record { spells = sequence_as_key.spells; json = refl; written = refl; refusal = refl }

-- a variant that has a name is no key in either style
abbrev variant_calls : List Call
variant_calls =
    Call.EnumBegin (named (codes "E"))
    ∷ Call.TaggedBegin (named (codes "V"))
    ∷ Call.Int IntType.I32 (pos 1)
    ∷ Call.TaggedEnd (named (codes "V"))
    ∷ Call.EnumEnd (named (codes "E"))
    ∷ []

abbrev variant_tree : Tree
variant_tree = Enum (named (codes "E")) (Tagged (named (codes "V")) (Int IntType.I32 (pos 1)))

variant_as_key_inside : ExampleRefusal Inside (key_calls variant_calls) (key_tree variant_tree) InvalidKey (codes "{\"")
unfolding digits
variant_as_key_inside = record { spells = ((refl, (refl, (refl, tt)), (refl, (refl, tt, (refl, tt, tt)), (refl, tt, tt))), (None, _, tt, refl, (_, _, refl, (_, refl, (_, refl, refl)), (_, _, refl, refl, refl)))); json = refl; written = refl; refusal = refl }

variant_as_key_beside : ExampleRefusal Beside (key_calls variant_calls) (key_tree variant_tree) InvalidKey (codes "{\"")
unfolding digits
variant_as_key_beside = record { spells = variant_as_key_inside.spells; json = refl; written = refl; refusal = refl }

-- ---- what is meant

-- an object with the name and the value
abbrev record_beside_json : Json
record_beside_json = shape.object (pair (escaped_key (codes "variant")) (shape.text (codes "V")) (pair (escaped_key (codes "value")) (shape.object (pair (escaped_key (codes "a")) (shape.number (codes "1")) no_pair)) no_pair))

record_beside_shape : json_in Beside record_in_enum_tree ≡ Ok record_beside_json
unfolding digits
record_beside_shape = refl

record_beside_means : Means record_beside_json
    (Object (a_member (codes "variant") (Text (codes "V")) (a_member (codes "value") (Object (a_member (codes "a") (Number (codes "1")) no_members)) no_members)))
record_beside_means = object (one_pair plain_key escaped_text (one_pair plain_key (object (one_pair plain_key number no_more_pairs)) no_more_pairs))
