-- What is left of some trees, and its JSON, as it computes.
use Rattle.std.specs.Prelude.{◌≡◌, ℕ, ◌+◌, pos, true, false, List, [], ◌∷◌, ◌++◌, Option, Some, None, Result, Ok, codes, refl}
use Rattle.std.specs.Fmt.{digits}
use Rattle.sval_label.specs.Calls.{Head, Slot, Name, Label, IntType, Tag}
use Rattle.sval_core.specs.Trees.{Tree, Null, Truth, Int, Text, Tagged, Enum, Container, Parts, none, part}
use Rattle.sval_json.specs.Json.{compact}
use Rattle.sval_json.specs.Number.{Refusal}
use Rattle.sval_json.specs.Shape.{map_ok, json_of}
use Rattle.sval_filter.specs.Paths.{Path, Rule, Drop, Keep, with_path, with_label, labels_of, is_bad_word, tails}
use Rattle.sval_filter.specs.Pruned.{pruned}
use Rattle.sval_filter.specs.Words.{rule_and_paths}

abbrev pub label : List ℕ → Option Tag → Label
label text tag = record { text = text; tag = tag; is_static = false }

abbrev pub named : List ℕ → Name
named text = record { tag = None; label = Some (label text None); index = None }

abbrev pub field : List ℕ → Slot
field text = Slot.Field None (label text None)

-- the paths that words name
abbrev pub by_words : List (List ℕ) → List Path
by_words [] = []
by_words (word ∷ words) = labels_of word ∷ by_words words

abbrev json_left : Rule → List (List ℕ) → Tree → Result (List ℕ) Refusal
json_left rule words tree = map_ok compact (json_of (pruned rule (by_words words) tree))

-- ---- paths

word_paths : (labels_of (codes "a.b") ≡ codes "a" ∷ codes "b" ∷ []) × (labels_of (codes "a") ≡ codes "a" ∷ [])
    × (is_bad_word (codes "a.b") ≡ false) × (is_bad_word (codes "a..b") ≡ true) × (is_bad_word [] ≡ true) × (is_bad_word (codes "a.") ≡ true)
word_paths = (refl, refl, refl, refl, refl, refl)

longer_paths : (with_label [] (codes "b") ≡ None) × (with_path [] (codes "a") ≡ (codes "a" ∷ []) ∷ [])
    × (with_label ((codes "a" ∷ []) ∷ []) (codes "b") ≡ Some ((codes "a" ∷ codes "b" ∷ []) ∷ []))
    × (with_label ((codes "c" ∷ []) ∷ (codes "a" ∷ []) ∷ []) (codes "b") ≡ Some ((codes "c" ∷ []) ∷ (codes "a" ∷ codes "b" ∷ []) ∷ []))
longer_paths = (refl, refl, refl, refl)

rests : tails (codes "a") (by_words (codes "a.b" ∷ codes "c" ∷ codes "a" ∷ codes "ab.c" ∷ [])) ≡ (codes "b" ∷ []) ∷ [] ∷ []
rests = refl

-- ---- a record tuple of three fields

abbrev place : ℕ → Slot
place n = Slot.FieldPlace None (label (codes "field_" ++ ((48 + n) ∷ [])) (Some (codes "VALUE_IDENT"))) (record { number = pos n; tag = Some (codes "VALUE_OFFSET") })

abbrev record_tuple : Tree
record_tuple =
    Container (Head.RecordTuple (named (codes "MyRecord")))
    (part (place 0) (Int IntType.I32 (pos 1)) (part (place 1) (Truth true) (part (place 2) (Text (codes "some text")) none)))

fields_left : (json_left Drop (codes "field_1" ∷ []) record_tuple ≡ Ok (codes "{\"field_0\":1,\"field_2\":\"some text\"}"))
    × (json_left Keep (codes "field_2" ∷ []) record_tuple ≡ Ok (codes "{\"field_2\":\"some text\"}"))
    × (json_left Keep (codes "none" ∷ []) record_tuple ≡ Ok (codes "{}"))
    × (json_left Drop (codes "none" ∷ codes "field_0.a" ∷ []) record_tuple ≡ Ok (codes "{\"field_0\":1,\"field_1\":true,\"field_2\":\"some text\"}"))
unfolding digits
fields_left = (refl, refl, refl, refl)

-- ---- in an enum, and in a map whose key is no text

abbrev one_field : List ℕ → Tree
one_field name = Container (Head.Record (named name)) (part (field (codes "a")) (Int IntType.I32 (pos 1)) none)

in_enum : (json_left Drop (codes "a" ∷ []) (Enum (named (codes "E")) (one_field (codes "V"))) ≡ Ok (codes "{\"V\":{}}"))
    × (json_left Drop (codes "a.b" ∷ []) (one_field (codes "V")) ≡ Ok (codes "{\"a\":1}"))
unfolding digits
in_enum = (refl, refl)

abbrev some_key : Tree
some_key = Tagged (record { tag = Some (codes "RUST_OPTION_SOME"); label = Some (label (codes "Some") None); index = None }) (Text (codes "k"))

abbrev map_of : Tree → Tree → Parts → Tree
map_of key value more = Container Head.Map (part Slot.Key key (part Slot.Value value more))

key_without_label : (json_left Drop (codes "k" ∷ []) (map_of some_key (one_field (codes "R")) none) ≡ Ok (codes "{\"k\":{\"a\":1}}"))
    × (json_left Drop (codes "a" ∷ []) (map_of some_key (one_field (codes "R")) none) ≡ Ok (codes "{\"k\":{\"a\":1}}"))
    × (json_left Keep (codes "k" ∷ []) (map_of some_key (one_field (codes "R")) none) ≡ Ok (codes "{}"))
unfolding digits
key_without_label = (refl, refl, refl)

-- ---- deeper paths, through the items of a sequence

abbrev two : Tree
two = map_of (Text (codes "a")) (Container Head.Seq (part Slot.Item (map_of (Text (codes "b")) Null (part Slot.Key (Text (codes "c")) (part Slot.Value (Truth true) none))) none))
    (part Slot.Key (Text (codes "d")) (part Slot.Value (Text (codes "x")) none))

deeper : (json_left Drop (codes "a.b" ∷ []) two ≡ Ok (codes "{\"a\":[{\"c\":true}],\"d\":\"x\"}"))
    × (json_left Keep (codes "a.b" ∷ []) two ≡ Ok (codes "{\"a\":[{\"b\":null}]}"))
    × (json_left Drop (codes "b" ∷ codes "d" ∷ []) two ≡ Ok (codes "{\"a\":[{\"b\":null,\"c\":true}]}"))
    × (json_left Keep (codes "a" ∷ codes "a.b" ∷ []) two ≡ Ok (codes "{\"a\":[{\"b\":null,\"c\":true}]}"))
deeper = (refl, refl, refl, refl)

-- ---- words

forms : (rule_and_paths (codes "drop" ∷ codes "a.b" ∷ codes "c" ∷ []) ≡ Some (Drop, (codes "a" ∷ codes "b" ∷ []) ∷ (codes "c" ∷ []) ∷ []))
    × (rule_and_paths (codes "keep" ∷ codes "a" ∷ []) ≡ Some (Keep, (codes "a" ∷ []) ∷ []))
    × (rule_and_paths (codes "drop" ∷ []) ≡ None) × (rule_and_paths (codes "drop" ∷ codes "a..b" ∷ []) ≡ None) × (rule_and_paths (codes "drop" ∷ codes "a" ∷ [] ∷ []) ≡ None)
    × (rule_and_paths (codes "Drop" ∷ codes "a" ∷ []) ≡ None) × (rule_and_paths [] ≡ None)
forms = (refl, refl, refl, refl, refl, refl, refl)
