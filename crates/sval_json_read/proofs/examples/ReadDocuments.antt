-- Some texts: their tokens, their calls, and what is written of them.
use Rattle.std.specs.Prelude.{◌≡◌, ℕ, true, false, pos, negsuc, List, [], ◌∷◌, codes, Some, None, Ok, refl}
use Rattle.std.specs.Char.{encode_utf8}
use Rattle.std.specs.Fmt.{digits}
use Rattle.sval_label.specs.Calls.{Call, Slot, Head, I64}
use Rattle.sval_json.specs.Json.{compact}
use Rattle.sval_json.specs.Shape.{map_ok, json_of}
use Rattle.sval_json.specs.Grammar as json
use Rattle.sval_json.specs.Grammar.{JsonValue, no_values, a_value, no_members, a_member, close, unescaped, unit, IsValue, number, string, array, last_value, more_values, object, last_member}
use Rattle.sval_json.proofs.NumberGrammar.{run_value}
use Rattle.sval_json_read.specs.Trees.{number_name, tree_of, settled}
use Rattle.sval_json_read.specs.Tokens.{Alone, Item, Key, Value, Placed, placed_at, Null, Truth, Number, Text, BeginArray, EndArray, BeginObject, EndObject, tokens_of}
use Rattle.sval_json_read.specs.Calls.{run, escape, pieces, string_value_calls, document_calls}
use Rattle.sval_json_read.specs.Reader.{tokens_read}

-- ---- a text of every kind

abbrev mixed : List ℕ
mixed = codes " {\"a\" : [1, -0, 1.50e+3, \"x\\u0041\\n\"]}"

abbrev mixed_tokens : List Placed
mixed_tokens =
    placed_at Alone BeginObject ∷ placed_at Key (Text (codes "a")) ∷ placed_at Value BeginArray ∷ placed_at Item (Number (codes "1")) ∷ placed_at Item (Number (codes "-0"))
    ∷ placed_at Item (Number (codes "1.50e+3")) ∷ placed_at Item (Text (codes "x\\u0041\\n")) ∷ placed_at Value EndArray ∷ placed_at Alone EndObject ∷ []

mixed_read : tokens_read mixed ≡ Some mixed_tokens
mixed_read = refl

mixed_calls : document_calls mixed_tokens
    ≡ Call.Begin Head.Map None
    ∷ Call.PartBegin Slot.Key ∷ Call.TextBegin None ∷ Call.TextFragment true (codes "a") ∷ Call.TextEnd ∷ Call.PartEnd Slot.Key
    ∷ Call.PartBegin Slot.Value ∷ Call.Begin Head.Seq None
    ∷ Call.PartBegin Slot.Item ∷ Call.Int I64 (pos 1) ∷ Call.PartEnd Slot.Item
    ∷ Call.PartBegin Slot.Item ∷ Call.Int I64 (pos 0) ∷ Call.PartEnd Slot.Item
    ∷ Call.PartBegin Slot.Item ∷ Call.TaggedBegin number_name ∷ Call.TextBegin (Some 7) ∷ Call.TextFragment true (codes "1.50e+3") ∷ Call.TextEnd ∷ Call.TaggedEnd number_name ∷ Call.PartEnd Slot.Item
    ∷ Call.PartBegin Slot.Item ∷ Call.TextBegin None ∷ Call.TextFragment true (codes "x") ∷ Call.TextFragment false (codes "A") ∷ Call.TextFragment false (codes "\n") ∷ Call.TextEnd ∷ Call.PartEnd Slot.Item
    ∷ Call.End Head.Seq ∷ Call.PartEnd Slot.Value ∷ Call.End Head.Map ∷ []
unfolding encode_utf8
mixed_calls = refl

abbrev mixed_value : JsonValue
mixed_value =
    json.Object (a_member (codes "a") (json.Array (a_value (json.Number (codes "1")) (a_value (json.Number (codes "-0"))
    (a_value (json.Number (codes "1.50e+3")) (a_value (json.Text (codes "xA\n")) no_values))))) no_members)

-- the same by the grammar alone
abbrev mixed_is_value : IsValue (codes "{\"a\" : [1, -0, 1.50e+3, \"x\\u0041\\n\"]}") mixed_value []
unfolding encode_utf8
mixed_is_value =
    object (last_member (unescaped refl close) refl
    (array (more_values (run_value refl) refl (more_values (run_value refl) refl (more_values (run_value refl) refl
    (last_value (string (unescaped refl (unit refl refl (json.escape refl close)))) refl)))))
    refl)

mixed_tokens_of : tokens_of Alone mixed_is_value ≡ mixed_tokens
unfolding encode_utf8
mixed_tokens_of = refl

mixed_written : map_ok compact (json_of (tree_of mixed_value)) ≡ Ok (codes "{\"a\":[1,0,1.50e+3,\"xA\\n\"]}")
unfolding digits
mixed_written = refl

mixed_settled : settled mixed_value
    ≡ json.Object (a_member (codes "a") (json.Array (a_value (json.Number (codes "1")) (a_value (json.Number (codes "0"))
    (a_value (json.Number (codes "1.50e+3")) (a_value (json.Text (codes "xA\n")) no_values))))) no_members)
mixed_settled = refl

-- ---- numbers

-- one more than an `i64` holds, and the least that it does
abbrev too_large : List ℕ
too_large = codes "9223372036854775808"

too_large_read : tokens_read too_large ≡ Some (placed_at Alone (Number too_large) ∷ [])
too_large_read = refl

too_large_calls : document_calls (placed_at Alone (Number too_large) ∷ [])
    ≡ Call.TaggedBegin number_name ∷ Call.TextBegin (Some 19) ∷ Call.TextFragment true too_large ∷ Call.TextEnd ∷ Call.TaggedEnd number_name ∷ []
too_large_calls = refl

least_calls : document_calls (placed_at Alone (Number (codes "-9223372036854775808")) ∷ []) ≡ Call.Int I64 (negsuc 9223372036854775807) ∷ []
least_calls = refl

largest_calls : document_calls (placed_at Alone (Number (codes "9223372036854775807")) ∷ []) ≡ Call.Int I64 (pos 9223372036854775807) ∷ []
largest_calls = refl

-- a fraction or an exponent makes no `i64`
fraction_calls : document_calls (placed_at Alone (Number (codes "1.0")) ∷ []) ≡ Call.TaggedBegin number_name ∷ Call.TextBegin (Some 3) ∷ Call.TextFragment true (codes "1.0") ∷ Call.TextEnd ∷ Call.TaggedEnd number_name ∷ []
fraction_calls = refl

exponent_calls : document_calls (placed_at Alone (Number (codes "1E2")) ∷ []) ≡ Call.TaggedBegin number_name ∷ Call.TextBegin (Some 3) ∷ Call.TextFragment true (codes "1E2") ∷ Call.TextEnd ∷ Call.TaggedEnd number_name ∷ []
exponent_calls = refl

negative_zeros_written : map_ok compact (json_of (tree_of (json.Array (a_value (json.Number (codes "-0")) (a_value (json.Number (codes "-0.0")) (a_value (json.Number (codes "-0e1")) no_values)))))) ≡ Ok (codes "[0,-0.0,-0e1]")
unfolding digits
negative_zeros_written = refl

number_at_end : tokens_read (codes "-12.5e-07 ") ≡ Some (placed_at Alone (Number (codes "-12.5e-07")) ∷ [])
number_at_end = refl

-- ---- words, arrays and objects

words_read : tokens_read (codes "[null,true,false]") ≡ Some (placed_at Alone BeginArray ∷ placed_at Item Null ∷ placed_at Item (Truth true) ∷ placed_at Item (Truth false) ∷ placed_at Alone EndArray ∷ [])
words_read = refl

empty_read : tokens_read (codes "[[ ],{ }]") ≡ Some (placed_at Alone BeginArray ∷ placed_at Item BeginArray ∷ placed_at Item EndArray ∷ placed_at Item BeginObject ∷ placed_at Item EndObject ∷ placed_at Alone EndArray ∷ [])
empty_read = refl

empty_calls : document_calls (placed_at Alone BeginObject ∷ placed_at Alone EndObject ∷ []) ≡ Call.Begin Head.Map None ∷ Call.End Head.Map ∷ []
empty_calls = refl

-- equal keys stay, and an empty text has no fragment
equal_keys_read : tokens_read (codes "{\"\":1,\"\":2}") ≡ Some (placed_at Alone BeginObject ∷ placed_at Key (Text []) ∷ placed_at Value (Number (codes "1")) ∷ placed_at Key (Text []) ∷ placed_at Value (Number (codes "2")) ∷ placed_at Alone EndObject ∷ [])
equal_keys_read = refl

empty_text_calls : string_value_calls [] ≡ Call.TextBegin None ∷ Call.TextEnd ∷ []
empty_text_calls = refl

refused : (tokens_read (codes "[1,]") ≡ None) × (tokens_read (codes "01") ≡ None) × (tokens_read [] ≡ None) × (tokens_read (codes "\"\\ud800\"") ≡ None)
refused = (refl, refl, refl, refl)

-- ---- the pieces of texts

runs_and_escapes : pieces (codes "ab\\n\\/c\\u0041d") ≡ run (codes "ab") ∷ escape (codes "\n") ∷ escape (codes "/") ∷ run (codes "c") ∷ escape (codes "A") ∷ run (codes "d") ∷ []
unfolding encode_utf8
runs_and_escapes = refl

-- two surrogates are one piece, U+1F600; other units are one each
surrogates : pieces (codes "\\ud83d\\uDE00\\u00e9\\uffff") ≡ escape (240 ∷ 159 ∷ 152 ∷ 128 ∷ []) ∷ escape (195 ∷ 169 ∷ []) ∷ escape (239 ∷ 191 ∷ 191 ∷ []) ∷ []
unfolding encode_utf8
surrogates = refl

-- other characters stand in runs
letters : pieces (0xc3 ∷ 0xa9 ∷ codes "\\\\") ≡ run (0xc3 ∷ 0xa9 ∷ []) ∷ escape (codes "\\") ∷ []
letters = refl
