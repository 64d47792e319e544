-- Bytes that are an item, and bytes that are none.
use Rattle.std.specs.Prelude.{◌≡◌, ℕ, ◌^◌, ◌-◌, true, false, List, [], ◌∷◌, take, codes, pos, negsuc, IsTrue, Some, None, Ok, Err, refl}
use Rattle.std.specs.Fmt.{digits}
use Rattle.std.proofs.Common.{arith, lit<}
use Rattle.std.specs.Str.{is_utf8, chars}
use Rattle.std.specs.Char.{encode_utf8}
use Rattle.sval_label.specs.Calls.{Call, U64, U128, I128, Seq, Map, Item, Key, Value}
use Rattle.sval_core.specs.Trees.{Tree, Null, Truth, Int, Text, Container, none, part}
use Rattle.sval_json.specs.Json.{compact}
use Rattle.sval_json.specs.Number.{InvalidKey}
use Rattle.sval_json.specs.Shape.{map_ok, json_of}
use Rattle.sval_cbor_read.proofs.OneTree.{no_head_127, one_item, same_heads, moved_body, simple_body}
use Rattle.sval_cbor_read.specs.Document.{cbor_document_calls}
use Rattle.sval_cbor_read.specs.Items.{head_at_front, IsDefiniteString, string, break, piece, definite, IsItem, by_head, texts_in_pieces, seq_to_break, map_to_break, falsehood, truth, null, IsBody, unsigned, negative, text, seq, map, big, negative_big, tagged, no_items, no_pairs, a_pair, items_end, items_go_on, entries_end, entries_go_on, IsItemOf}

map_up_to_break : IsItemOf (0xbf ∷ 0x61 ∷ 0x30 ∷ 0xf4 ∷ 0x61 ∷ 0x31 ∷ 0xf5 ∷ 0xff ∷ [])
    (Container Map (part Key (Text (codes "0")) (part Value (Truth false) (part Key (Text (codes "1")) (part Value (Truth true) none)))))
unfolding head_at_front is_utf8 chars encode_utf8
map_up_to_break = map_to_break (entries_go_on (by_head refl (text (omega arith) refl)) falsehood
    (entries_go_on (by_head refl (text (omega arith) refl)) truth entries_end))

text_pieces : IsItemOf (0x7f ∷ 0x61 ∷ 0x61 ∷ 0x61 ∷ 0x62 ∷ 0xff ∷ []) (Text (codes "ab"))
unfolding head_at_front is_utf8 chars encode_utf8
text_pieces = texts_in_pieces (piece (string refl (omega arith) refl) (piece (string refl (omega arith) refl) break))

big_five : IsItemOf (0xc2 ∷ 0x41 ∷ 0x05 ∷ []) (Int U128 (pos 5))
unfolding head_at_front
big_five = by_head refl (big (definite (string refl (omega arith) refl)) (lit< tt))

least : IsItemOf (0x3b ∷ 0xff ∷ 0xff ∷ 0xff ∷ 0xff ∷ 0xff ∷ 0xff ∷ 0xff ∷ 0xff ∷ []) (Int I128 (negsuc (2 ^ 64 - 1)))
unfolding head_at_front
least = by_head refl negative

map_with_sequence_key : IsItemOf (0xa1 ∷ 0x80 ∷ 0xf6 ∷ []) (Container Map (part Key (Container Seq none) (part Value Null none)))
unfolding head_at_front
map_with_sequence_key = by_head refl (map (a_pair (by_head refl (seq no_items)) null no_pairs))

-- a number in a wider head than it needs, and a tag that is passed over
wide_and_tagged : IsItemOf (0xd9 ∷ 0xd9 ∷ 0xf7 ∷ 0x18 ∷ 0x05 ∷ []) (Int U64 (pos 5))
unfolding head_at_front
wide_and_tagged = by_head refl (tagged (λ e. omega (arith, e)) (λ e. omega (arith, e)) (by_head refl unsigned))

greatest_and_least : IsItemOf (0x9f ∷ 0xc2 ∷ 0x50 ∷ 0xff ∷ 0xff ∷ 0xff ∷ 0xff ∷ 0xff ∷ 0xff ∷ 0xff ∷ 0xff ∷ 0xff ∷ 0xff ∷ 0xff ∷ 0xff ∷ 0xff ∷ 0xff ∷ 0xff ∷ 0xff ∷ 0xc3 ∷ 0x50 ∷ 0x7f ∷ 0xff ∷ 0xff ∷ 0xff ∷ 0xff ∷ 0xff ∷ 0xff ∷ 0xff ∷ 0xff ∷ 0xff ∷ 0xff ∷ 0xff ∷ 0xff ∷ 0xff ∷ 0xff ∷ 0xff ∷ 0xff ∷ [])
    (Container Seq (part Item (Int U128 (pos (2 ^ 128 - 1))) (part Item (Int I128 (negsuc (2 ^ 127 - 1))) none)))
unfolding head_at_front
greatest_and_least = seq_to_break (items_go_on (by_head refl (big (definite (string refl (omega arith) refl)) (lit< tt)))
    (items_go_on (by_head refl (negative_big (definite (string refl (omega arith) refl)) (lit< tt))) items_end))

empty_bignum : IsItemOf (0xc3 ∷ 0x40 ∷ []) (Int I128 (negsuc 0))
unfolding head_at_front
empty_bignum = by_head refl (negative_big (definite (string refl (omega arith) refl)) (lit< tt))

-- ---- documents

pieces_document : cbor_document_calls text_pieces ≡ Call.TextBegin None ∷ Call.TextFragment true (codes "a") ∷ Call.TextFragment true (codes "b") ∷ Call.TextEnd ∷ []
unfolding text_pieces
pieces_document = refl

tagged_document : cbor_document_calls wide_and_tagged ≡ Call.Int U64 (pos 5) ∷ []
unfolding wide_and_tagged
tagged_document = refl

definite_document : cbor_document_calls map_with_sequence_key
    ≡ Call.Begin Map (Some 1) ∷ Call.PartBegin Key ∷ Call.Begin Seq (Some 0) ∷ Call.End Seq ∷ Call.PartEnd Key ∷ Call.PartBegin Value ∷ Call.Null ∷ Call.PartEnd Value ∷ Call.End Map ∷ []
unfolding map_with_sequence_key
definite_document = refl

indefinite_document : cbor_document_calls map_up_to_break
    ≡ Call.Begin Map None
    ∷ Call.PartBegin Key ∷ Call.TextBegin (Some 1) ∷ Call.TextFragment true (codes "0") ∷ Call.TextEnd ∷ Call.PartEnd Key ∷ Call.PartBegin Value ∷ Call.Truth false ∷ Call.PartEnd Value
    ∷ Call.PartBegin Key ∷ Call.TextBegin (Some 1) ∷ Call.TextFragment true (codes "1") ∷ Call.TextEnd ∷ Call.PartEnd Key ∷ Call.PartBegin Value ∷ Call.Truth true ∷ Call.PartEnd Value ∷ Call.End Map ∷ []
unfolding map_up_to_break
indefinite_document = refl

-- ---- as JSON

map_text : map_ok compact (json_of (Container Map (part Key (Text (codes "0")) (part Value (Truth false) (part Key (Text (codes "1")) (part Value (Truth true) none)))))) ≡ Ok (codes "{\"0\":false,\"1\":true}")
map_text = refl

least_text : map_ok compact (json_of (Int I128 (negsuc (2 ^ 64 - 1)))) ≡ Ok (codes "-18446744073709551616")
unfolding digits
least_text = refl

no_text_key : json_of (Container Map (part Key (Container Seq none) (part Value Null none))) ≡ Err InvalidKey
no_text_key = refl

greatest_and_least_text : map_ok compact (json_of (Container Seq (part Item (Int U128 (pos (2 ^ 128 - 1))) (part Item (Int I128 (negsuc (2 ^ 127 - 1))) none))))
    ≡ Ok (codes "[340282366920938463463374607431768211455,-170141183460469231731687303715884105728]")
unfolding digits
greatest_and_least_text = refl

-- ---- refused

abbrev NoItem : List ℕ → Type 0
NoItem bytes = (tree : Tree) (rest : List ℕ) → IsItem bytes tree rest → ⊥

nothing : NoItem []
unfolding head_at_front
nothing tree rest (by_head e b) = cc e

half_float : NoItem (0xf9 ∷ 0x3c ∷ 0x00 ∷ [])
unfolding head_at_front
half_float tree rest (by_head e b) = simple_body refl e b

undefined : NoItem (0xf7 ∷ [])
unfolding head_at_front
undefined tree rest (by_head e b) = simple_body refl e b

two_items : (tree : Tree) → IsItemOf (0x00 ∷ 0x00 ∷ []) tree → ⊥
unfolding head_at_front
two_items tree i = let (same, rest) = one_item i (by_head refl unsigned) in cc rest

cut_body : {tree : Tree} {rest : List ℕ} → IsBody 3 2 (0xc3 ∷ []) tree rest → ⊥
cut_body (text h u) = omega (arith, h)

cut_text : NoItem (0x62 ∷ 0xc3 ∷ [])
unfolding head_at_front
cut_text tree rest (by_head e b) = cut_body (moved_body (same_heads refl e) b)

-- a piece of a text is UTF-8 by itself
cut_piece : {content rest : List ℕ} → IsDefiniteString 3 (0x61 ∷ 0xc3 ∷ 0x61 ∷ 0xa9 ∷ 0xff ∷ []) content rest → ⊥
unfolding head_at_front is_utf8 chars encode_utf8
cut_piece (string {number = n} {after = after} e l k) =
    let (same, number, left) = same_heads refl e in
    let f : IsTrue (is_utf8 (take 1 (0xc3 ∷ 0x61 ∷ 0xa9 ∷ 0xff ∷ []))) = rw (number, left) at k in
    cc f

cut_character : NoItem (0x7f ∷ 0x61 ∷ 0xc3 ∷ 0x61 ∷ 0xa9 ∷ 0xff ∷ [])
cut_character tree rest (texts_in_pieces (piece s p)) = cut_piece s
cut_character tree rest (by_head e b) = no_head_127 _ e
