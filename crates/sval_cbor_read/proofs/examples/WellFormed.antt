-- Bytes that are well-formed, and bytes that are not.
use Rattle.std.specs.Prelude.{ℕ, List, [], ◌∷◌, None, refl}
use Rattle.std.proofs.Common.{arith}
use Rattle.sval_cbor_read.specs.Items.{head_at_front}
use Rattle.sval_cbor_read.specs.WellFormed.{string_bytes, AreChunksOf, chunk_before, IsWellFormed, headed, simple_or_float, unsigned_integer, text_string, array_of, tagged_item, items_came, item_of, HasPairs, pair_before_break}
use Rattle.sval_cbor_read.proofs.WellFormed.{one_rest, no_break_is_well_formed}
use Rattle.sval_cbor_read.proofs.WellFormedFronts.{simple_value_of, by_95, by_191}

-- 1.0 in two bytes
a_float : IsWellFormed (0xf9 ∷ 0x3c ∷ 0x00 ∷ []) []
unfolding head_at_front
a_float = simple_or_float refl (λ e. omega arith)

-- null and `undefined`, and one byte more
an_array : IsWellFormed (0x82 ∷ 0xf6 ∷ 0xf7 ∷ 0x00 ∷ []) (0x00 ∷ [])
unfolding head_at_front
an_array = headed refl (array_of (item_of (simple_or_float refl (λ e. omega arith)) (item_of (simple_or_float refl (λ e. omega arith)) items_came)))

-- a text that is not UTF-8
a_text : IsWellFormed (0x61 ∷ 0xff ∷ []) []
unfolding head_at_front
a_text = headed refl (text_string (omega arith))

-- an array under the tag of a number
a_tagged_array : IsWellFormed (0xc2 ∷ 0x81 ∷ 0x01 ∷ []) []
unfolding head_at_front
a_tagged_array = headed refl (tagged_item (headed refl (array_of (item_of (headed refl unsigned_integer) items_came))))

-- a simple value below 32 in two bytes
no_small_value : (rest : List ℕ) → IsWellFormed (0xf8 ∷ 0x18 ∷ []) rest → ⊥
unfolding head_at_front
no_small_value rest w = let k = simple_value_of refl w refl in omega arith

-- reserved low bits
no_reserved_bits : (rest : List ℕ) → IsWellFormed (0x1c ∷ []) rest → ⊥
unfolding head_at_front
no_reserved_bits rest (headed e c) = cc e
no_reserved_bits rest (simple_or_float e s) = cc e

-- a break by itself
no_break : (rest : List ℕ) → IsWellFormed (0xff ∷ []) rest → ⊥
no_break rest w = no_break_is_well_formed w

-- a key without a value
no_odd_pairs : {rest : List ℕ} → HasPairs None (0x00 ∷ 0xff ∷ []) rest → ⊥
unfolding head_at_front
no_odd_pairs (pair_before_break k v p) = let e = one_rest k (headed refl unsigned_integer) in no_break_is_well_formed (rw e at v)

no_odd_map : (rest : List ℕ) → IsWellFormed (0xbf ∷ 0x00 ∷ 0xff ∷ []) rest → ⊥
no_odd_map rest w = no_odd_pairs (by_191 w)

-- a chunk of another type
no_other_chunk : {rest : List ℕ} → AreChunksOf 2 (0x61 ∷ 0x00 ∷ 0xff ∷ []) rest → ⊥
unfolding head_at_front
no_other_chunk (chunk_before (string_bytes e h) p) = cc e

no_other_string : (rest : List ℕ) → IsWellFormed (0x5f ∷ 0x61 ∷ 0x00 ∷ 0xff ∷ []) rest → ⊥
no_other_string rest w = no_other_chunk (by_95 w)
