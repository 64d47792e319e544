-- The bytes of a packed shape are bytes.
use Rattle.std.specs.Prelude.{◌≡◌, ℕ, zero, suc, ◌+◌, ◌*◌, ◌/◌, ◌%◌, ◌^◌, ◌<◌, ℤ, pos, negsuc, Bool, true, false, cond, ◌==◌, nat_lt, if◌then◌else◌, List, [], ◌∷◌, ◌++◌, length, Ok, IsUtf8, refl}
use Rattle.std.specs.List.{AllByRecursion}
use Rattle.std.specs.Int.{bytes_high_first}
use Rattle.std.specs.Char.{IsScalar, encode_utf8}
use Rattle.std.specs.Str.{all_scalars, encode_utf8_all}
use Rattle.std.specs.Str.Parse.{signed_digits_value}
use Rattle.std.proofs.Common.{subst, arith, inl, inr}
use Rattle.std.proofs.lemmas.Bool.{and_parts}
use Rattle.std.proofs.lemmas.Bool.Decides.{nat_tests}
use lib.Utf8.{scalar, scalar_cases}
use Rattle.sval_core.specs.Trees.{Tree}
use Rattle.sval_core.specs.Real.{AreBytes, IsReal}
use Rattle.sval_core.proofs.RealTrees.{bytes_joined}
use Rattle.sval_json.specs.Json as shape
use Rattle.sval_json.specs.Json.{Key, escaped_key, raw_key, Json, Items, no_item, item, Pairs, no_pair, pair}
use Rattle.sval_cbor.specs.declared.style.Binaries.{Binaries}
use Rattle.sval_cbor.specs.declared.style.Binaries.TheVariants.{Numbers, ByteStrings}
use Rattle.sval_cbor.specs.declared.style.Lengths.{Lengths}
use Rattle.sval_cbor.specs.declared.style.Lengths.TheVariants.{Indefinite, Definite}
use Rattle.sval_cbor.specs.declared.style.Style.{Style}
use Rattle.sval_cbor.specs.Packs.{pack_as}
use Rattle.sval_cbor.specs.Cbor.{head_bytes, without_zero_bytes, short_bytes, string, bignum, integer, truth_bytes, item_count, pair_count, held_count, row_head, row_end, cbor_as, cbor_items_as, cbor_pairs_as}
use Rattle.sval_cbor.specs.Premises.{IsShortTreeAs}
use Rattle.sval_cbor.proofs.Packed.{IsPackedBinary, IsPacked, ArePacked, PairsArePacked, packed}

number_bytes : (width n : ℕ) → AreBytes (bytes_high_first width n)
number_bytes zero n = tt
number_bytes (suc zero) n = (omega arith, tt)
number_bytes (suc (suc width)) n = (omega arith, number_bytes (suc width) n)

without_zeros : (bytes : List ℕ) → AreBytes bytes → AreBytes (without_zero_bytes bytes)
unfolding without_zero_bytes
without_zeros [] h = tt
without_zeros (byte ∷ bytes) h = elim (byte == 0) as (λ b. AreBytes (if b then without_zero_bytes bytes else byte ∷ bytes)) [ true ↦ without_zeros bytes h.1 | false ↦ h ]

heads : (major n : ℕ) → major < 8 → AreBytes (head_bytes major n)
unfolding head_bytes
heads major n h = go (nat_lt n 24) (nat_lt n (2 ^ 8)) (nat_lt n (2 ^ 16)) (nat_lt n (2 ^ 32)) refl
  where
    go : (a b c d : Bool) → nat_lt n 24 ≡ a
        → AreBytes (if a then (32 * major + n) ∷ [] else if b then (32 * major + 24) ∷ bytes_high_first 1 n else if c then (32 * major + 25) ∷ bytes_high_first 2 n else if d then (32 * major + 26) ∷ bytes_high_first 4 n else (32 * major + 27) ∷ bytes_high_first 8 n)
    go true b c d e = let less : n < 24 = grind (arith, nat_tests) in (omega arith, tt)
    go false true c d e = (omega arith, number_bytes 1 n)
    go false false true d e = (omega arith, number_bytes 2 n)
    go false false false true e = (omega arith, number_bytes 4 n)
    go false false false false e = (omega arith, number_bytes 8 n)

-- ---- UTF-8

encoded : (c : ℕ) → c < 1114112 → AreBytes (encode_utf8 c)
unfolding encode_utf8
encoded c bound = go (nat_lt c 128) (nat_lt c 2048) (nat_lt c 65536) refl refl refl
  where
    go : (a b d : Bool) → nat_lt c 128 ≡ a → nat_lt c 2048 ≡ b → nat_lt c 65536 ≡ d
        → AreBytes (cond a (c ∷ []) (cond b ((192 + c / 64) ∷ (128 + c % 64) ∷ []) (cond d ((224 + c / 4096) ∷ (128 + c / 64 % 64) ∷ (128 + c % 64) ∷ []) ((240 + c / 262144) ∷ (128 + c / 4096 % 64) ∷ (128 + c / 64 % 64) ∷ (128 + c % 64) ∷ []))))
    go true b d e f g = let l : c < 128 = grind (arith, nat_tests) in (omega arith, tt)
    go false true d e f g = let l : c < 2048 = grind (arith, nat_tests) in (omega arith, (omega arith, tt))
    go false false true e f g = let l : c < 65536 = grind (arith, nat_tests) in (omega arith, (omega arith, (omega arith, tt)))
    go false false false e f g = (omega arith, (omega arith, (omega arith, (omega arith, tt))))

scalar_bound : (c : ℕ) → IsScalar c → c < 1114112
scalar_bound c h = elim (scalar_cases c h) [ inl low ↦ omega arith | inr high ↦ high.1 ]

encoded_all : (cs : List ℕ) → all_scalars cs ≡ true → AreBytes (encode_utf8_all cs)
encoded_all [] h = tt
encoded_all (c ∷ cs) h =
    let (a, b) = and_parts (scalar c) (all_scalars cs) h in
    bytes_joined (encode_utf8 c) (encode_utf8_all cs) (encoded c (scalar_bound c a)) (encoded_all cs b)

utf8_bytes : (bytes : List ℕ) → IsUtf8 bytes → AreBytes bytes
utf8_bytes bytes (cs, (h, e)) = subst AreBytes e (encoded_all cs h)

-- ---- shapes

strings : (major : ℕ) (bytes : List ℕ) → major < 8 → AreBytes bytes → AreBytes (string major bytes)
strings major bytes h k = bytes_joined (head_bytes major (length bytes)) bytes (heads major (length bytes) h) k

shorts : (n : ℕ) → AreBytes (short_bytes n)
unfolding short_bytes
shorts n = without_zeros (bytes_high_first 16 n) (number_bytes 16 n)

bignums : (tag n : ℕ) → AreBytes (bignum tag n)
bignums tag n = bytes_joined (head_bytes 6 tag) (string 2 (short_bytes n)) (heads 6 tag (omega arith)) (strings 2 (short_bytes n) (omega arith) (shorts n))

integers : (z : ℤ) → AreBytes (integer z)
integers (pos n) = elim (nat_lt n (2 ^ 64)) as (λ b. AreBytes (if b then head_bytes 0 n else bignum 2 n)) [ true ↦ heads 0 n (omega arith) | false ↦ bignums 2 n ]
integers (negsuc n) = elim (nat_lt n (2 ^ 64)) as (λ b. AreBytes (if b then head_bytes 1 n else bignum 3 n)) [ true ↦ heads 1 n (omega arith) | false ↦ bignums 3 n ]

truths : (b : Bool) → AreBytes (truth_bytes b)
truths false = (omega arith, tt)
truths true = (omega arith, tt)

row_heads : (lengths : Lengths) (major n : ℕ) → major < 8 → AreBytes (row_head lengths major n)
row_heads Indefinite major n h = (omega arith, tt)
row_heads Definite major n h = heads major n h

row_ends : (lengths : Lengths) → AreBytes (row_end lengths)
row_ends Indefinite = (omega arith, tt)
row_ends Definite = tt

-- what is within a head and an end
framed : (lengths : Lengths) (major n : ℕ) (xs : List ℕ) → major < 8 → AreBytes xs → AreBytes (row_head lengths major n ++ xs ++ row_end lengths)
framed lengths major n xs l h =
    bytes_joined (row_head lengths major n ++ xs) (row_end lengths) (bytes_joined (row_head lengths major n) xs (row_heads lengths major n l) h) (row_ends lengths)

byte_string : (binaries : Binaries) (bytes : List ℕ) → IsPackedBinary binaries bytes → AreBytes (string 2 bytes)
byte_string Numbers bytes h = absurd h
byte_string ByteStrings bytes h = strings 2 bytes (omega arith) h.0

mutual
  shape_bytes : (style : Style) (json : Json) → IsPacked style json → AreBytes (cbor_as style.lengths json)
  shape_bytes style shape.null h = (omega arith, tt)
  shape_bytes style (shape.truth b) h = truths b
  shape_bytes style (shape.number bytes) h = integers (signed_digits_value 10 bytes)
  shape_bytes style (shape.text bytes) h = strings 3 bytes (omega arith) (utf8_bytes bytes h.0)
  shape_bytes style (shape.quoted bytes) h = byte_string style.binaries bytes h
  shape_bytes style (shape.raw bytes) h = tt
  shape_bytes style (shape.array row) h = framed style.lengths 4 (held_count (item_count row)) (cbor_items_as style.lengths row) (omega arith) (item_bytes style row h.0)
  shape_bytes style (shape.object row) h = framed style.lengths 5 (held_count (pair_count row)) (cbor_pairs_as style.lengths row) (omega arith) (pair_bytes style row h.0)

  item_bytes : (style : Style) (row : Items) → ArePacked style row → AreBytes (cbor_items_as style.lengths row)
  item_bytes style no_item h = tt
  item_bytes style (item json row) h = bytes_joined (cbor_as style.lengths json) (cbor_items_as style.lengths row) (shape_bytes style json h.0) (item_bytes style row h.1)

  pair_bytes : (style : Style) (row : Pairs) → PairsArePacked style row → AreBytes (cbor_pairs_as style.lengths row)
  pair_bytes style no_pair h = tt
  pair_bytes style (pair (escaped_key bytes) json row) h =
      bytes_joined (string 3 bytes ++ cbor_as style.lengths json) (cbor_pairs_as style.lengths row) (bytes_joined (string 3 bytes) (cbor_as style.lengths json) (strings 3 bytes (omega arith) (utf8_bytes bytes h.0.0)) (shape_bytes style json h.1)) (pair_bytes style row h.2)
  pair_bytes style (pair (raw_key bytes) json row) h = absurd h.0

pub cbor_is_bytes : (style : Style) (tree : Tree) (json : Json) → IsReal tree → IsShortTreeAs style tree → pack_as style tree ≡ Ok json → AllByRecursion (λ byte. byte < 256) (cbor_as style.lengths json)
cbor_is_bytes style tree json r s e = shape_bytes style json (packed style tree json r s e)
