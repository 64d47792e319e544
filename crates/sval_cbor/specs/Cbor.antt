-- The bytes of CBOR (RFC 8949) of a packed shape: definite strings, arrays and maps up to a break or of a definite length, heads of the least width.
use Rattle.std.specs.Prelude.{ℕ, suc, ◌+◌, ◌*◌, ◌^◌, ℤ, pos, negsuc, Bool, true, false, ◌-◌, min, ◌==◌, nat_lt, if◌then◌else◌, List, [], ◌∷◌, ◌++◌, length}
use Rattle.std.specs.Int.{bytes_high_first}
use Rattle.std.specs.Str.Parse.{signed_digits_value}
use Rattle.sval_json.specs.Json.{Json, null, truth, number, text, quoted, raw, array, object, Items, no_item, item, Pairs, no_pair, pair}
use Rattle.sval_cbor.specs.declared.style.Lengths.{Lengths}
use Rattle.sval_cbor.specs.declared.style.Lengths.TheVariants.{Indefinite, Definite}
use Rattle.sval_cbor.specs.Packs.{key_bytes}

-- a head: a major type, and a number in the fewest bytes (RFC 8949, sections 3 and 4.2.1)
unfoldable pub head_bytes : ℕ → ℕ → List ℕ
head_bytes major n =
    if nat_lt n 24 then (32 * major + n) ∷ []
    else if nat_lt n (2 ^ 8) then (32 * major + 24) ∷ bytes_high_first 1 n
    else if nat_lt n (2 ^ 16) then (32 * major + 25) ∷ bytes_high_first 2 n
    else if nat_lt n (2 ^ 32) then (32 * major + 26) ∷ bytes_high_first 4 n
    else (32 * major + 27) ∷ bytes_high_first 8 n

-- the bytes from the first that is not 0 on
unfoldable pub without_zero_bytes : List ℕ → List ℕ
without_zero_bytes [] = []
without_zero_bytes (byte ∷ bytes) = if byte == 0 then without_zero_bytes bytes else byte ∷ bytes

-- a number of up to 128 bits in the fewest bytes, the highest first
unfoldable pub short_bytes : ℕ → List ℕ
short_bytes n = without_zero_bytes (bytes_high_first 16 n)

-- a byte string, whose major type is 2, or a text, whose is 3
abbrev pub string : ℕ → List ℕ → List ℕ
string major bytes = head_bytes major (length bytes) ++ bytes

-- a number of up to 128 bits as a byte string under this tag (RFC 8949, section 3.4.3)
abbrev pub bignum : ℕ → ℕ → List ℕ
bignum tag n = head_bytes 6 tag ++ string 2 (short_bytes n)

-- a whole number: n, or -1-n
abbrev pub integer : ℤ → List ℕ
integer (pos n) = if nat_lt n (2 ^ 64) then head_bytes 0 n else bignum 2 n
integer (negsuc n) = if nat_lt n (2 ^ 64) then head_bytes 1 n else bignum 3 n

-- the simple values false and true (RFC 8949, section 3.3)
abbrev pub truth_bytes : Bool → List ℕ
truth_bytes false = 0xf4 ∷ []
truth_bytes true = 0xf5 ∷ []

-- how many items an array has
abbrev pub item_count : Items → ℕ
item_count no_item = 0
item_count (item _ items) = suc (item_count items)

-- how many pairs a map has
abbrev pub pair_count : Pairs → ℕ
pair_count no_pair = 0
pair_count (pair _ _ pairs) = suc (pair_count pairs)

-- a number of items or pairs, where one past the greatest that a head holds is that
abbrev pub held_count : ℕ → ℕ
held_count n = min n (2 ^ 64 - 1)

-- what begins an array, whose major type is 4, or a map, whose is 5: additional information 31 says that its length is indefinite
abbrev pub row_head : Lengths → ℕ → ℕ → List ℕ
row_head Indefinite major n = (32 * major + 31) ∷ []
row_head Definite major n = head_bytes major n

-- what ends it: a break, where its length is indefinite
abbrev pub row_end : Lengths → List ℕ
row_end Indefinite = 0xff ∷ []
row_end Definite = []

abbrev mutual
  -- the bytes of a shape; `quoted` is a byte string, and raw JSON is in no packed shape, and has none
  pub cbor_as : Lengths → Json → List ℕ
  cbor_as lengths null = 0xf6 ∷ []
  cbor_as lengths (truth b) = truth_bytes b
  cbor_as lengths (number bytes) = integer (signed_digits_value 10 bytes)
  cbor_as lengths (text bytes) = string 3 bytes
  cbor_as lengths (quoted bytes) = string 2 bytes
  cbor_as lengths (raw _) = []
  cbor_as lengths (array items) = row_head lengths 4 (held_count (item_count items)) ++ cbor_items_as lengths items ++ row_end lengths
  cbor_as lengths (object pairs) = row_head lengths 5 (held_count (pair_count pairs)) ++ cbor_pairs_as lengths pairs ++ row_end lengths

  -- the bytes of an array's items, in order
  pub cbor_items_as : Lengths → Items → List ℕ
  cbor_items_as lengths no_item = []
  cbor_items_as lengths (item json items) = cbor_as lengths json ++ cbor_items_as lengths items

  -- the bytes of an object's pairs, in order, each a key, which is a text, and its value
  pub cbor_pairs_as : Lengths → Pairs → List ℕ
  cbor_pairs_as lengths no_pair = []
  cbor_pairs_as lengths (pair key json pairs) = string 3 (key_bytes key) ++ cbor_as lengths json ++ cbor_pairs_as lengths pairs

-- the same with indefinite lengths
abbrev pub cbor : Json → List ℕ
cbor json = cbor_as Indefinite json

-- the items of an array so
abbrev pub cbor_items : Items → List ℕ
cbor_items items = cbor_items_as Indefinite items

-- the pairs of an object so
abbrev pub cbor_pairs : Pairs → List ℕ
cbor_pairs pairs = cbor_pairs_as Indefinite pairs
