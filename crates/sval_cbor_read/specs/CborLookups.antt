-- What is looked up in a value of CBOR.
use Rattle.std.specs.Prelude.{ℕ, ◌^◌, ℤ, pos, negsuc, Bool, true, false, nat_lt, if◌then◌else◌, List, [], ◌∷◌, length, slice_get, Option, Some, None}
use Rattle.std.specs.List.{concat}
use Rattle.std.specs.Str.{bytes_eq}
use Rattle.std.specs.Option.{option_or}
use Rattle.sval_cbor_read.specs.CborValues.{CborValue, Null, Truth, Int, Text, Binary, Array, Map, CborValues, no_values, a_value}
use Rattle.sval_cbor_read.specs.declared.cbor_ref.CborKind as made
use Rattle.sval_cbor_read.specs.declared.cbor_ref.CborKind.TheVariants as kind

-- which of the seven a value is
abbrev pub cbor_kind_of : CborValue → made.CborKind
cbor_kind_of Null = kind.Null
cbor_kind_of (Truth _) = kind.Bool
cbor_kind_of (Int _) = kind.Int
cbor_kind_of (Text _) = kind.Text
cbor_kind_of (Binary _) = kind.Bytes
cbor_kind_of (Array _) = kind.Array
cbor_kind_of (Map _) = kind.Map

-- a value is null
abbrev pub cbor_is_null : CborValue → Bool
cbor_is_null Null = true
cbor_is_null _ = false

-- the truth that a value is
abbrev pub cbor_truth_of : CborValue → Option Bool
cbor_truth_of (Truth b) = Some b
cbor_truth_of _ = None

-- ---- numbers

-- a number of at most this many bits, beside the sign
abbrev pub within_bits : ℕ → ℤ → Option ℤ
within_bits bits (pos n) = if nat_lt n (2 ^ bits) then Some (pos n) else None
within_bits bits (negsuc n) = if nat_lt n (2 ^ bits) then Some (negsuc n) else None

-- one that is not below 0
abbrev pub natural_within : ℕ → ℤ → Option ℕ
natural_within bits (pos n) = if nat_lt n (2 ^ bits) then Some n else None
natural_within bits (negsuc n) = None

-- the number that a value is, where it is from -2 ^ bits to 2 ^ bits - 1
abbrev pub signed_of : ℕ → CborValue → Option ℤ
signed_of bits (Int number) = within_bits bits number
signed_of bits _ = None

-- the number that a value is, where it is from 0 to 2 ^ bits - 1
abbrev pub cbor_unsigned_of : ℕ → CborValue → Option ℕ
cbor_unsigned_of bits (Int number) = natural_within bits number
cbor_unsigned_of bits _ = None

-- ---- strings

-- the chunk, where there is one
abbrev pub one_chunk : List (List ℕ) → Option (List ℕ)
one_chunk (chunk ∷ []) = Some chunk
one_chunk _ = None

-- the chunks of the text that a value is
abbrev pub cbor_text_of : CborValue → Option (List (List ℕ))
cbor_text_of (Text chunks) = Some chunks
cbor_text_of _ = None

-- the text that a value is, where it is one chunk
abbrev pub cbor_str_of : CborValue → Option (List ℕ)
cbor_str_of (Text chunks) = one_chunk chunks
cbor_str_of _ = None

-- the chunks of the byte string that a value is
abbrev pub cbor_bytes_of : CborValue → Option (List (List ℕ))
cbor_bytes_of (Binary chunks) = Some chunks
cbor_bytes_of _ = None

-- the byte string that a value is, where it is one chunk
abbrev pub cbor_slice_of : CborValue → Option (List ℕ)
cbor_slice_of (Binary chunks) = one_chunk chunks
cbor_slice_of _ = None

-- ---- arrays and maps

-- the values, in order
abbrev pub cbor_values_listed : CborValues → List CborValue
cbor_values_listed no_values = []
cbor_values_listed (a_value value values) = value ∷ cbor_values_listed values

-- the items of the array that a value is, in order
abbrev pub cbor_items_of : CborValue → Option (List CborValue)
cbor_items_of (Array values) = Some (cbor_values_listed values)
cbor_items_of _ = None

-- the item at this index of the array that a value is, from 0 on
abbrev pub cbor_item_at : ℕ → CborValue → Option CborValue
cbor_item_at index (Array values) = slice_get (cbor_values_listed values) index
cbor_item_at index _ = None

-- a pair of a map
pub record Entry : Type 0 where
  pub key : CborValue
  pub value : CborValue

-- the pairs of keys and values, in order
abbrev pub cbor_paired : List CborValue → List Entry
cbor_paired [] = []
cbor_paired (key ∷ []) = []
cbor_paired (key ∷ value ∷ values) = record { key = key; value = value } ∷ cbor_paired values

-- the pairs of the map that a value is, in order
abbrev pub cbor_entries_of : CborValue → Option (List Entry)
cbor_entries_of (Map values) = Some (cbor_paired (cbor_values_listed values))
cbor_entries_of _ = None

-- how many items the array, or pairs the map, has that a value is
abbrev pub cbor_len_of : CborValue → Option ℕ
cbor_len_of (Array values) = Some (length (cbor_values_listed values))
cbor_len_of (Map values) = Some (length (cbor_paired (cbor_values_listed values)))
cbor_len_of _ = None

-- a value is this text
abbrev pub is_this_text : List ℕ → CborValue → Bool
is_this_text name (Text chunks) = bytes_eq (concat chunks) name
is_this_text name _ = false

-- the value of the last pair whose key is this text
abbrev pub cbor_last_named : List ℕ → List Entry → Option CborValue
cbor_last_named name [] = None
cbor_last_named name (entry ∷ entries) = option_or (cbor_last_named name entries) (if is_this_text name entry.key then Some entry.value else None)

-- the value of the last pair of the map that a value is whose key is this text
abbrev pub cbor_entry_of : List ℕ → CborValue → Option CborValue
cbor_entry_of name (Map values) = cbor_last_named name (cbor_paired (cbor_values_listed values))
cbor_entry_of name _ = None
