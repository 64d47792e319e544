-- The shape of a tree that CBOR can hold: no raw JSON, keys as texts, and numbers that are whole.
use Rattle.std.specs.Prelude.{ℕ, ℤ, Bool, true, false, ◌&&◌, ◌||◌, List, codes, bytes_eq, if◌then◌else◌, Result, Ok, Err}
use Rattle.std.specs.Fmt.{signed_decimal}
use Rattle.std.specs.Str.Parse.{signed_digits_value}
use Rattle.sval_label.specs.Calls.{Head, Slot}
use Rattle.sval_label.specs.Texts.{is_empty}
use Rattle.sval_label.specs.Ranges.{is_unsigned, is_signed}
use Rattle.sval_core.specs.Trees.{Tree, Null, Truth, Int, Text, Binary, Standalone, Tagged, EmptyEnum, Enum, Container, Parts, none, part, TextKind, Number, JsonValue, JsonText, JsonNumber, text_kind}
use Rattle.sval_json.specs.Json.{Key, escaped_key, raw_key, Json, null, truth, number, text, quoted, array, object, Items, no_item, item, Pairs, no_pair, pair}
use Rattle.sval_json.specs.Digits.{after_digits, without_minus}
use Rattle.sval_json.specs.Number as json
use Rattle.sval_json.specs.Number.{normal}
use Rattle.sval_json.specs.declared.style.Variants.TheVariants.{Inside}
use Rattle.sval_json.specs.Shape.{own, wrap, byte_items, key}
use Rattle.sval_cbor.specs.declared.style.Binaries.{Binaries}
use Rattle.sval_cbor.specs.declared.style.Binaries.TheVariants.{Numbers, ByteStrings}
use Rattle.sval_cbor.specs.declared.style.Style.{Style}
use Rattle.sval_cbor.specs.declared.style.TheConstants.Style.{DEFAULT}

-- why a tree has no such shape: a key that is no text, a number that is none, raw JSON, a number that is not whole or needs more than 128 bits
pub data PackRefusal : Type 0 where
  BadKey : PackRefusal
  BadNumber : PackRefusal
  RawJson : PackRefusal
  NotInteger : PackRefusal

-- the rest of the work on a value, unless it was refused
abbrev pub on_packed : {T U : Type 0} → Result T PackRefusal → (T → Result U PackRefusal) → Result U PackRefusal
on_packed (Ok value) rest = rest value
on_packed (Err refusal) rest = Err refusal

-- a change of the value, unless it was refused
abbrev pub map_packed : {T U : Type 0} → (T → U) → Result T PackRefusal → Result U PackRefusal
map_packed change result = on_packed result (λ value. Ok (change value))

-- from -2 ^ 127 to 2 ^ 128 - 1
abbrev pub has_128_bits : ℤ → Bool
has_128_bits n = is_unsigned 128 n || is_signed 127 n

-- a number in normal form that has neither fraction nor exponent, and 128 bits
abbrev pub is_whole_number : List ℕ → Bool
is_whole_number digits = is_empty (after_digits (without_minus digits)) && has_128_bits (signed_digits_value 10 digits)

-- text that stands for a number, by its normal form; what is no number there is `null`
abbrev pub number_pack : Result (List ℕ) json.Refusal → Result Json PackRefusal
number_pack (Ok digits) = if bytes_eq digits (codes "null") then Ok null else if is_whole_number digits then Ok (number digits) else Err NotInteger
number_pack (Err _) = Err BadNumber

-- text under the tags that say how it is meant; other values under a tag are packed as ever
abbrev pub tagged_pack : TextKind → Tree → Result Json PackRefusal → Result Json PackRefusal
tagged_pack Number (Text bytes) _ = number_pack (normal bytes)
tagged_pack JsonText (Text _) _ = Err RawJson
tagged_pack JsonValue (Text _) _ = Err RawJson
tagged_pack JsonNumber (Text _) _ = Err RawJson
tagged_pack _ _ pack = pack

-- text under `JSON_TEXT` or `JSON_NUMBER`, which is raw in a key
abbrev pub is_raw_kind : TextKind → Bool
is_raw_kind JsonText = true
is_raw_kind JsonNumber = true
is_raw_kind _ = false

-- raw JSON where a key stands, under any names
abbrev pub is_raw : Tree → Bool
is_raw (Tagged name tree) = is_raw_kind (text_kind name.tag) || is_raw tree
is_raw (Enum name tree) = is_raw tree
is_raw _ = false

-- a key is the text that JSON's key has, whether or not that would be escaped
abbrev pub key_bytes : Key → List ℕ
key_bytes (escaped_key bytes) = bytes
key_bytes (raw_key bytes) = bytes

-- a key that is no text is refused first, and then one that is raw
abbrev pub pack_key_as : Result Key json.Refusal → Bool → Result Key PackRefusal
pack_key_as (Err json.InvalidKey) _ = Err BadKey
pack_key_as (Err json.InvalidNumber) raw = if raw then Err RawJson else Err BadNumber
pack_key_as (Ok k) raw = if raw then Err RawJson else Ok (escaped_key (key_bytes k))

-- what a map's key packs to
abbrev pub pack_key : Tree → Result Key PackRefusal
pack_key tree = pack_key_as (key tree false) (is_raw tree)

-- a binary as an array of numbers, or as a byte string, which `quoted` stands for in a packed shape
abbrev pub binary_shape : Binaries → List ℕ → Json
binary_shape Numbers bytes = array (byte_items bytes)
binary_shape ByteStrings bytes = quoted bytes

abbrev mutual
  -- the shape of a tree that CBOR can hold, in a style; `variant` says that it stands directly in an enum
  pub packs : Style → Tree → Bool → Result Json PackRefusal
  packs style Null _ = Ok null
  packs style (Truth b) _ = Ok (truth b)
  packs style (Int _ n) _ = Ok (number (signed_decimal n))
  packs style (Text bytes) _ = Ok (text bytes)
  packs style (Binary bytes) _ = Ok (binary_shape style.binaries bytes)
  packs style (Standalone name) _ = Ok (own name)
  packs style (Tagged name tree) variant = map_packed (wrap Inside variant name) (tagged_pack (text_kind name.tag) tree (packs style tree false))
  packs style (EmptyEnum name) variant = Ok (wrap Inside variant name (own name))
  packs style (Enum name tree) variant = map_packed (wrap Inside variant name) (packs style tree true)
  packs style (Container Head.Seq parts) _ = map_packed array (packed_items style parts)
  packs style (Container Head.Map parts) _ = map_packed object (packed_pairs style parts)
  packs style (Container (Head.Record name) parts) variant = map_packed (λ fields. wrap Inside variant name (object fields)) (packed_pairs style parts)
  packs style (Container (Head.Tuple name) parts) variant = map_packed (λ places. wrap Inside variant name (array places)) (packed_items style parts)
  packs style (Container (Head.RecordTuple name) parts) variant = map_packed (λ fields. wrap Inside variant name (object fields)) (packed_pairs style parts)

  -- the items that parts pack to, in order, or the first refusal
  pub packed_items : Style → Parts → Result Items PackRefusal
  packed_items style none = Ok no_item
  packed_items style (part _ tree parts) = on_packed (packs style tree false) (λ json. map_packed (item json) (packed_items style parts))

  -- a map's key and value, or a field by its label, is a pair; no other part stands in a good map or record
  pub packed_pairs : Style → Parts → Result Pairs PackRefusal
  packed_pairs style (part Slot.Key name (part _ tree parts)) = on_packed (pack_key name) (λ k. on_packed (packs style tree false) (λ json. map_packed (pair k json) (packed_pairs style parts)))
  packed_pairs style (part (Slot.Field _ label) tree parts) = on_packed (packs style tree false) (λ json. map_packed (pair (escaped_key label.text) json) (packed_pairs style parts))
  packed_pairs style (part (Slot.FieldPlace _ label _) tree parts) = on_packed (packs style tree false) (λ json. map_packed (pair (escaped_key label.text) json) (packed_pairs style parts))
  packed_pairs style _ = Ok no_pair

-- the shape of a whole tree in a style
abbrev pub pack_as : Style → Tree → Result Json PackRefusal
pack_as style tree = packs style tree false

-- the shape of a whole tree in the default style
abbrev pub pack_of : Tree → Result Json PackRefusal
pack_of tree = pack_as DEFAULT tree
