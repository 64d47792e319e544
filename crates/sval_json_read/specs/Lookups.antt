-- What is looked up in a value of JSON.
use Rattle.std.specs.Prelude.{ℕ, ◌^◌, ℤ, Bool, true, false, not, ◌&&◌, nat_lt, if◌then◌else◌, List, [], ◌∷◌, length, slice_get, Option, Some, None}
use Rattle.std.specs.Str.{bytes_eq}
use Rattle.std.specs.Option.{option_or}
use Rattle.std.specs.Str.Parse.{digits_value}
use Rattle.sval_label.specs.Calls.{I128}
use Rattle.sval_label.specs.Ranges.{is_of_type}
use Rattle.sval_json.specs.Digits.{digits_of}
use Rattle.sval_json.specs.Number.{is_negative}
use Rattle.sval_json.specs.Grammar.{JsonValue, Null, Truth, Number, Text, Array, Object, Values, no_values, a_value, Members, no_members, a_member}
use Rattle.sval_json_read.specs.Trees.{has_no_fraction, whole_value, fits_i64}
use Rattle.sval_json_read.specs.declared.json_ref.JsonKind as made
use Rattle.sval_json_read.specs.declared.json_ref.JsonKind.TheVariants as kind

-- which of the six a value is
abbrev pub json_kind_of : JsonValue → made.JsonKind
json_kind_of Null = kind.Null
json_kind_of (Truth _) = kind.Bool
json_kind_of (Number _) = kind.Number
json_kind_of (Text _) = kind.Text
json_kind_of (Array _) = kind.Array
json_kind_of (Object _) = kind.Object

-- a value is `null`
abbrev pub is_null : JsonValue → Bool
is_null Null = true
is_null _ = false

-- the truth that a value is
abbrev pub json_truth_of : JsonValue → Option Bool
json_truth_of (Truth b) = Some b
json_truth_of _ = None

-- the text of the number that a value is, as it stands
abbrev pub json_number_of : JsonValue → Option (List ℕ)
json_number_of (Number text) = Some text
json_number_of _ = None

-- the number that a value is, where it has no fraction and no exponent and is in the range of `i64`
abbrev pub i64_of : JsonValue → Option ℤ
i64_of (Number text) = if fits_i64 text then Some (whole_value text) else None
i64_of _ = None

-- a number without a fraction and an exponent, in the range of `i128`
abbrev pub fits_i128 : List ℕ → Bool
fits_i128 text = has_no_fraction text && is_of_type I128 (whole_value text)

-- the number that a value is, where it has no fraction and no exponent and is in the range of `i128`
abbrev pub i128_of : JsonValue → Option ℤ
i128_of (Number text) = if fits_i128 text then Some (whole_value text) else None
i128_of _ = None

-- a number without a minus, a fraction and an exponent, from 0 to 2 ^ bits - 1
abbrev pub fits_unsigned : ℕ → List ℕ → Bool
fits_unsigned bits text = has_no_fraction text && (not (is_negative text) && nat_lt (digits_value 10 (digits_of text)) (2 ^ bits))

-- the number that a value is, where it has no minus, no fraction and no exponent and is at most 2 ^ bits - 1
abbrev pub unsigned_of : ℕ → JsonValue → Option ℕ
unsigned_of bits (Number text) = if fits_unsigned bits text then Some (digits_value 10 (digits_of text)) else None
unsigned_of bits _ = None

-- the same in the range of `u64`
abbrev pub u64_of : JsonValue → Option ℕ
u64_of value = unsigned_of 64 value

-- and in that of `u128`
abbrev pub u128_of : JsonValue → Option ℕ
u128_of value = unsigned_of 128 value

-- the text of the string that a value is
abbrev pub json_text_of : JsonValue → Option (List ℕ)
json_text_of (Text text) = Some text
json_text_of _ = None

-- the values, in order
abbrev pub values_listed : Values → List JsonValue
values_listed no_values = []
values_listed (a_value value values) = value ∷ values_listed values

-- the items of the array that a value is, in order
abbrev pub items_of : JsonValue → Option (List JsonValue)
items_of (Array values) = Some (values_listed values)
items_of _ = None

-- the item at this index of the array that a value is, from 0 on
abbrev pub item_at : ℕ → JsonValue → Option JsonValue
item_at index (Array values) = slice_get (values_listed values) index
item_at index _ = None

-- a member of an object: its name as text, and its value
pub record Member : Type 0 where
  pub name : List ℕ
  pub value : JsonValue

-- the members, in order
abbrev pub paired : Members → List Member
paired no_members = []
paired (a_member text value members) = record { name = text; value = value } ∷ paired members

-- the members of the object that a value is, in order
abbrev pub members_of : JsonValue → Option (List Member)
members_of (Object members) = Some (paired members)
members_of _ = None

-- how many items the array, or members the object, has that a value is
abbrev pub len_of : JsonValue → Option ℕ
len_of (Array values) = Some (length (values_listed values))
len_of (Object members) = Some (length (paired members))
len_of _ = None

-- the value of the last member with this name
abbrev pub last_named : List ℕ → List Member → Option JsonValue
last_named name [] = None
last_named name (member ∷ members) = option_or (last_named name members) (if bytes_eq member.name name then Some member.value else None)

-- the value of the last member with this name of the object that a value is
abbrev pub member_of : List ℕ → JsonValue → Option JsonValue
member_of name (Object members) = last_named name (paired members)
member_of name _ = None
