-- The words with which a user says what a struct or an enum of the program's own emits: each names a type of Rust.
use Prim.Native.String.{String as Literal}
use Rattle.std.specs.Prelude.{ℕ, ℤ, pos, Bool, List, codes, string_bytes}
use Rattle.std.specs.Borrow.{Bor}
use Rattle.std.specs.Prelude as std
use Rattle.sval_label.specs.Calls.{U8, U16, U32, U64, U128, I8, I16, I32, I64, I128}
use Rattle.sval_core.specs.Law.{Emission}
use Rattle.sval_core.specs.Values.{truth_emission, int_emission, str_emission, seq_emission}
use Rattle.sval.specs.Structs.{Field, struct_emission, unit_struct_emission, newtype_emission, tuple_struct_emission, unit_variant_emission, value_variant_emission, tuple_variant_emission, struct_variant_emission}
pub use Rattle.std.specs.Prelude.{[], ◌∷◌}
pub use Rattle.sval_core.specs.Values.{option_emission, char_emission, tuple_emission, map_emission, binary_emission}

-- ---- the types of fields

abbrev pub bool_emission : Bool → Emission
bool_emission b = truth_emission b

abbrev pub u8_emission : ℕ → Emission
u8_emission n = int_emission U8 (pos n)

abbrev pub u16_emission : ℕ → Emission
u16_emission n = int_emission U16 (pos n)

abbrev pub u32_emission : ℕ → Emission
u32_emission n = int_emission U32 (pos n)

abbrev pub u64_emission : ℕ → Emission
u64_emission n = int_emission U64 (pos n)

abbrev pub u128_emission : ℕ → Emission
u128_emission n = int_emission U128 (pos n)

abbrev pub i8_emission : ℤ → Emission
i8_emission n = int_emission I8 n

abbrev pub i16_emission : ℤ → Emission
i16_emission n = int_emission I16 n

abbrev pub i32_emission : ℤ → Emission
i32_emission n = int_emission I32 n

abbrev pub i64_emission : ℤ → Emission
i64_emission n = int_emission I64 n

abbrev pub i128_emission : ℤ → Emission
i128_emission n = int_emission I128 n

-- a `&str`
abbrev pub text_emission : Bor (List ℕ) → Emission
text_emission text = str_emission text.now

-- a `String`
abbrev pub string_emission : {A : Type 0} → std.String A → Emission
string_emission text = str_emission (string_bytes text)

-- a `Vec`
abbrev pub vec_emission : {T A : Type 0} → (T → Emission) → std.Vec T A → Emission
vec_emission emission xs = seq_emission emission xs.items

-- ---- structs and enums, by the literals of their names

-- a field of this name
abbrev pub field : Literal → Emission → Field
field name value = record { name = codes name; value = value }

-- a struct of this name with these fields: what `stream_struct` streams
abbrev pub a_struct : Literal → List Field → Emission
a_struct name fields = struct_emission (codes name) fields

-- a struct of this name that holds nothing: what `stream_unit_struct` streams
abbrev pub unit_struct : Literal → Emission
unit_struct name = unit_struct_emission (codes name)

-- a struct of this name that holds one value: what `stream_newtype` streams
abbrev pub newtype : Literal → Emission → Emission
newtype name value = newtype_emission (codes name) value

-- a tuple struct of this name: what `stream_tuple_struct` streams
abbrev pub tuple_struct : Literal → List Emission → Emission
tuple_struct name fields = tuple_struct_emission (codes name) fields

-- a variant of this type, name and number, which holds nothing: what `stream_unit_variant` streams
abbrev pub unit_variant : (type variant : Literal) → ℕ → Emission
unit_variant type variant number = unit_variant_emission (codes type) (codes variant) number

-- a variant that holds one value: what `stream_value_variant` streams
abbrev pub value_variant : (type variant : Literal) → ℕ → Emission → Emission
value_variant type variant number value = value_variant_emission (codes type) (codes variant) number value

-- a tuple variant: what `stream_tuple_variant` streams
abbrev pub tuple_variant : (type variant : Literal) → ℕ → List Emission → Emission
tuple_variant type variant number fields = tuple_variant_emission (codes type) (codes variant) number fields

-- a variant that holds fields: what `stream_struct_variant` streams
abbrev pub struct_variant : (type variant : Literal) → ℕ → List Field → Emission
struct_variant type variant number fields = struct_variant_emission (codes type) (codes variant) number fields
