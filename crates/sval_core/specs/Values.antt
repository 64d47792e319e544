-- What values of the standard library, and those that are built of others, emit.
use Rattle.std.specs.Prelude.{ℕ, ◌+◌, ℤ, Bool, true, false, List, [], ◌∷◌, length, encode_utf8, Option, Some, None}
use Rattle.sval_label.specs.Calls.{Name, IntType, Head, Slot, Call}
use Rattle.sval_core.specs.Law.{Emission, silent, emits, then_emits}
use Rattle.sval_core.specs.Names.{unit_tag, constant_size_tag, tag_alone, no_name, offset, some_name, none_name}

-- calls, and no refusal
abbrev pub makes : List Call → Emission
makes calls = record { calls = calls; refuses = false }

-- calls, and then a refusal
abbrev pub fails_after : List Call → Emission
fails_after calls = record { calls = calls; refuses = true }

-- ---- what is between a begin and its end

-- a begin, what is between, and the end, which doesn't come where what is between refuses
abbrev pub between : (begin end : Call) → Emission → Emission
between begin end e = then_emits (emits begin) (then_emits e (emits end))

-- a tagged value of this name
abbrev pub tagged_emission : Name → Emission → Emission
tagged_emission name e = between (Call.TaggedBegin name) (Call.TaggedEnd name) e

-- a part of a container, at this place
abbrev pub part_emission : Slot → Emission → Emission
part_emission slot e = between (Call.PartBegin slot) (Call.PartEnd slot) e

-- an enum of this name, around its variant or around nothing
abbrev pub enum_emission : Name → Emission → Emission
enum_emission name e = between (Call.EnumBegin name) (Call.EnumEnd name) e

-- a container that tells how many entries its parts are
abbrev pub container_emission : Head → ℕ → Emission → Emission
container_emission head size parts = between (Call.Begin head (Some size)) (Call.End head) parts

-- parts one after another, up to the first that refuses
unfoldable pub parts_emission : {T : Type 0} → (T → Emission) → List T → Emission
parts_emission emission [] = silent
parts_emission emission (x ∷ xs) = then_emits (emission x) (parts_emission emission xs)

-- ---- values that are one call

-- `null`
abbrev pub null_emission : Emission
null_emission = emits Call.Null

-- a truth value
abbrev pub truth_emission : Bool → Emission
truth_emission b = emits (Call.Truth b)

-- a whole number of this type
abbrev pub int_emission : IntType → ℤ → Emission
int_emission type n = emits (Call.Int type n)

-- a tag by itself
abbrev pub tag_emission : Name → Emission
tag_emission name = emits (Call.Standalone name)

-- `()`: its tag by itself
abbrev pub unit_emission : Emission
unit_emission = tag_emission (tag_alone unit_tag)

-- ---- texts and binaries, each in one fragment after its length

-- a text of one fragment, which is borrowed or computed
abbrev pub one_text_emission : (borrowed : Bool) → List ℕ → Emission
one_text_emission borrowed text = between (Call.TextBegin (Some (length text))) Call.TextEnd (emits (Call.TextFragment borrowed text))

-- the calls of a whole text in one borrowed fragment, which tells this size, if it tells one
abbrev pub whole_text_calls : Option ℕ → List ℕ → List Call
whole_text_calls size text = Call.TextBegin size ∷ Call.TextFragment true text ∷ Call.TextEnd ∷ []

-- the same as a key of a map
abbrev pub whole_key_calls : Option ℕ → List ℕ → List Call
whole_key_calls size text =
    Call.PartBegin Slot.Key ∷ Call.TextBegin size ∷ Call.TextFragment true text ∷ Call.TextEnd ∷ Call.PartEnd Slot.Key ∷ []

-- a `str`: a text of one borrowed fragment
abbrev pub str_emission : List ℕ → Emission
str_emission text = one_text_emission true text

-- a `char`: a text of one computed fragment
abbrev pub char_emission : ℕ → Emission
char_emission char = one_text_emission false (encode_utf8 char)

-- a binary of one borrowed fragment
abbrev pub binary_emission : List ℕ → Emission
binary_emission bytes = between (Call.BinaryBegin (Some (length bytes))) Call.BinaryEnd (emits (Call.BinaryFragment true bytes))

-- what has a size that its type fixes
abbrev pub constant_size_emission : Emission → Emission
constant_size_emission e = tagged_emission (tag_alone constant_size_tag) e

-- a binary whose size its type fixes
abbrev pub binary_array_emission : List ℕ → Emission
binary_array_emission bytes = constant_size_emission (binary_emission bytes)

-- ---- sequences and maps

-- a sequence of items, which tells how many they are
abbrev pub seq_emission : {T : Type 0} → (T → Emission) → List T → Emission
seq_emission emission xs = container_emission Head.Seq (length xs) (parts_emission (λ x. part_emission Slot.Item (emission x)) xs)

-- an array: a sequence whose size its type fixes
abbrev pub array_emission : {T : Type 0} → (T → Emission) → List T → Emission
array_emission emission xs = constant_size_emission (seq_emission emission xs)

-- a map's key and its value
abbrev pub entry_emission : Emission → Emission → Emission
entry_emission key value = then_emits (part_emission Slot.Key key) (part_emission Slot.Value value)

-- a map of entries, which tells how many they are
abbrev pub map_emission : {K V : Type 0} → (K → Emission) → (V → Emission) → List (K × V) → Emission
map_emission key value entries = container_emission Head.Map (length entries) (parts_emission (λ entry. entry_emission (key entry.0) (value entry.1)) entries)

-- ---- options and tuples

-- an option: what it holds under the name of `Some`, or the name of `None` by itself
abbrev pub option_emission : {T : Type 0} → (T → Emission) → Option T → Emission
option_emission emission None = tag_emission none_name
option_emission emission (Some x) = tagged_emission some_name (emission x)

-- the parts of a tuple, from this place on
abbrev pub places_emission : ℕ → List Emission → Emission
places_emission i [] = silent
places_emission i (e ∷ es) = then_emits (part_emission (Slot.Place None (offset i)) e) (places_emission (i + 1) es)

-- what was emitted before, and then fields under places from this one on
abbrev pub then_places : Emission → ℕ → List Emission → Emission
then_places before i [] = before
then_places before i (e ∷ es) = then_places (then_emits before (part_emission (Slot.Place None (offset i)) e)) (i + 1) es

-- a tuple without a name up to its last field
abbrev pub begun_tuple : List Emission → Emission
begun_tuple es = then_places (emits (Call.Begin (Head.Tuple no_name) (Some (length es)))) 0 es

-- a tuple without a name, which tells how many parts it has, and whose parts are counted from 0
abbrev pub tuple_emission : List Emission → Emission
tuple_emission es = container_emission (Head.Tuple no_name) (length es) (places_emission 0 es)
