-- What the values of this crate hold.
use Rattle.std.specs.Prelude.{ℕ, List}
use Rattle.std.specs.String.{string_bytes}
use Rattle.sval.specs.declared.binary_slice.BinarySlice.{BinarySlice}
use Rattle.sval.specs.declared.binary_array.BinaryArray.{BinaryArray}
use Rattle.sval.specs.declared.map_slice.MapSlice.{MapSlice}
use Rattle.sval.specs.declared.shown.Display.{Display}

-- the bytes of a binary
abbrev pub slice_bytes : BinarySlice → List ℕ
slice_bytes binary = binary.binary.now

-- the bytes of a binary of a size that its type fixes
abbrev pub array_bytes : {n : ℕ} → BinaryArray n → List ℕ
array_bytes binary = binary.bytes.now

-- the pairs of a map
abbrev pub map_pairs : {K V : Type 0} → MapSlice K V → List (K × V)
map_pairs map = map.map.now

-- the value whose text is shown
abbrev pub shown_value : {V : Type 0} → Display V → V
shown_value display = display.value

-- the text that is shown
abbrev pub shown_text : {V : Type 0} → Display V → List ℕ
shown_text display = string_bytes display.text
