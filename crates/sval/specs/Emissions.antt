-- What the values of this crate emit, beside maps.
use Rattle.std.specs.Prelude.{ℕ}
use Rattle.sval_core.specs.Law.{Emission}
use Rattle.sval_core.specs.Values.{makes, binary_emission, binary_array_emission}
use Rattle.sval.specs.declared.binary_slice.BinarySlice.{BinarySlice}
use Rattle.sval.specs.declared.binary_array.BinaryArray.{BinaryArray}
use Rattle.sval.specs.declared.shown.Display.{Display}
use Rattle.sval.specs.Seen.{slice_bytes, array_bytes, shown_text}
use Rattle.sval.specs.Shown.{shown_calls}

-- a binary, in one fragment after its size
abbrev pub slice_emission : BinarySlice → Emission
slice_emission binary = binary_emission (slice_bytes binary)

-- the same under the tag of what has a size that its type fixes
abbrev pub byte_array_emission : {n : ℕ} → BinaryArray n → Emission
byte_array_emission binary = binary_array_emission (array_bytes binary)

-- the text that is shown, whose size isn't given
abbrev pub display_emission : {V : Type 0} → Display V → Emission
display_emission shown = makes (shown_calls (shown_text shown))
