-- Which trees the values of this crate spell, as facts.
use Rattle.std.specs.Prelude.{ℕ, List}
use Rattle.sval_core.specs.Names.{number_tag, tag_alone}
use Rattle.sval_core.specs.Trees.{Text, Binary, Tagged}
use Rattle.sval_core.specs.Values.{makes}
use Rattle.sval_core.specs.ValueTrees.{Tells, binary_array_tree}
use Rattle.sval.specs.declared.binary_slice.BinarySlice.{BinarySlice}
use Rattle.sval.specs.declared.binary_array.BinaryArray.{BinaryArray}
use Rattle.sval.specs.declared.shown.Display.{Display}
use Rattle.sval.specs.Emissions.{slice_emission, byte_array_emission, display_emission}
use Rattle.sval.specs.Seen.{slice_bytes, array_bytes, shown_text}
use Rattle.sval.specs.Shown.{shown_calls, number_text_calls}

-- a `BinarySlice` is a binary
abbrev pub BinarySlicesTell : Type 0
BinarySlicesTell = (binary : BinarySlice) → Tells (slice_emission binary) (Binary (slice_bytes binary))

-- a `BinaryArray` is a binary under the tag of what has a size that its type fixes
abbrev pub BinaryArraysTell : Type 0
BinaryArraysTell = (n : ℕ) (binary : BinaryArray n) → Tells (byte_array_emission binary) (binary_array_tree (array_bytes binary))

-- a `Display` is the text that its value prints
abbrev pub DisplaysTell : Type 0 → Type 0
DisplaysTell V = (shown : Display V) → Tells (display_emission shown) (Text (shown_text shown))

-- what `stream_display` makes of a printed text is that text
abbrev pub ShownTextsTell : Type 0
ShownTextsTell = (text : List ℕ) → Tells (makes (shown_calls text)) (Text text)

-- what `stream_number` makes of a printed text is that text under the tag of numbers
abbrev pub ShownNumbersTell : Type 0
ShownNumbersTell = (text : List ℕ) → Tells (makes (number_text_calls text)) (Tagged (tag_alone number_tag) (Text text))
