-- The JSON of readings.
use Rattle.std.specs.Prelude.{ℕ, List, [], ◌∷◌}
use Rattle.std.specs.Fmt.{signed_decimal}
use Rattle.std.specs.String.{string_bytes}
use Rattle.sval_json.specs.Json.{Json, text, number, array, Items, no_item, item, compact}
use Rattle.readings.specs.declared.Reading.{Reading}
use Rattle.readings.specs.declared.Reading.TheVariants.{Note, Measure}

-- a note is a text, and a measure a number
abbrev pub reading_shape : Reading → Json
reading_shape (Note note) = text (string_bytes note)
reading_shape (Measure n) = number (signed_decimal n)

-- the readings as the items of an array, in order
abbrev pub reading_items : List Reading → Items
reading_items [] = no_item
reading_items (reading ∷ readings) = item (reading_shape reading) (reading_items readings)

-- the text of the array of them
abbrev pub readings_json : List Reading → List ℕ
readings_json readings = compact (array (reading_items readings))
