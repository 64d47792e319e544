-- The shape of readings in JSON.
use Rattle.std.specs.Prelude.{◌≡◌, false, List, [], ◌∷◌, Ok, refl}
use Rattle.sval_core.specs.ValueTrees.{item_parts}
use Rattle.sval_json.specs.Json.{array}
use Rattle.sval_json.specs.Shape.{shape, items, json_in}
use Rattle.sval_json.specs.declared.style.Variants.TheVariants.{Inside}
use Rattle.readings.specs.declared.Reading.{Reading}
use Rattle.readings.specs.declared.Reading.TheVariants.{Note, Measure}
use Rattle.readings.specs.Readings.{reading_tree, readings_tree}
use Rattle.readings.specs.Written.{reading_shape, reading_items}

reading_is : (reading : Reading) → shape Inside (reading_tree reading) false ≡ Ok (reading_shape reading)
reading_is (Note text) = refl
reading_is (Measure n) = refl

items_are : (readings : List Reading) → items Inside (item_parts reading_tree readings) ≡ Ok (reading_items readings)
items_are [] = refl
items_are (reading ∷ readings) = rw (reading_is reading, items_are readings) refl

pub shape_is : (readings : List Reading) → json_in Inside (readings_tree readings) ≡ Ok (array (reading_items readings))
shape_is readings = rw (items_are readings) refl
