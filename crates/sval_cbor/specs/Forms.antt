-- The program's words: there are none.
use Rattle.std.specs.Prelude.{ℕ, List, [], ◌∷◌, map, string_bytes, String, Option, Some, None}

-- no words ask for the CBOR of a script
abbrev pub cbor_form : List (List ℕ) → Option (Unit {0})
cbor_form [] = Some tt
cbor_form (word ∷ words) = None

-- the same of the program's words, which are those after its name
abbrev pub cbor_form_of : {A : Type 0} → List (String A) → Option (Unit {0})
cbor_form_of words = cbor_form (map string_bytes words)
