-- Numbers that are told in pieces: the trees that they spell, and what is written of them.
use Rattle.std.specs.Prelude.{◌≡◌, ℕ, true, false, List, [], ◌∷◌, ◌++◌, codes, map, Some, None, Ok, Err, refl}
use Rattle.std.specs.Fmt.{digits}
use Rattle.std.specs.List.{concat}
use Rattle.std.proofs.Common.{ap}
use Rattle.sval_label.specs.Calls.{Call}
use Rattle.sval_core.specs.Trees.{Tree, Text, Tagged, Enum, calls_of}
use Rattle.sval_core.specs.Spells.{Spells, plain}
use Rattle.sval_json.specs.declared.style.Variants.TheVariants.{Inside}
use Rattle.sval_json.specs.Json.{compact}
use Rattle.sval_json.specs.Number.{InvalidNumber}
use Rattle.sval_json.specs.Shape.{map_ok, json_in}
use Rattle.sval_json.specs.Steps.{written_in}
use Rattle.sval_json.proofs.examples.Spelled.{ExampleText, ExampleRefusal, label, name, named, tagged_as, tagged_calls, tagged_tree}

-- ---- how a number in pieces is spelled

abbrev number_calls : List (List ℕ) → List Call
number_calls = tagged_calls (codes "NUMBER")

abbrev number_tree : List (List ℕ) → Tree
number_tree pieces = tagged_tree (codes "NUMBER") (concat pieces)

plain_pieces : (pieces : List (List ℕ)) (rest : List Call) → plain (map (Call.TextFragment true) pieces ++ rest) ≡ map (Call.TextFragment false) pieces ++ plain rest
plain_pieces [] rest = refl
plain_pieces (piece ∷ pieces) rest = ap (λ calls. Call.TextFragment false piece ∷ calls) (plain_pieces pieces rest)

number_spelled : (pieces : List (List ℕ)) → Spells (number_calls pieces) (number_tree pieces)
number_spelled pieces =
    ((refl, tt, tt), (_, refl, (None, pieces, tt, refl, ap (λ calls. Call.TextBegin None ∷ calls) (plain_pieces pieces (Call.TextEnd ∷ Call.TaggedEnd (tagged_as (codes "NUMBER")) ∷ [])))))

-- a number in these pieces is written so
record WritesNumber (pieces : List (List ℕ)) (text : List ℕ) : Type 0 where
  is : ExampleText Inside (number_calls pieces) (number_tree pieces) text

-- it is none, and these bytes are written before it is refused
record RefusesNumber (pieces : List (List ℕ)) (bytes : List ℕ) : Type 0 where
  is : ExampleRefusal Inside (number_calls pieces) (number_tree pieces) InvalidNumber bytes

number : {pieces : List (List ℕ)} {text : List ℕ} → map_ok compact (json_in Inside (number_tree pieces)) ≡ Ok text → (written_in Inside (number_calls pieces)).written ≡ text
    → (written_in Inside (number_calls pieces)).refusal ≡ None → WritesNumber pieces text
number {pieces} e f g = record { is = record { spells = number_spelled pieces; json = e; written = f; refusal = g } }

no_number : {pieces : List (List ℕ)} {bytes : List ℕ} → map_ok compact (json_in Inside (number_tree pieces)) ≡ Err InvalidNumber → (written_in Inside (number_calls pieces)).written ≡ bytes
    → (written_in Inside (number_calls pieces)).refusal ≡ Some InvalidNumber → RefusesNumber pieces bytes
no_number {pieces} e f g = record { is = record { spells = number_spelled pieces; json = e; written = f; refusal = g } }

-- ---- some numbers, and what is none

numbers :
    WritesNumber (codes "-0" ∷ codes "01.5" ∷ codes "0e+3" ∷ []) (codes "-1.50e+3")
    × WritesNumber (codes "-" ∷ [] ∷ codes "0" ∷ codes "0" ∷ codes "e5" ∷ []) (codes "-0e5")
    × WritesNumber (codes "0e5" ∷ []) (codes "0e5")
    × WritesNumber (codes "-0" ∷ []) (codes "0")
    × WritesNumber (codes "-0.0" ∷ []) (codes "-0.0")
    × WritesNumber (codes "+007" ∷ []) (codes "7")
    × WritesNumber (codes "-inf" ∷ []) (codes "null")
unfolding digits
numbers = (number refl refl refl, number refl refl refl, number refl refl refl, number refl refl refl, number refl refl refl, number refl refl refl, number refl refl refl)

no_numbers :
    RefusesNumber (codes "1." ∷ []) (codes "1.")
    × RefusesNumber ([] ∷ []) []
    × RefusesNumber (codes "--1" ∷ []) []
    × RefusesNumber ((195 ∷ 169 ∷ 48 ∷ []) ∷ []) []
unfolding digits
no_numbers = (no_number refl refl refl, no_number refl refl refl, no_number refl refl refl, no_number refl refl refl)

-- ---- under a name, in an enum

abbrev named_number_in_enum_calls : List Call
named_number_in_enum_calls =
    Call.EnumBegin (named (codes "E"))
    ∷ Call.TaggedBegin (name (Some (codes "NUMBER")) (Some (label (codes "N") None)) None)
    ∷ Call.TextBegin (Some 2)
    ∷ Call.TextFragment true (codes "01")
    ∷ Call.TextEnd
    ∷ Call.TaggedEnd (name (Some (codes "NUMBER")) (Some (label (codes "N") None)) None)
    ∷ Call.EnumEnd (named (codes "E"))
    ∷ []

abbrev named_number_in_enum_tree : Tree
named_number_in_enum_tree = Enum (named (codes "E")) (Tagged (name (Some (codes "NUMBER")) (Some (label (codes "N") None)) None) (Text (codes "01")))

named_number_in_enum : ExampleText Inside named_number_in_enum_calls named_number_in_enum_tree (codes "{\"N\":1}")
unfolding digits
named_number_in_enum = record { spells = ((refl, tt, (refl, tt, tt)), (_, refl, (_, refl, ((Some 2), (codes "01") ∷ [], refl, refl, refl)))); json = refl; written = refl; refusal = refl }

-- the one list of calls that is printed of such a tree
number_in_pieces_canonical : calls_of (tagged_tree (codes "NUMBER") (codes "-001.50e+3"))
    ≡ Call.TaggedBegin (tagged_as (codes "NUMBER")) ∷ Call.TextBegin (Some 10) ∷ Call.TextFragment true (codes "-001.50e+3") ∷ Call.TextEnd ∷ Call.TaggedEnd (tagged_as (codes "NUMBER")) ∷ []
number_in_pieces_canonical = refl
