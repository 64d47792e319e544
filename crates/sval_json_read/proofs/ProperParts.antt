-- What a pointer references in a proper value is a proper value.
use Rattle.std.specs.Prelude.{◌≡◌, ℕ, zero, suc, Bool, true, false, cond, ◌==◌, List, [], ◌∷◌, ◌++◌, slice_get, Option, Some, None, option_and_then, Ok, refl}
use Rattle.std.specs.Str.{bytes_eq}
use Rattle.std.specs.Option.{option_or}
use Rattle.std.proofs.Common.{subst}
use Rattle.sval_core.specs.Real.{IsReal}
use Rattle.sval_json.specs.Json.{Json}
use Rattle.sval_json.specs.Shape.{json_of}
use Rattle.sval_json.specs.Grammar as json
use Rattle.sval_json.specs.Grammar.{JsonValue, Values, no_values, a_value, Members, no_members, a_member, Denotes}
use Rattle.sval_json.specs.Promises.{KeepsPromises}
use Rattle.sval_json.specs.Laws.{IsTheValueOf}
use Rattle.sval_json_read.specs.Trees.{tree_of, settled}
use Rattle.sval_json_read.specs.Lookups.{values_listed, paired}
use Rattle.sval_json_read.specs.Pointers.{reference_token, last_referenced, array_index, referenced, evaluated, pointed}
use Rattle.sval_json_read.proofs.Utf8Texts.{IsProper, AreProper, PairsAreProper, denoted-proper}
use Rattle.sval_json_read.proofs.SettledTrees.{proper-real, proper-settles}

same-value : {value part : JsonValue} → (let found : Option JsonValue = Some value in found) ≡ Some part → value ≡ part
same-value e = cc e

-- a value that is found is proper
abbrev FindsProper : Option JsonValue → Type 0
FindsProper found = (part : JsonValue) → found ≡ Some part → IsProper part

found-proper : (value : JsonValue) → IsProper value → FindsProper (Some value)
found-proper value p part e = subst IsProper (same-value e) p

none-found : FindsProper None
none-found part e = absurd (cc e)

item-proper : (row : Values) (index : ℕ) → AreProper row → FindsProper (slice_get (values_listed row) index)
item-proper no_values index p = none-found
item-proper (a_value value row) zero p = found-proper value p.0
item-proper (a_value value row) (suc index) p = item-proper row index p.1

last-proper : (token : List ℕ) (row : Members) → PairsAreProper row → FindsProper (last_referenced token (paired row))
last-proper token no_members p = none-found
last-proper token (a_member text value row) p = go (last_referenced token (paired row)) (bytes_eq (reference_token text) token) (last-proper token row p.2)
  where
    go : (behind : Option JsonValue) (named : Bool) → FindsProper behind → FindsProper (option_or behind (cond named (Some value) None))
    go (Some found) named h = h
    go None true h = found-proper value p.1
    go None false h = none-found

referenced-proper : (token : List ℕ) (value : JsonValue) → IsProper value → FindsProper (referenced token value)
referenced-proper token json.Null p = none-found
referenced-proper token (json.Truth b) p = none-found
referenced-proper token (json.Number text) p = none-found
referenced-proper token (json.Text text) p = none-found
referenced-proper token (json.Array row) p = go (array_index token)
  where
    go : (index : Option ℕ) → FindsProper (option_and_then (λ i. slice_get (values_listed row) i) index)
    go (Some index) = item-proper row index p
    go None = none-found
referenced-proper token (json.Object row) p = last-proper token row p

evaluated-proper : (token bytes : List ℕ) (value : JsonValue) → IsProper value → FindsProper (evaluated referenced token bytes value)
evaluated-proper token [] value p = referenced-proper token value p
evaluated-proper token (byte ∷ bytes) value p =
    go (byte == 47) (referenced token value) (referenced-proper token value p) (λ next h. evaluated-proper [] bytes next h) (evaluated-proper (token ++ (byte ∷ [])) bytes value p)
  where
    then-proper : (found : Option JsonValue) → FindsProper found → ((next : JsonValue) → IsProper next → FindsProper (evaluated referenced [] bytes next)) → FindsProper (option_and_then (evaluated referenced [] bytes) found)
    then-proper (Some next) h behind = behind next (h next refl)
    then-proper None h behind = none-found

    go : (slash : Bool) (found : Option JsonValue) → FindsProper found → ((next : JsonValue) → IsProper next → FindsProper (evaluated referenced [] bytes next))
        → FindsProper (evaluated referenced (token ++ (byte ∷ [])) bytes value)
        → FindsProper (cond slash (option_and_then (evaluated referenced [] bytes) found) (evaluated referenced (token ++ (byte ∷ [])) bytes value))
    go true found h behind within = then-proper found h behind
    go false found h behind within = within

pointed-proper : (pointer : List ℕ) (value : JsonValue) → IsProper value → FindsProper (pointed pointer value)
pointed-proper [] value p = found-proper value p
pointed-proper (byte ∷ bytes) value p = go (byte == 47) (evaluated-proper [] bytes value p)
  where
    go : (slash : Bool) → FindsProper (evaluated referenced [] bytes value) → FindsProper (cond slash (evaluated referenced [] bytes value) None)
    go true h = h
    go false h = none-found

-- ---- in a value that some bytes denote

pub pointed-real : (bytes pointer : List ℕ) (value part : JsonValue) → Denotes bytes value → pointed pointer value ≡ Some part → IsReal (tree_of part) × KeepsPromises (tree_of part)
pointed-real bytes pointer value part d e = proper-real part (pointed-proper pointer value (denoted-proper d) part e)

pub pointed-settles : (bytes pointer : List ℕ) (value part : JsonValue) → Denotes bytes value → pointed pointer value ≡ Some part
    → (json : Json) × (json_of (tree_of part) ≡ Ok json) × IsTheValueOf json (settled part)
pointed-settles bytes pointer value part d e = proper-settles part (pointed-proper pointer value (denoted-proper d) part e)
