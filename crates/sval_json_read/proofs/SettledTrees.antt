-- The tree of a value is real, and its text denotes the settled value.
use Rattle.std.specs.Prelude.{◌≡◌, ℕ, Bool, true, false, cond, if◌then◌else◌, List, Result, Ok, refl}
use Rattle.std.specs.Fmt.{signed_decimal}
use Rattle.std.proofs.Common.{sym, ap, subst, ◌∙◌}
use Rattle.std.proofs.lemmas.Bool.{and_parts}
use Rattle.sval_label.specs.Calls.{I64}
use Rattle.sval_label.specs.Ranges.{is_of_type}
use Rattle.sval_core.specs.Trees.{Tree, Text}
use Rattle.sval_core.specs.Real.{IsInRange, AreInRange, IsReal}
use Rattle.sval_json.specs.Json as shape
use Rattle.sval_json.specs.Json.{Json, Items, no_item, item, Pairs, no_pair, pair, escaped_key}
use Rattle.sval_json.specs.Number.{Refusal}
use Rattle.sval_json.specs.declared.style.Variants.TheVariants.{Inside}
use Rattle.sval_json.specs.Shape.{on_ok, map_ok, json_of, items, pairs}
use Rattle.sval_json.specs.Shape as writes
use Rattle.sval_json.specs.Grammar as json
use Rattle.sval_json.specs.Digits.{is_json_number}
use Rattle.sval_json.specs.Grammar.{JsonValue, Values, no_values, a_value, Members, no_members, a_member, Denotes}
use Rattle.sval_json.specs.Means.{Means, null, truth, number, escaped_text, raw, array, object, MeanItems, no_more_items, one_item, MeanPairs, no_more_pairs, one_pair, plain_key}
use Rattle.sval_json.specs.Promises.{KeepsPromises, KeepPromises}
use Rattle.sval_json.specs.Laws.{IsTheValueOf}
use Rattle.sval_json.proofs.NumberGrammar.{tested_number}
use Rattle.sval_json.proofs.NumberTexts.{number_utf8, number_denotes}
use Rattle.sval_json.proofs.Meaning.{text_means}
use Rattle.sval_json_read.specs.Trees.{has_no_fraction, whole_value, fits_i64, number_name, number_tree, tree_of, items_of, entries_of, settled_number, settled, settled_values, settled_members}
use Rattle.sval_json_read.proofs.SpelledTrees.{good}
use Rattle.sval_json_read.proofs.Utf8Texts.{IsProper, AreProper, PairsAreProper, denoted-proper}
use Rattle.sval_json_read.proofs.SettledNumbers.{fits-written, other-normal, other-settled}

-- ---- real trees that keep their promises

number_in_range : (text : List ℕ) → is_json_number text ≡ true → IsInRange (number_tree text)
number_in_range text h = go (fits_i64 text) refl
  where
    go : (b : Bool) → fits_i64 text ≡ b → IsInRange (cond b (Tree.Int I64 (whole_value text)) (Tree.Tagged number_name (Text text)))
    go true e = (and_parts (has_no_fraction text) (is_of_type I64 (whole_value text)) e).1
    go false e = ((tt, tt), number_utf8 text (tested_number text h))

mutual
  in_range : (v : JsonValue) → IsProper v → IsInRange (tree_of v)
  in_range json.Null p = tt
  in_range (json.Truth b) p = tt
  in_range (json.Number text) p = number_in_range text p
  in_range (json.Text text) p = p
  in_range (json.Array row) p = ((tt, tt), items_in_range row p)
  in_range (json.Object row) p = ((tt, tt), entries_in_range row p)

  items_in_range : (row : Values) → AreProper row → AreInRange (items_of row)
  items_in_range no_values p = tt
  items_in_range (a_value v row) p = (tt, in_range v p.0, items_in_range row p.1)

  entries_in_range : (row : Members) → PairsAreProper row → AreInRange (entries_of row)
  entries_in_range no_members p = tt
  entries_in_range (a_member text v row) p = (tt, p.0, (tt, in_range v p.1, entries_in_range row p.2))

number_promise : (text : List ℕ) → KeepsPromises (number_tree text)
number_promise text = go (fits_i64 text)
  where
    go : (b : Bool) → KeepsPromises (cond b (Tree.Int I64 (whole_value text)) (Tree.Tagged number_name (Text text)))
    go true = tt
    go false = (tt, tt)

mutual
  promises : (v : JsonValue) → KeepsPromises (tree_of v)
  promises json.Null = tt
  promises (json.Truth b) = tt
  promises (json.Number text) = number_promise text
  promises (json.Text text) = tt
  promises (json.Array row) = items_promise row
  promises (json.Object row) = entries_promise row

  items_promise : (row : Values) → KeepPromises (items_of row)
  items_promise no_values = tt
  items_promise (a_value v row) = (tt, promises v, items_promise row)

  entries_promise : (row : Members) → KeepPromises (entries_of row)
  entries_promise no_members = tt
  entries_promise (a_member text v row) = (tt, tt, (tt, promises v, entries_promise row))

-- ---- what is written

abbrev pub number_json : List ℕ → Json
number_json text = if fits_i64 text then shape.number (signed_decimal (whole_value text)) else shape.raw text

abbrev mutual
  pub written : JsonValue → Json
  written json.Null = shape.null
  written (json.Truth b) = shape.truth b
  written (json.Number text) = number_json text
  written (json.Text text) = shape.text text
  written (json.Array row) = shape.array (written_items row)
  written (json.Object row) = shape.object (written_pairs row)

  pub written_items : Values → Items
  written_items no_values = no_item
  written_items (a_value v row) = item (written v) (written_items row)

  pub written_pairs : Members → Pairs
  written_pairs no_members = no_pair
  written_pairs (a_member text v row) = pair (escaped_key text) (written v) (written_pairs row)

ok_raw : {text : List ℕ} (r : Result (List ℕ) Refusal) → r ≡ Ok text → map_ok shape.raw r ≡ Ok (shape.raw text)
ok_raw r e = ap (map_ok shape.raw) e

number_shape : (text : List ℕ) → is_json_number text ≡ true → json_of (number_tree text) ≡ Ok (number_json text)
number_shape text h = go (fits_i64 text) refl
  where
    go : (b : Bool) → fits_i64 text ≡ b → json_of (cond b (Tree.Int I64 (whole_value text)) (Tree.Tagged number_name (Text text)))
        ≡ Ok (cond b (shape.number (signed_decimal (whole_value text))) (shape.raw text))
    go true e = refl
    go false e = ap (λ r. map_ok (writes.wrap Inside false number_name) (map_ok shape.raw r)) (other-normal text h e)

ok_array : (r : Result Items Refusal) (row : Items) → r ≡ Ok row → map_ok shape.array r ≡ Ok (shape.array row)
ok_array r row e = ap (map_ok shape.array) e

ok_object : (r : Result Pairs Refusal) (row : Pairs) → r ≡ Ok row → map_ok shape.object r ≡ Ok (shape.object row)
ok_object r row e = ap (map_ok shape.object) e

ok_item : (r : Result Json Refusal) (s : Result Items Refusal) (j : Json) (row : Items) → r ≡ Ok j → s ≡ Ok row → on_ok r (λ x. map_ok (item x) s) ≡ Ok (item j row)
ok_item r s j row e f = ap (λ o. on_ok o (λ x. map_ok (item x) s)) e ∙ ap (map_ok (item j)) f

ok_pair : (text : List ℕ) (r : Result Json Refusal) (s : Result Pairs Refusal) (j : Json) (row : Pairs) → r ≡ Ok j → s ≡ Ok row
    → on_ok r (λ x. map_ok (pair (escaped_key text) x) s) ≡ Ok (pair (escaped_key text) j row)
ok_pair text r s j row e f = ap (λ o. on_ok o (λ x. map_ok (pair (escaped_key text) x) s)) e ∙ ap (map_ok (pair (escaped_key text) j)) f

mutual
  pub shaped : (v : JsonValue) → IsProper v → json_of (tree_of v) ≡ Ok (written v)
  shaped json.Null p = refl
  shaped (json.Truth b) p = refl
  shaped (json.Number text) p = number_shape text p
  shaped (json.Text text) p = refl
  shaped (json.Array row) p = ok_array (items Inside (items_of row)) (written_items row) (items_shaped row p)
  shaped (json.Object row) p = ok_object (pairs Inside (entries_of row)) (written_pairs row) (pairs_shaped row p)

  items_shaped : (row : Values) → AreProper row → items Inside (items_of row) ≡ Ok (written_items row)
  items_shaped no_values p = refl
  items_shaped (a_value v row) p = ok_item (json_of (tree_of v)) (items Inside (items_of row)) (written v) (written_items row) (shaped v p.0) (items_shaped row p.1)

  pairs_shaped : (row : Members) → PairsAreProper row → pairs Inside (entries_of row) ≡ Ok (written_pairs row)
  pairs_shaped no_members p = refl
  pairs_shaped (a_member text v row) p = ok_pair text (json_of (tree_of v)) (pairs Inside (entries_of row)) (written v) (written_pairs row) (shaped v p.1) (pairs_shaped row p.2)

-- ---- and what it means

number_means : (text : List ℕ) → is_json_number text ≡ true → Means (number_json text) (json.Number (settled_number text))
number_means text h = go (fits_i64 text) refl
  where
    go : (b : Bool) → fits_i64 text ≡ b → Means (cond b (shape.number (signed_decimal (whole_value text))) (shape.raw text)) (json.Number (settled_number text))
    go true e = subst (λ x. Means (shape.number (signed_decimal (whole_value text))) (json.Number x)) (fits-written text h e) number
    go false e = subst (λ x. Means (shape.raw text) (json.Number x)) (sym (other-settled text e)) (raw (number_denotes text (tested_number text h)))

mutual
  means : (v : JsonValue) → IsProper v → Means (written v) (settled v)
  means json.Null p = null
  means (json.Truth b) p = truth
  means (json.Number text) p = number_means text p
  means (json.Text text) p = escaped_text
  means (json.Array row) p = array (items_mean row p)
  means (json.Object row) p = object (pairs_mean row p)

  items_mean : (row : Values) → AreProper row → MeanItems (written_items row) (settled_values row)
  items_mean no_values p = no_more_items
  items_mean (a_value v row) p = one_item (means v p.0) (items_mean row p.1)

  pairs_mean : (row : Members) → PairsAreProper row → MeanPairs (written_pairs row) (settled_members row)
  pairs_mean no_members p = no_more_pairs
  pairs_mean (a_member text v row) p = one_pair plain_key (means v p.1) (pairs_mean row p.2)

-- ---- of a proper value

pub proper-real : (v : JsonValue) → IsProper v → IsReal (tree_of v) × KeepsPromises (tree_of v)
proper-real v p = ((good v, in_range v p), promises v)

pub proper-settles : (v : JsonValue) → IsProper v → (j : Json) × (json_of (tree_of v) ≡ Ok j) × IsTheValueOf j (settled v)
proper-settles v p =
    let r = proper-real v p in
    let e = shaped v p in
    let t = text_means Inside (tree_of v) (written v) r.0 r.1 e in
    (written v, e, subst (λ x. IsTheValueOf (written v) x) (t.1.means_only (settled v) (means v p)) t.1)

-- ---- of a value that some bytes denote

pub denoted-real : {bytes : List ℕ} {v : JsonValue} → Denotes bytes v → IsReal (tree_of v) × KeepsPromises (tree_of v)
denoted-real {v = v} d = proper-real v (denoted-proper d)

pub denoted-settles : {bytes : List ℕ} {v : JsonValue} → Denotes bytes v → (j : Json) × (json_of (tree_of v) ≡ Ok j) × IsTheValueOf j (settled v)
denoted-settles {v = v} d = proper-settles v (denoted-proper d)
