-- What is left of a document of JSON has a JSON.
use Rattle.std.specs.Prelude.{◌≡◌, ℕ, Bool, true, false, cond, List, Some, Result, Ok, Err, refl}
use Rattle.std.proofs.Common.{ap, ◌∙◌}
use Rattle.sval_label.specs.Calls.{I64}
use Rattle.sval_core.specs.Trees.{Tree, Text, Parts}
use Rattle.sval_json.specs.Grammar as json
use Rattle.sval_json.specs.Grammar.{JsonValue, Values, no_values, a_value, Members, no_members, a_member, Denotes}
use Rattle.sval_json.specs.Json as shape
use Rattle.sval_json.specs.Json.{Json, Items, item, Pairs, pair, escaped_key}
use Rattle.sval_json.specs.Number.{Refusal}
use Rattle.sval_json.specs.Shape.{on_ok, map_ok, json_of, items, pairs}
use Rattle.sval_json.specs.declared.style.Variants.TheVariants.{Inside}
use Rattle.sval_filter.specs.Paths.{Path, Fate, LeftOut, Stays, Within, fate_of}
use Rattle.sval_filter.specs.declared.paths.Rule.{Rule}
use Rattle.sval_filter.specs.Pruned.{pruned, pruned_parts, placed_entry}
use Rattle.sval_json_read.specs.Trees.{fits_i64, whole_value, number_name, number_tree, tree_of, items_of, entries_of}
use Rattle.sval_json_read.proofs.SettledTrees.{denoted-settles}

abbrev pub HasJson : Tree → Type 0
HasJson tree = (found : Json) × (json_of tree ≡ Ok found)

abbrev HaveItems : Parts → Type 0
HaveItems parts = (row : Items) × (items Inside parts ≡ Ok row)

abbrev HavePairs : Parts → Type 0
HavePairs parts = (row : Pairs) × (pairs Inside parts ≡ Ok row)

-- ---- both of two are there where they are joined

array_parts : (s : Result Items Refusal) (found : Json) → map_ok shape.array s ≡ Ok found → (row : Items) × (s ≡ Ok row)
array_parts (Ok row) found e = (row, refl)
array_parts (Err why) found e = absurd (cc e)

object_parts : (s : Result Pairs Refusal) (found : Json) → map_ok shape.object s ≡ Ok found → (row : Pairs) × (s ≡ Ok row)
object_parts (Ok row) found e = (row, refl)
object_parts (Err why) found e = absurd (cc e)

item_parts : (r : Result Json Refusal) (s : Result Items Refusal) (all : Items) → on_ok r (λ x. map_ok (item x) s) ≡ Ok all
    → ((found : Json) × (r ≡ Ok found)) × ((row : Items) × (s ≡ Ok row))
item_parts (Ok found) (Ok row) all e = ((found, refl), (row, refl))
item_parts (Ok found) (Err why) all e = absurd (cc e)
item_parts (Err why) s all e = absurd (cc e)

pair_parts : (text : List ℕ) (r : Result Json Refusal) (s : Result Pairs Refusal) (all : Pairs) → on_ok r (λ x. map_ok (pair (escaped_key text) x) s) ≡ Ok all
    → ((found : Json) × (r ≡ Ok found)) × ((row : Pairs) × (s ≡ Ok row))
pair_parts text (Ok found) (Ok row) all e = ((found, refl), (row, refl))
pair_parts text (Ok found) (Err why) all e = absurd (cc e)
pair_parts text (Err why) s all e = absurd (cc e)

-- ---- and are joined where they are there

one_item : (r : Result Json Refusal) (s : Result Items Refusal) (found : Json) (row : Items) → r ≡ Ok found → s ≡ Ok row → on_ok r (λ x. map_ok (item x) s) ≡ Ok (item found row)
one_item r s found row e f = ap (λ o. on_ok o (λ x. map_ok (item x) s)) e ∙ ap (map_ok (item found)) f

one_pair : (text : List ℕ) (r : Result Json Refusal) (s : Result Pairs Refusal) (found : Json) (row : Pairs) → r ≡ Ok found → s ≡ Ok row
    → on_ok r (λ x. map_ok (pair (escaped_key text) x) s) ≡ Ok (pair (escaped_key text) found row)
one_pair text r s found row e f = ap (λ o. on_ok o (λ x. map_ok (pair (escaped_key text) x) s)) e ∙ ap (map_ok (pair (escaped_key text) found)) f

with_entry : (text : List ℕ) (value : Tree) (rest : Parts) → HasJson value → HavePairs rest
    → (row : Pairs) × (on_ok (json_of value) (λ x. map_ok (pair (escaped_key text) x) (pairs Inside rest)) ≡ Ok row)
with_entry text value rest h r = (pair (escaped_key text) h.0 r.0, one_pair text (json_of value) (pairs Inside rest) h.0 r.0 h.1 r.1)

left_entry : (fate : Fate) (text : List ℕ) (value : Tree) (prune : List Path → Tree) (rest : Parts) → HasJson value → ((rests : List Path) → HasJson (prune rests)) → HavePairs rest
    → HavePairs (placed_entry fate (Text text) value prune rest)
left_entry LeftOut text value prune rest h p r = r
left_entry Stays text value prune rest h p r = with_entry text value rest h r
left_entry (Within paths) text value prune rest h p r = with_entry text (prune paths) rest (p paths) r

-- ---- values

left_number : (rule : Rule) (paths : List Path) (text : List ℕ) → HasJson (number_tree text) → HasJson (pruned rule paths (number_tree text))
left_number rule paths text = go (fits_i64 text)
  where
    go : (b : Bool) → HasJson (cond b (Tree.Int I64 (whole_value text)) (Tree.Tagged number_name (Text text)))
        → HasJson (pruned rule paths (cond b (Tree.Int I64 (whole_value text)) (Tree.Tagged number_name (Text text))))
    go true h = h
    go false h = h

mutual
  left_value : (rule : Rule) (paths : List Path) (v : JsonValue) → HasJson (tree_of v) → HasJson (pruned rule paths (tree_of v))
  left_value rule paths json.Null h = h
  left_value rule paths (json.Truth b) h = h
  left_value rule paths (json.Number text) h = left_number rule paths text h
  left_value rule paths (json.Text text) h = h
  left_value rule paths (json.Array row) h =
      let l = left_items rule paths row (array_parts (items Inside (items_of row)) h.0 h.1) in (shape.array l.0, ap (map_ok shape.array) l.1)
  left_value rule paths (json.Object row) h =
      let l = left_pairs rule paths row (object_parts (pairs Inside (entries_of row)) h.0 h.1) in (shape.object l.0, ap (map_ok shape.object) l.1)

  left_items : (rule : Rule) (paths : List Path) (row : Values) → HaveItems (items_of row) → HaveItems (pruned_parts rule paths (items_of row))
  left_items rule paths no_values h = h
  left_items rule paths (a_value v row) h =
      let p = item_parts (json_of (tree_of v)) (items Inside (items_of row)) h.0 h.1 in
      let l = left_value rule paths v p.0 in
      let m = left_items rule paths row p.1 in
      (item l.0 m.0, one_item (json_of (pruned rule paths (tree_of v))) (items Inside (pruned_parts rule paths (items_of row))) l.0 m.0 l.1 m.1)

  left_pairs : (rule : Rule) (paths : List Path) (row : Members) → HavePairs (entries_of row) → HavePairs (pruned_parts rule paths (entries_of row))
  left_pairs rule paths no_members h = h
  left_pairs rule paths (a_member text v row) h =
      let p = pair_parts text (json_of (tree_of v)) (pairs Inside (entries_of row)) h.0 h.1 in
      left_entry (fate_of rule paths (Some text)) text (tree_of v) (λ rests. pruned rule rests (tree_of v)) (pruned_parts rule paths (entries_of row)) p.0
      (λ rests. left_value rule rests v p.0) (left_pairs rule paths row p.1)

-- whatever is left of a document has a JSON
pub left_has_json : {bytes : List ℕ} {v : JsonValue} (rule : Rule) (paths : List Path) → Denotes bytes v → HasJson (pruned rule paths (tree_of v))
left_has_json {bytes} {v} rule paths d = let s = denoted-settles d in left_value rule paths v (s.0, s.1)
