-- What is written of arrays and maps as they are read.
use Rattle.std.specs.Prelude.{◌≡◌, ℕ, suc, ◌+◌, ◌-◌, ◌<◌, ◌≤◌, ◌==◌, Bool, true, false, List, ◌∷◌, ◌++◌, length, drop, get_or, codes, refl}
use Rattle.std.proofs.Common.{sym, ap, subst, ◌∙◌, append_assoc, append-nil, arith}
use Rattle.std.proofs.lemmas.Bool.Decides.{nat_tests}
use Rattle.sval_label.specs.Calls.{Seq, Map, Item, Key, Value}
use Rattle.sval_core.specs.Trees as tree
use Rattle.sval_core.specs.Trees.{Tree, Parts, none, part}
use Rattle.sval_json.specs.declared.style.Variants.TheVariants.{Inside}
use Rattle.sval_json.specs.Json as json
use Rattle.sval_json.specs.Json.{Json, comma, compact, compact_items, compact_pairs, key_text}
use Rattle.sval_json.specs.Shape.{items, pairs, map_ok, on_ok}
use Rattle.sval_json.specs.Shape as shaping
use Rattle.sval_cbor_read.specs.declared.head.Head.{Head}
use Rattle.sval_cbor_read.specs.Items.{IsItem, IsBody, AreItems, AreEntries, ItemsToBreak, EntriesToBreak, seq, map, seq_to_break, map_to_break, no_items, an_item, no_pairs, a_pair, items_end, items_go_on, entries_end, entries_go_on}
use Rattle.sval_cbor_read.specs.ItemJson.{BodyAt, ItemAt, PairAt, ItemsAt, PairsAt}
use Rattle.sval_cbor_read.proofs.Bignums.{bytes_at}

-- ---- items

-- where none is left
pub items_done : {Are : List ℕ → Parts → List ℕ → Type 0} (first : Bool) (bytes rest out : List ℕ) → Are bytes none rest → ItemsAt Are first bytes rest out out
items_done first bytes rest out are = record { parts = none; are = are; shaped = json.no_item; shape_is = refl; written = sym (append-nil out) }

-- an item and its comma, behind what was written
behind_comma : (old first value items : List ℕ) → ((old ++ first) ++ value) ++ items ≡ old ++ ((first ++ value) ++ items)
behind_comma old first value items = ap (λ x. x ++ items) (append_assoc old first value) ∙ append_assoc old (first ++ value) items

-- one item more
pub item_then : {Are Others : List ℕ → Parts → List ℕ → Type 0} (first : Bool) (bytes : List ℕ) (at next : ℕ) (rest old mid new : List ℕ)
    → ((t : Tree) (parts : Parts) → IsItem (drop at bytes) t (drop next bytes) → Others (drop next bytes) parts rest → Are (drop at bytes) (part Item t parts) rest)
    → ItemAt bytes at next (old ++ comma first) mid → ItemsAt Others false (drop next bytes) rest mid new → ItemsAt Are first (drop at bytes) rest old new
item_then first bytes at next rest old mid new more i m = record {
  parts = part Item i.tree m.parts;
  are = more i.tree m.parts i.item m.are;
  shaped = json.item i.json m.shaped;
  shape_is = ap (λ r. on_ok r (λ j. map_ok (json.item j) (items Inside m.parts))) i.shape_is ∙ ap (map_ok (json.item i.json)) m.shape_is;
  written = m.written ∙ ap (λ x. x ++ compact_items false m.shaped) i.written ∙ behind_comma old (comma first) (compact i.json) (compact_items false m.shaped);
}

pub in_brackets : (old items : List ℕ) → ((old ++ codes "[") ++ items) ++ codes "]" ≡ old ++ (codes "[" ++ (items ++ codes "]"))
in_brackets old items = append_assoc (old ++ codes "[") items (codes "]") ∙ append_assoc old (codes "[") (items ++ codes "]")

-- a number that some number comes before isn't the first
pub not_first : (n : ℕ) → (n + 1 == 0) ≡ false
not_first n = grind (arith, nat_tests)

-- ---- pairs

pub pairs_done : {Are : List ℕ → Parts → List ℕ → Type 0} (first : Bool) (bytes rest out : List ℕ) → Are bytes none rest → PairsAt Are first bytes rest out out
pairs_done first bytes rest out are = record { parts = none; are = are; shaped = json.no_pair; shape_is = refl; written = sym (append-nil out) }

behind_key : (old first key value pairs : List ℕ) → (((old ++ first) ++ (key ++ codes ":")) ++ value) ++ pairs ≡ old ++ ((((first ++ key) ++ codes ":") ++ value) ++ pairs)
behind_key old first key value pairs =
    ap (λ x. (x ++ value) ++ pairs) (sym (append_assoc (old ++ first) key (codes ":")) ∙ ap (λ x. x ++ codes ":") (append_assoc old first key) ∙ append_assoc old (first ++ key) (codes ":"))
    ∙ ap (λ x. x ++ pairs) (append_assoc old ((first ++ key) ++ codes ":") value) ∙ append_assoc old (((first ++ key) ++ codes ":") ++ value) pairs

pub pair_then : {Are Others : List ℕ → Parts → List ℕ → Type 0} (first : Bool) (bytes : List ℕ) (at next : ℕ) (rest old mid new : List ℕ)
    → ((k t : Tree) (between : List ℕ) (parts : Parts) → IsItem (drop at bytes) k between → IsItem between t (drop next bytes) → Others (drop next bytes) parts rest
    → Are (drop at bytes) (part Key k (part Value t parts)) rest)
    → PairAt bytes at next (old ++ comma first) mid → PairsAt Others false (drop next bytes) rest mid new → PairsAt Are first (drop at bytes) rest old new
pair_then first bytes at next rest old mid new more p m =
    let k = p.key in
    let v = p.value in
    record {
      parts = part Key k.tree (part Value v.tree m.parts);
      are = more k.tree v.tree (drop p.between bytes) m.parts k.item v.item m.are;
      shaped = json.pair k.key v.json m.shaped;
      shape_is =
          ap (λ r. on_ok r (λ key. on_ok (shaping.shape Inside v.tree false) (λ j. map_ok (json.pair key j) (pairs Inside m.parts)))) k.key_is
          ∙ ap (λ r. on_ok r (λ j. map_ok (json.pair k.key j) (pairs Inside m.parts))) v.shape_is
          ∙ ap (map_ok (json.pair k.key v.json)) m.shape_is;
      written =
          m.written ∙ ap (λ x. x ++ compact_pairs false m.shaped) (v.written ∙ ap (λ x. x ++ compact v.json) k.written)
          ∙ behind_key old (comma first) (key_text k.key) (compact v.json) (compact_pairs false m.shaped);
    }

in_braces : (old pairs : List ℕ) → ((old ++ codes "{") ++ pairs) ++ codes "}" ≡ old ++ (codes "{" ++ (pairs ++ codes "}"))
in_braces old pairs = append_assoc (old ++ codes "{") pairs (codes "}") ∙ append_assoc old (codes "{") (pairs ++ codes "}")

-- ---- arrays and maps of a definite length

-- so many are left where a number of them was read
left_after : (n k : ℕ) → k < n → n - k ≡ suc (n - (k + 1))
left_after n k below = omega (arith, below)

module _ (n k : ℕ) (bytes : List ℕ) (from at next : ℕ) (old now then : List ℕ) (below : k < n) where
  -- with the items that are left all items are read
  pub one_item_more : ((rest new : List ℕ) → ItemsAt (AreItems (n - k)) (k == 0) (drop at bytes) rest now new → ItemsAt (AreItems n) true (drop from bytes) rest old new) → ItemAt bytes at next (now ++ comma (k == 0)) then
      → (rest new : List ℕ) → ItemsAt (AreItems (n - (k + 1))) (k + 1 == 0) (drop next bytes) rest then new → ItemsAt (AreItems n) true (drop from bytes) rest old new
  one_item_more all i rest new m =
      let others = subst (λ b. ItemsAt (AreItems (n - (k + 1))) b (drop next bytes) rest then new) (not_first k) m in
      let here : ItemsAt (AreItems (suc (n - (k + 1)))) (k == 0) (drop at bytes) rest now new = item_then (k == 0) bytes at next rest now then new (λ t parts item are. an_item item are) i others in
      all rest new (subst (λ left. ItemsAt (AreItems left) (k == 0) (drop at bytes) rest now new) (sym (left_after n k below)) here)

  pub one_pair_more : ((rest new : List ℕ) → PairsAt (AreEntries (n - k)) (k == 0) (drop at bytes) rest now new → PairsAt (AreEntries n) true (drop from bytes) rest old new) → PairAt bytes at next (now ++ comma (k == 0)) then
      → (rest new : List ℕ) → PairsAt (AreEntries (n - (k + 1))) (k + 1 == 0) (drop next bytes) rest then new → PairsAt (AreEntries n) true (drop from bytes) rest old new
  one_pair_more all p rest new m =
      let others = subst (λ b. PairsAt (AreEntries (n - (k + 1))) b (drop next bytes) rest then new) (not_first k) m in
      let here : PairsAt (AreEntries (suc (n - (k + 1)))) (k == 0) (drop at bytes) rest now new = pair_then (k == 0) bytes at next rest now then new (λ k t between parts key value are. a_pair key value are) p others in
      all rest new (subst (λ left. PairsAt (AreEntries left) (k == 0) (drop at bytes) rest now new) (sym (left_after n k below)) here)

module _ (bytes : List ℕ) (h : Head) (next : ℕ) {old opened closed new : List ℕ} (later : h.next ≤ next) (within : next ≤ length bytes) where
  pub array_body : h.major ≡ 4 → opened ≡ old ++ codes "[" → ItemsAt (AreItems h.number) true (drop h.next bytes) (drop next bytes) opened closed → new ≡ closed ++ codes "]" → BodyAt bytes h next old new
  array_body is opens all closes = record {
    tree = tree.Container Seq all.parts;
    body = subst (λ x. IsBody x h.number (drop h.next bytes) (tree.Container Seq all.parts) (drop next bytes)) (sym is) (seq all.are);
    later = later;
    within = within;
    json = json.array all.shaped;
    shape_is = ap (map_ok json.array) all.shape_is;
    written = closes ∙ ap (λ x. x ++ codes "]") (all.written ∙ ap (λ x. x ++ compact_items true all.shaped) opens) ∙ in_brackets old (compact_items true all.shaped);
  }

  pub map_body : h.major ≡ 5 → opened ≡ old ++ codes "{" → PairsAt (AreEntries h.number) true (drop h.next bytes) (drop next bytes) opened closed → new ≡ closed ++ codes "}" → BodyAt bytes h next old new
  map_body is opens all closes = record {
    tree = tree.Container Map all.parts;
    body = subst (λ x. IsBody x h.number (drop h.next bytes) (tree.Container Map all.parts) (drop next bytes)) (sym is) (map all.are);
    later = later;
    within = within;
    json = json.object all.shaped;
    shape_is = ap (map_ok json.object) all.shape_is;
    written = closes ∙ ap (λ x. x ++ codes "}") (all.written ∙ ap (λ x. x ++ compact_pairs true all.shaped) opens) ∙ in_braces old (compact_pairs true all.shaped);
  }

-- all are read where none is left
pub all_items : (n k : ℕ) (bytes : List ℕ) (from at : ℕ) (old now : List ℕ) → n ≤ k → ((rest new : List ℕ) → ItemsAt (AreItems (n - k)) (k == 0) (drop at bytes) rest now new → ItemsAt (AreItems n) true (drop from bytes) rest old new)
    → ItemsAt (AreItems n) true (drop from bytes) (drop at bytes) old now
all_items n k bytes from at old now past all =
    let over : 0 ≡ n - k = omega (arith, past) in
    all (drop at bytes) now (items_done (k == 0) (drop at bytes) (drop at bytes) now (subst (λ left. AreItems left (drop at bytes) none (drop at bytes)) over no_items))

pub all_pairs : (n k : ℕ) (bytes : List ℕ) (from at : ℕ) (old now : List ℕ) → n ≤ k → ((rest new : List ℕ) → PairsAt (AreEntries (n - k)) (k == 0) (drop at bytes) rest now new → PairsAt (AreEntries n) true (drop from bytes) rest old new)
    → PairsAt (AreEntries n) true (drop from bytes) (drop at bytes) old now
all_pairs n k bytes from at old now past all =
    let over : 0 ≡ n - k = omega (arith, past) in
    all (drop at bytes) now (pairs_done (k == 0) (drop at bytes) (drop at bytes) now (subst (λ left. AreEntries left (drop at bytes) none (drop at bytes)) over no_pairs))

-- ---- arrays and maps up to a break

-- what is behind a place isn't the first
later_than : (from next : ℕ) → from < next → (next == from) ≡ false
later_than from next behind = grind (arith, nat_tests)

-- the byte at a place, and those behind it
byte_at : (bytes : List ℕ) (at byte : ℕ) → at < length bytes → get_or bytes at 0 ≡ byte → drop at bytes ≡ byte ∷ drop (at + 1) bytes
byte_at bytes at byte within is = bytes_at bytes at within ∙ ap (λ x. x ∷ drop (at + 1) bytes) is

module _ (bytes : List ℕ) (from at next : ℕ) (old now then : List ℕ) (begun : from ≤ at) where
  pub one_item_on : ((rest new : List ℕ) → ItemsAt ItemsToBreak (at == from) (drop at bytes) rest now new → ItemsAt ItemsToBreak true (drop from bytes) rest old new) → ItemAt bytes at next (now ++ comma (at == from)) then
      → (rest new : List ℕ) → ItemsAt ItemsToBreak (next == from) (drop next bytes) rest then new → ItemsAt ItemsToBreak true (drop from bytes) rest old new
  one_item_on all i rest new m =
      let behind : from < next = let l = i.later in omega (arith, begun, l) in
      let others = subst (λ b. ItemsAt ItemsToBreak b (drop next bytes) rest then new) (later_than from next behind) m in
      all rest new (item_then (at == from) bytes at next rest now then new (λ t parts item are. items_go_on item are) i others)

  pub one_pair_on : ((rest new : List ℕ) → PairsAt EntriesToBreak (at == from) (drop at bytes) rest now new → PairsAt EntriesToBreak true (drop from bytes) rest old new) → PairAt bytes at next (now ++ comma (at == from)) then
      → (rest new : List ℕ) → PairsAt EntriesToBreak (next == from) (drop next bytes) rest then new → PairsAt EntriesToBreak true (drop from bytes) rest old new
  one_pair_on all p rest new m =
      let behind : from < next = let k = p.key.later in let v = p.value.later in omega (arith, begun, k, v) in
      let others = subst (λ b. PairsAt EntriesToBreak b (drop next bytes) rest then new) (later_than from next behind) m in
      all rest new (pair_then (at == from) bytes at next rest now then new (λ k t between parts key value are. entries_go_on key value are) p others)

module _ (bytes : List ℕ) (from at : ℕ) {old opened now new : List ℕ} (within : from < length bytes) (later : from + 1 ≤ at) (near : at < length bytes) (ends : get_or bytes at 0 ≡ 255) where
  pub array_broken : get_or bytes from 0 ≡ 159 → opened ≡ old ++ codes "[" → ((rest new : List ℕ) → ItemsAt ItemsToBreak (at == from + 1) (drop at bytes) rest now new → ItemsAt ItemsToBreak true (drop (from + 1) bytes) rest opened new)
      → new ≡ now ++ codes "]" → ItemAt bytes from (at + 1) old new
  array_broken is opens all closes =
      let rest = drop (at + 1) bytes in
      let end = subst (λ x. ItemsToBreak x none rest) (sym (byte_at bytes at 255 near ends)) items_end in
      let m = all rest now (items_done (at == from + 1) (drop at bytes) rest now end) in
      record {
        tree = tree.Container Seq m.parts;
        item = subst (λ x. IsItem x (tree.Container Seq m.parts) rest) (sym (byte_at bytes from 159 within is)) (seq_to_break m.are);
        later = omega (arith, later);
        within = omega (arith, near);
        json = json.array m.shaped;
        shape_is = ap (map_ok json.array) m.shape_is;
        written = closes ∙ ap (λ x. x ++ codes "]") (m.written ∙ ap (λ x. x ++ compact_items true m.shaped) opens) ∙ in_brackets old (compact_items true m.shaped);
      }

  pub map_broken : get_or bytes from 0 ≡ 191 → opened ≡ old ++ codes "{" → ((rest new : List ℕ) → PairsAt EntriesToBreak (at == from + 1) (drop at bytes) rest now new → PairsAt EntriesToBreak true (drop (from + 1) bytes) rest opened new)
      → new ≡ now ++ codes "}" → ItemAt bytes from (at + 1) old new
  map_broken is opens all closes =
      let rest = drop (at + 1) bytes in
      let end = subst (λ x. EntriesToBreak x none rest) (sym (byte_at bytes at 255 near ends)) entries_end in
      let m = all rest now (pairs_done (at == from + 1) (drop at bytes) rest now end) in
      record {
        tree = tree.Container Map m.parts;
        item = subst (λ x. IsItem x (tree.Container Map m.parts) rest) (sym (byte_at bytes from 191 within is)) (map_to_break m.are);
        later = omega (arith, later);
        within = omega (arith, near);
        json = json.object m.shaped;
        shape_is = ap (map_ok json.object) m.shape_is;
        written = closes ∙ ap (λ x. x ++ codes "}") (m.written ∙ ap (λ x. x ++ compact_pairs true m.shaped) opens) ∙ in_braces old (compact_pairs true m.shaped);
      }
