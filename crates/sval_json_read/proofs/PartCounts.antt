-- An array has at most as many items, and an object at most as many pairs, as nodes are kept of them.
use Rattle.std.specs.Prelude.{◌≡◌, ℕ, zero, suc, ◌-◌, ◌<◌, ◌≤◌, ◌≢◌, List, ◌∷◌, map, length, slice_get, refl}
use Rattle.std.proofs.Common.{ap, arith, length-append}
use Rattle.sval_json.specs.Grammar.{JsonValue, Values, Members, IsValue, null, truth, falsehood, number, string, empty_array, array, empty_object, object}
use Rattle.sval_json_read.specs.declared.node.Node.{Node}
use Rattle.sval_json_read.specs.Lookups.{values_listed, paired}
use Rattle.sval_json_read.specs.Tokens.{Place, Item, Value, Placed, tokens_of}
use Rattle.sval_json_read.specs.Nodes.{tokens_in}
use Rattle.sval_json_read.specs.SeenNodes.{seen_node}
use Rattle.sval_json_read.specs.SeenValues.{values_in, members_in}
use Rattle.sval_json_read.specs.ValueNodes.{IsOfValues, no_items, an_item, IsOfMembers, no_pairs, a_pair, AreOfValues, AreOfMembers}
use Rattle.sval_json_read.proofs.SeenValues.{values-seen, members-seen}
use Rattle.sval_json_read.proofs.InnerNodes.{tokens_length}

some_tokens : {bytes rest : List ℕ} {value : JsonValue} (place : Place) (is_value : IsValue bytes value rest) → 0 < length (tokens_of place is_value)
some_tokens place null = omega arith
some_tokens place truth = omega arith
some_tokens place falsehood = omega arith
some_tokens place (number e n) = omega arith
some_tokens place (string s) = omega arith
some_tokens place (empty_array e) = omega arith
some_tokens place (array are) = omega arith
some_tokens place (empty_object e) = omega arith
some_tokens place (object are) = omega arith

items_within : {tokens : List Placed} {values : Values} → IsOfValues tokens values → length (values_listed values) ≤ length tokens
items_within no_items = omega arith
items_within (an_item {tokens = tokens} is_value are) =
    let some = some_tokens Item is_value in
    let more = items_within are in
    let both = length-append (tokens_of Item is_value) tokens in
    omega (arith, some, more, both)

pairs_within : {tokens : List Placed} {members : Members} → IsOfMembers tokens members → length (paired members) ≤ length tokens
pairs_within no_pairs = omega arith
pairs_within (a_pair {tokens = tokens} key is_value are) =
    let more = pairs_within are in
    let both = length-append (tokens_of Value is_value) tokens in
    omega (arith, more, both)

pub items_fit : (bytes : List ℕ) (nodes : List Node) → AreOfValues bytes nodes → length (values_listed (values_in (tokens_in bytes (map seen_node nodes)))) ≤ length nodes
items_fit bytes nodes a =
    let seen = ap (λ values. length (values_listed values)) (values-seen a.are_of) in
    let within = items_within a.are_of in
    let tokens = tokens_length bytes nodes in
    omega (arith, seen, within, tokens)

pub pairs_fit : (bytes : List ℕ) (nodes : List Node) → AreOfMembers bytes nodes → length (paired (members_in (tokens_in bytes (map seen_node nodes)))) ≤ length nodes
pairs_fit bytes nodes a =
    let seen = ap (λ members. length (paired members)) (members-seen a.are_of) in
    let within = pairs_within a.are_of in
    let tokens = tokens_length bytes nodes in
    omega (arith, seen, within, tokens)

-- behind the first, each place is one less
pub behind_first : {A : Type 0} (one : A) (row : List A) (index : ℕ) → index ≢ 0 → slice_get (one ∷ row) index ≡ slice_get row (index - 1)
behind_first one row zero n = absurd (n refl)
behind_first one row (suc index) n = ap (slice_get row) (let e : index ≡ suc index - 1 = omega arith in e)
