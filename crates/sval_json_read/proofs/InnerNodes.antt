-- What stands between the brackets of an array, or the braces of an object.
use Rattle.std.specs.Prelude.{◌≡◌, ℕ, zero, suc, ◌-◌, ◌<◌, ◌≤◌, List, [], ◌∷◌, ◌++◌, map, length, take, drop, get_or, refl, ⊤}
use Rattle.std.proofs.Common.{sym, ap, subst, ◌∙◌, arith, append-nil, length-append}
use Rattle.sval_json.specs.Grammar as json
use Rattle.sval_json.specs.Grammar.{JsonValue, Values, no_values, Members, no_members, IsValue, null, truth, falsehood, number, string, empty_array, array, empty_object, object, AreJsonValues, last_value, more_values, AreMembers, last_member, more_members}
use Rattle.sval_json_read.specs.declared.offset.Offset.{Offset}
use Rattle.sval_json_read.specs.declared.node.Node.{Node}
use Rattle.sval_json_read.specs.declared.node.Node.TheVariants as node
use Rattle.sval_json_read.specs.declared.node.Place as made_place
use Rattle.sval_json_read.specs.declared.node.Place.TheVariants as place
use Rattle.sval_json_read.specs.Tokens as token
use Rattle.sval_json_read.specs.Tokens.{Place, Alone, Item, Value, Token, Placed, placed_at, tokens_of, item_tokens, pair_tokens}
use Rattle.sval_json_read.specs.Nodes.{token_in, placed_in, tokens_in}
use Rattle.sval_json_read.specs.SeenNodes.{seen_node, AreKeptOf}
use Rattle.sval_json_read.specs.SeenValues.{value_in, values_in, members_in}
use Rattle.sval_json_read.specs.ValueNodes.{IsOfValue, alone, item, of_pair, IsOfValues, no_items, an_item, IsOfMembers, no_pairs, a_pair, AreOfValue, AreOfValues, AreOfMembers}
use Rattle.sval_json_read.proofs.NodeCounts.{counted_front, counted_behind}
use Rattle.sval_json_read.proofs.FirstNodes.{some_nodes}
use Rattle.sval_json_read.proofs.SeenValues.{value-seen, values-seen, members-seen}

-- ---- items and pairs one by one

pub items_one_by_one : {bytes rest : List ℕ} {values : Values} (are : AreJsonValues bytes values rest) → IsOfValues (item_tokens are) values
items_one_by_one (last_value {value = value} is_value e) = subst (λ tokens. IsOfValues tokens (json.a_value value no_values)) (append-nil (tokens_of Item is_value)) (an_item is_value no_items)
items_one_by_one (more_values is_value e are) = an_item is_value (items_one_by_one are)

pub pairs_one_by_one : {bytes rest : List ℕ} {members : Members} (are : AreMembers bytes members rest) → IsOfMembers (pair_tokens are) members
pairs_one_by_one (last_member {text = text} {value = value} key c is_value e) =
    subst (λ tokens. IsOfMembers (placed_at token.Key (token.Text (token.between_quotes key)) ∷ tokens) (json.a_member text value no_members)) (append-nil (tokens_of Value is_value)) (a_pair key is_value no_pairs)
pairs_one_by_one (more_members key c is_value e are) = a_pair key is_value (pairs_one_by_one are)

-- ---- what stands within

abbrev begins_array : Token → Type 0
begins_array token.BeginArray = ⊤
begins_array _ = ⊥

abbrev begins_object : Token → Type 0
begins_object token.BeginObject = ⊤
begins_object _ = ⊥

abbrev First : (Token → Type 0) → List Placed → Type 0
First P [] = ⊥
First P (placed ∷ tokens) = P placed.token

record ArrayParts (tokens : List Placed) (value : JsonValue) : Type 0 where
  place : Place
  values : Values
  mid : List Placed
  same : tokens ≡ placed_at place token.BeginArray ∷ (mid ++ (placed_at place token.EndArray ∷ []))
  are_of : IsOfValues mid values
  is : value ≡ json.Array values

record ObjectParts (tokens : List Placed) (value : JsonValue) : Type 0 where
  place : Place
  members : Members
  mid : List Placed
  same : tokens ≡ placed_at place token.BeginObject ∷ (mid ++ (placed_at place token.EndObject ∷ []))
  are_of : IsOfMembers mid members
  is : value ≡ json.Object members

array_in : {bytes rest : List ℕ} {value : JsonValue} (place : Place) (is_value : IsValue bytes value rest) → First begins_array (tokens_of place is_value) → ArrayParts (tokens_of place is_value) value
array_in place null h = absurd h
array_in place truth h = absurd h
array_in place falsehood h = absurd h
array_in place (number e n) h = absurd h
array_in place (string s) h = absurd h
array_in place (empty_array e) h = record { place = place; values = no_values; mid = []; same = refl; are_of = no_items; is = refl }
array_in place (array {values = values} are) h = record { place = place; values = values; mid = item_tokens are; same = refl; are_of = items_one_by_one are; is = refl }
array_in place (empty_object e) h = absurd h
array_in place (object are) h = absurd h

object_in : {bytes rest : List ℕ} {value : JsonValue} (place : Place) (is_value : IsValue bytes value rest) → First begins_object (tokens_of place is_value) → ObjectParts (tokens_of place is_value) value
object_in place null h = absurd h
object_in place truth h = absurd h
object_in place falsehood h = absurd h
object_in place (number e n) h = absurd h
object_in place (string s) h = absurd h
object_in place (empty_array e) h = absurd h
object_in place (array are) h = absurd h
object_in place (empty_object e) h = record { place = place; members = no_members; mid = []; same = refl; are_of = no_pairs; is = refl }
object_in place (object {members = members} are) h = record { place = place; members = members; mid = pair_tokens are; same = refl; are_of = pairs_one_by_one are; is = refl }

array_of : {tokens : List Placed} {value : JsonValue} → IsOfValue tokens value → First begins_array tokens → ArrayParts tokens value
array_of (alone is_value) h = array_in Alone is_value h
array_of (item is_value) h = array_in Item is_value h
array_of (of_pair is_value) h = array_in Value is_value h

object_of : {tokens : List Placed} {value : JsonValue} → IsOfValue tokens value → First begins_object tokens → ObjectParts tokens value
object_of (alone is_value) h = object_in Alone is_value h
object_of (item is_value) h = object_in Item is_value h
object_of (of_pair is_value) h = object_in Value is_value h

-- ---- without the first and the last

all_but_last : {A : Type 0} (mid : List A) (last : A) → take (length mid) (mid ++ (last ∷ [])) ≡ mid
all_but_last [] last = refl
all_but_last (one ∷ mid) last = ap (λ xs. one ∷ xs) (all_but_last mid last)

within : {A : Type 0} (first last : A) (mid row : List A) → row ≡ first ∷ (mid ++ (last ∷ [])) → take (length row - 1 - 1) (drop 1 row) ≡ mid
within first last mid row e =
    let l = length-append mid (last ∷ []) in
    let n : length (first ∷ (mid ++ (last ∷ []))) - 1 - 1 ≡ length mid = omega (arith, l) in
    ap (λ r. take (length r - 1 - 1) (drop 1 r)) e ∙ ap (λ k. take k (mid ++ (last ∷ []))) n ∙ all_but_last mid last

pub tokens_within : (bytes : List ℕ) (count : ℕ) (nodes : List Node) → tokens_in bytes (map seen_node (take count nodes)) ≡ take count (tokens_in bytes (map seen_node nodes))
tokens_within bytes zero nodes = refl
tokens_within bytes (suc count) [] = refl
tokens_within bytes (suc count) (one ∷ nodes) = ap (λ tokens. placed_in bytes (seen_node one) ∷ tokens) (tokens_within bytes count nodes)

pub tokens_behind : (bytes : List ℕ) (count : ℕ) (nodes : List Node) → tokens_in bytes (map seen_node (drop count nodes)) ≡ drop count (tokens_in bytes (map seen_node nodes))
tokens_behind bytes zero nodes = refl
tokens_behind bytes (suc count) [] = refl
tokens_behind bytes (suc count) (one ∷ nodes) = tokens_behind bytes count nodes

pub tokens_length : (bytes : List ℕ) (nodes : List Node) → length (tokens_in bytes (map seen_node nodes)) ≡ length nodes
tokens_length bytes [] = refl
tokens_length bytes (one ∷ nodes) = ap suc (tokens_length bytes nodes)

pub kept_front : (bytes : List ℕ) (count : ℕ) (nodes : List Node) → AreKeptOf bytes nodes → AreKeptOf bytes (take count nodes)
kept_front bytes zero nodes k = tt
kept_front bytes (suc count) [] k = tt
kept_front bytes (suc count) (one ∷ nodes) k = (k.0, kept_front bytes count nodes k.1)

pub kept_behind : (bytes : List ℕ) (count : ℕ) (nodes : List Node) → AreKeptOf bytes nodes → AreKeptOf bytes (drop count nodes)
kept_behind bytes zero nodes k = k
kept_behind bytes (suc count) [] k = tt
kept_behind bytes (suc count) (one ∷ nodes) k = kept_behind bytes count nodes k.1

-- ---- the nodes within

-- the nodes of an array's items, and what they are of
pub record Within (bytes : List ℕ) (nodes : List Node) (inner : List Node) : Type 0 where
  pub are : AreOfValues bytes inner
  pub is : value_in (tokens_in bytes (map seen_node nodes)) ≡ json.Array (values_in (tokens_in bytes (map seen_node inner)))

-- and of an object's pairs
pub record WithinObject (bytes : List ℕ) (nodes : List Node) (inner : List Node) : Type 0 where
  pub are : AreOfMembers bytes inner
  pub is : value_in (tokens_in bytes (map seen_node nodes)) ≡ json.Object (members_in (tokens_in bytes (map seen_node inner)))

-- the tokens of the nodes within stand between a begin and its end
pub record StandsBetween (bytes : List ℕ) (nodes inner : List Node) (begin end : Token) : Type 0 where
  pub place : Place
  pub same : tokens_in bytes (map seen_node nodes) ≡ placed_at place begin ∷ (tokens_in bytes (map seen_node inner) ++ (placed_at place end ∷ []))

module _ (bytes : List ℕ) (nodes : List Node) (a : AreOfValue bytes nodes) where
  abbrev pub inner : List Node
  inner = take (length nodes - 1 - 1) (drop 1 nodes)

  first_is : (P : Token → Type 0) (p : Token) (first : Node) → get_or nodes 0 (node.Null place.Alone) ≡ first → P (token_in bytes (seen_node first).kept)
      → First P (tokens_in bytes (map seen_node nodes))
  first_is P p first e h = go nodes e (some_nodes bytes nodes a)
    where
      go : (row : List Node) → get_or row 0 (node.Null place.Alone) ≡ first → 0 < length row → First P (tokens_in bytes (map seen_node row))
      go [] e l = absurd (omega (arith, l))
      go (one ∷ row) e l = subst (λ n. P (token_in bytes (seen_node n).kept)) (sym e) h

  inner_tokens : (one other : Placed) (mid : List Placed) → tokens_in bytes (map seen_node nodes) ≡ one ∷ (mid ++ (other ∷ [])) → tokens_in bytes (map seen_node inner) ≡ mid
  inner_tokens one other mid e =
      tokens_within bytes (length nodes - 1 - 1) (drop 1 nodes) ∙ ap (take (length nodes - 1 - 1)) (tokens_behind bytes 1 nodes)
      ∙ ap (λ n. take (n - 1 - 1) (drop 1 (tokens_in bytes (map seen_node nodes)))) (sym (tokens_length bytes nodes)) ∙ within one other mid (tokens_in bytes (map seen_node nodes)) e

  two_nodes : (one other : Placed) (mid : List Placed) → tokens_in bytes (map seen_node nodes) ≡ one ∷ (mid ++ (other ∷ [])) → 2 ≤ length nodes
  two_nodes one other mid e =
      let l = length-append mid (other ∷ []) in
      let n = sym (tokens_length bytes nodes) ∙ ap (λ (tokens : List Placed). length tokens) e in
      omega (arith, l, n)

  pub array_two : (p : made_place.Place) (held : Offset) → get_or nodes 0 (node.Null place.Alone) ≡ node.BeginArray p held → 2 ≤ length nodes
  array_two p held e = let parts = array_of a.is_of (first_is begins_array token.BeginArray (node.BeginArray p held) e tt) in two_nodes _ _ parts.mid parts.same

  pub object_two : (p : made_place.Place) (held : Offset) → get_or nodes 0 (node.Null place.Alone) ≡ node.BeginObject p held → 2 ≤ length nodes
  object_two p held e = let parts = object_of a.is_of (first_is begins_object token.BeginObject (node.BeginObject p held) e tt) in two_nodes _ _ parts.mid parts.same

  pub array_within : (p : made_place.Place) (held : Offset) → get_or nodes 0 (node.Null place.Alone) ≡ node.BeginArray p held → Within bytes nodes inner
  array_within p held e =
      let parts = array_of a.is_of (first_is begins_array token.BeginArray (node.BeginArray p held) e tt) in
      let t = inner_tokens _ _ parts.mid parts.same in
      let are_of = subst (λ tokens. IsOfValues tokens parts.values) (sym t) parts.are_of in
      record {
        are = record { kept = kept_front bytes (length nodes - 1 - 1) (drop 1 nodes) (kept_behind bytes 1 nodes a.kept); counted = counted_front (length nodes - 1 - 1) (drop 1 nodes) (counted_behind 1 nodes a.counted); values = parts.values; are_of = are_of };
        is = value-seen a.is_of ∙ parts.is ∙ ap json.Array (sym (values-seen are_of));
      }

  pub object_within : (p : made_place.Place) (held : Offset) → get_or nodes 0 (node.Null place.Alone) ≡ node.BeginObject p held → WithinObject bytes nodes inner
  object_within p held e =
      let parts = object_of a.is_of (first_is begins_object token.BeginObject (node.BeginObject p held) e tt) in
      let t = inner_tokens _ _ parts.mid parts.same in
      let are_of = subst (λ tokens. IsOfMembers tokens parts.members) (sym t) parts.are_of in
      record {
        are = record { kept = kept_front bytes (length nodes - 1 - 1) (drop 1 nodes) (kept_behind bytes 1 nodes a.kept); counted = counted_front (length nodes - 1 - 1) (drop 1 nodes) (counted_behind 1 nodes a.counted); members = parts.members; are_of = are_of };
        is = value-seen a.is_of ∙ parts.is ∙ ap json.Object (sym (members-seen are_of));
      }

  pub array_tokens : (p : made_place.Place) (held : Offset) → get_or nodes 0 (node.Null place.Alone) ≡ node.BeginArray p held → StandsBetween bytes nodes inner token.BeginArray token.EndArray
  array_tokens p held e =
      let parts = array_of a.is_of (first_is begins_array token.BeginArray (node.BeginArray p held) e tt) in
      let t = inner_tokens _ _ parts.mid parts.same in
      record { place = parts.place; same = parts.same ∙ ap (λ mid. placed_at parts.place token.BeginArray ∷ (mid ++ (placed_at parts.place token.EndArray ∷ []))) (sym t) }

  pub object_tokens : (p : made_place.Place) (held : Offset) → get_or nodes 0 (node.Null place.Alone) ≡ node.BeginObject p held → StandsBetween bytes nodes inner token.BeginObject token.EndObject
  object_tokens p held e =
      let parts = object_of a.is_of (first_is begins_object token.BeginObject (node.BeginObject p held) e tt) in
      let t = inner_tokens _ _ parts.mid parts.same in
      record { place = parts.place; same = parts.same ∙ ap (λ mid. placed_at parts.place token.BeginObject ∷ (mid ++ (placed_at parts.place token.EndObject ∷ []))) (sym t) }
