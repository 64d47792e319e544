-- The first of an array's items, or of an object's pairs, and what is left.
use Rattle.std.specs.Prelude.{◌≡◌, false, ◌==◌, Option, Some, None, ℕ, ◌+◌, ◌<◌, ◌≤◌, List, [], ◌∷◌, ◌++◌, map, length, take, drop, get_or, refl}
use Rattle.std.specs.List.{between}
use Rattle.std.proofs.Common.{sym, ap, subst, ◌∙◌, arith, length-append}
use Rattle.sval_json.specs.Grammar as json
use Rattle.sval_json.specs.Grammar.{JsonValue, Values, Members, IsString, IsValue}
use Rattle.sval_json_read.specs.declared.offset.Offset.{Offset}
use Rattle.sval_json_read.specs.Offsets.{number_of}
use Rattle.sval_json_read.specs.declared.node.Node.{Node}
use Rattle.sval_json_read.specs.declared.node.Node.TheVariants as node
use Rattle.sval_json_read.specs.declared.node.Place as made_place
use Rattle.sval_json_read.specs.declared.node.Place.TheVariants as place
use Rattle.sval_json_read.specs.Tokens as token
use Rattle.sval_json_read.specs.Tokens.{Place, Item, Value, Token, Placed, placed_at, tokens_of, between_quotes}
use Rattle.sval_json_read.specs.Nodes.{token_in, tokens_in}
use Rattle.sval_json_read.specs.SeenNodes.{seen_node}
use Rattle.sval_json_read.specs.SeenValues.{text_in, value_in, values_in, members_in}
use Rattle.sval_json_read.specs.NodeSpans.{span}
use Rattle.sval_json_read.specs.Lookups.{values_listed, paired}
use Rattle.sval_json_read.specs.ValueNodes.{IsOfValue, item, of_pair, IsOfValues, no_items, an_item, IsOfMembers, no_pairs, a_pair, AreOfValue, AreOfValues, AreOfMembers}
use Rattle.sval_json_read.proofs.PieceTexts.{pieces-text}
use Rattle.sval_json_read.proofs.SpanTokens.{token_span, span-tokens, value-span}
use Rattle.sval_json_read.proofs.SeenValues.{value-seen, values-seen, members-seen}
use Rattle.sval_json_read.proofs.NodeCounts.{counted_front, counted_behind}
use Rattle.sval_json_read.proofs.InnerNodes.{tokens_within, tokens_behind, tokens_length, kept_front, kept_behind}

front_of : {A : Type 0} (xs ys : List A) → take (length xs) (xs ++ ys) ≡ xs
front_of [] ys = refl
front_of (x ∷ xs) ys = ap (λ r. x ∷ r) (front_of xs ys)

behind_of : {A : Type 0} (xs ys : List A) → drop (length xs) (xs ++ ys) ≡ ys
behind_of [] ys = refl
behind_of (x ∷ xs) ys = behind_of xs ys

-- nodes whose tokens are those of a value, and then others
record Leads (bytes : List ℕ) (nodes : List Node) (value : JsonValue) (more : List Placed) : Type 0 where
  front : List Placed
  is_of : IsOfValue front value
  same : tokens_in bytes (map seen_node nodes) ≡ front ++ more
  long : token_span 0 (front ++ more) ≡ length front

module _ (bytes : List ℕ) (nodes : List Node) (value : JsonValue) (more : List Placed) (l : Leads bytes nodes value more) where
  count : span 0 (map seen_node nodes) ≡ length l.front
  count = span-tokens bytes 0 (map seen_node nodes) ∙ ap (token_span 0) l.same ∙ l.long

  front_tokens : tokens_in bytes (map seen_node (take (span 0 (map seen_node nodes)) nodes)) ≡ l.front
  front_tokens =
      tokens_within bytes (span 0 (map seen_node nodes)) nodes ∙ ap (λ n. take n (tokens_in bytes (map seen_node nodes))) count ∙ ap (take (length l.front)) l.same
      ∙ front_of l.front more

  more_tokens : tokens_in bytes (map seen_node (drop (span 0 (map seen_node nodes)) nodes)) ≡ more
  more_tokens =
      tokens_behind bytes (span 0 (map seen_node nodes)) nodes ∙ ap (λ n. drop n (tokens_in bytes (map seen_node nodes))) count ∙ ap (drop (length l.front)) l.same
      ∙ behind_of l.front more

  span_within : span 0 (map seen_node nodes) ≤ length nodes
  span_within =
      let n = sym (tokens_length bytes nodes) ∙ ap (λ (tokens : List Placed). length tokens) l.same in
      let k = length-append l.front more in
      let c = count in
      omega (arith, n, k, c)

  front_is_of : IsOfValue (tokens_in bytes (map seen_node (take (span 0 (map seen_node nodes)) nodes))) value
  front_is_of = subst (λ tokens. IsOfValue tokens value) (sym front_tokens) l.is_of

-- ---- items

-- the nodes of the first item and those behind it
pub record FirstItem (bytes : List ℕ) (nodes : List Node) (n : ℕ) : Type 0 where
  pub within : n ≤ length nodes
  pub first : AreOfValue bytes (take n nodes)
  pub behind : AreOfValues bytes (drop n nodes)
  pub is : values_listed (values_in (tokens_in bytes (map seen_node nodes))) ≡ value_in (tokens_in bytes (map seen_node (take n nodes))) ∷ values_listed (values_in (tokens_in bytes (map seen_node (drop n nodes))))

record ItemParts (bytes : List ℕ) (nodes : List Node) (values : Values) : Type 0 where
  value : JsonValue
  others : Values
  more : List Placed
  leads : Leads bytes nodes value more
  are_of : IsOfValues more others
  is : values ≡ json.a_value value others

item_parts : (bytes : List ℕ) (nodes : List Node) (tokens : List Placed) (values : Values) → tokens_in bytes (map seen_node nodes) ≡ tokens → IsOfValues tokens values → 0 < length nodes
    → ItemParts bytes nodes values
item_parts bytes nodes _ _ e no_items s = let n = sym (tokens_length bytes nodes) ∙ ap (λ (tokens : List Placed). length tokens) e in absurd (omega (arith, n, s))
item_parts bytes nodes _ _ e (an_item {value = value} {tokens = tokens} {values = values} is_value are) s = record {
  value = value;
  others = values;
  more = tokens;
  leads = record { front = tokens_of Item is_value; is_of = item is_value; same = e; long = value-span 0 Item is_value tokens ∙ (let z : length (tokens_of Item is_value) + 0 ≡ length (tokens_of Item is_value) = omega arith in z) };
  are_of = are;
  is = refl;
}

pub first_item : (bytes : List ℕ) (nodes : List Node) → AreOfValues bytes nodes → 0 < length nodes → FirstItem bytes nodes (span 0 (map seen_node nodes))
first_item bytes nodes a s =
    let parts = item_parts bytes nodes _ a.values refl a.are_of s in
    let n = span 0 (map seen_node nodes) in
    let front = front_is_of bytes nodes parts.value parts.more parts.leads in
    let behind = subst (λ tokens. IsOfValues tokens parts.others) (sym (more_tokens bytes nodes parts.value parts.more parts.leads)) parts.are_of in
    record {
      within = span_within bytes nodes parts.value parts.more parts.leads;
      first = record { kept = kept_front bytes n nodes a.kept; counted = counted_front n nodes a.counted; value = parts.value; is_of = front };
      behind = record { kept = kept_behind bytes n nodes a.kept; counted = counted_behind n nodes a.counted; values = parts.others; are_of = behind };
      is = ap values_listed (values-seen a.are_of ∙ parts.is) ∙ ap (λ v. v ∷ values_listed parts.others) (sym (value-seen front)) ∙ ap (λ vs. value_in (tokens_in bytes (map seen_node (take n nodes))) ∷ values_listed vs) (sym (values-seen behind));
    }

pub some_left : (nodes : List Node) → false ≡ (length nodes == 0) → 0 < length nodes
some_left [] e = absurd (cc e)
some_left (one ∷ nodes) e = omega arith

-- by the number that the code found
pub first_item_by : (bytes : List ℕ) (nodes : List Node) (n : ℕ) → AreOfValues bytes nodes → false ≡ (length nodes == 0) → n ≡ span 0 (map seen_node nodes) → FirstItem bytes nodes n
first_item_by bytes nodes n a s e = subst (FirstItem bytes nodes) (sym e) (first_item bytes nodes a (some_left nodes s))

-- ---- pairs

-- the node of the first key, the nodes of its value, and those behind them
pub record FirstPair (bytes : List ℕ) (nodes : List Node) (n : ℕ) (raw : List ℕ) : Type 0 where
  pub within : n ≤ length (drop 1 nodes)
  pub first : AreOfValue bytes (take n (drop 1 nodes))
  pub behind : AreOfMembers bytes (drop n (drop 1 nodes))
  pub is : paired (members_in (tokens_in bytes (map seen_node nodes)))
      ≡ record { name = text_in raw; value = value_in (tokens_in bytes (map seen_node (take n (drop 1 nodes)))) } ∷ paired (members_in (tokens_in bytes (map seen_node (drop n (drop 1 nodes)))))

abbrev first_token : List Placed → Option Token
first_token [] = None
first_token (placed ∷ tokens) = Some placed.token

abbrev raw_of : Option Token → List ℕ
raw_of (Some (token.Text raw)) = raw
raw_of _ = []

-- the first node is the key of these bytes
abbrev pub KeyIs : List ℕ → List Node → List ℕ → Type 0
KeyIs bytes nodes raw = first_token (tokens_in bytes (map seen_node nodes)) ≡ Some (token.Text raw)

same_key : {raw other : List ℕ} → Some (token.Text raw) ≡ Some (token.Text other) → raw ≡ other
same_key e = ap raw_of e

record PairParts (bytes : List ℕ) (nodes : List Node) (members : Members) : Type 0 where
  raw : List ℕ
  first_is : KeyIs bytes nodes raw
  value : JsonValue
  others : Members
  more : List Placed
  leads : Leads bytes (drop 1 nodes) value more
  are_of : IsOfMembers more others
  is : members ≡ json.a_member (text_in raw) value others

pair_parts : (bytes : List ℕ) (nodes : List Node) (tokens : List Placed) (members : Members) → tokens_in bytes (map seen_node nodes) ≡ tokens → IsOfMembers tokens members → 0 < length nodes
    → PairParts bytes nodes members
pair_parts bytes [] tokens _ e are s = absurd (omega (arith, s))
pair_parts bytes (one ∷ nodes) _ _ e no_pairs s = absurd (cc e)
pair_parts bytes (one ∷ nodes) _ _ e (a_pair {value = value} {tokens = tokens} {members = members} key is_value are) s = record {
  raw = between_quotes key;
  first_is = ap first_token e;
  value = value;
  others = members;
  more = tokens;
  leads = record { front = tokens_of Value is_value; is_of = of_pair is_value; same = ap (drop 1) e; long = value-span 0 Value is_value tokens ∙ (let z : length (tokens_of Value is_value) + 0 ≡ length (tokens_of Value is_value) = omega arith in z) };
  are_of = are;
  is = ap (λ t. json.a_member t value members) (sym (pieces-text key));
}

pub first_pair : (bytes : List ℕ) (nodes : List Node) (raw : List ℕ) → AreOfMembers bytes nodes → 0 < length nodes → KeyIs bytes nodes raw → FirstPair bytes nodes (span 0 (map seen_node (drop 1 nodes))) raw
first_pair bytes nodes raw a s k =
    let parts = pair_parts bytes nodes _ a.members refl a.are_of s in
    let n = span 0 (map seen_node (drop 1 nodes)) in
    let front = front_is_of bytes (drop 1 nodes) parts.value parts.more parts.leads in
    let behind = subst (λ tokens. IsOfMembers tokens parts.others) (sym (more_tokens bytes (drop 1 nodes) parts.value parts.more parts.leads)) parts.are_of in
    let same_raw : parts.raw ≡ raw = same_key (sym parts.first_is ∙ k) in
    record {
      within = span_within bytes (drop 1 nodes) parts.value parts.more parts.leads;
      first = record { kept = kept_front bytes n (drop 1 nodes) (kept_behind bytes 1 nodes a.kept); counted = counted_front n (drop 1 nodes) (counted_behind 1 nodes a.counted); value = parts.value; is_of = front };
      behind = record { kept = kept_behind bytes n (drop 1 nodes) (kept_behind bytes 1 nodes a.kept); counted = counted_behind n (drop 1 nodes) (counted_behind 1 nodes a.counted); members = parts.others; are_of = behind };
      is = ap paired (members-seen a.are_of ∙ parts.is ∙ ap (λ r. json.a_member (text_in r) parts.value parts.others) same_raw)
          ∙ ap (λ v. record { name = text_in raw; value = v } ∷ paired parts.others) (sym (value-seen front))
          ∙ ap (λ ms. record { name = text_in raw; value = value_in (tokens_in bytes (map seen_node (take n (drop 1 nodes)))) } ∷ paired ms) (sym (members-seen behind));
    }

-- ---- by what the code found

key_is : (bytes : List ℕ) (nodes : List Node) (p : made_place.Place) (from : Offset) (size : ℕ) → get_or nodes 0 (node.Null place.Alone) ≡ node.Text p from size → 0 < length nodes
    → KeyIs bytes nodes (between (number_of from) (number_of from + size) bytes)
key_is bytes [] p from size e s = absurd (omega (arith, s))
key_is bytes (one ∷ nodes) p from size e s = ap (λ n. Some (token_in bytes (seen_node n).kept)) e

pub first_pair_by : (bytes : List ℕ) (nodes values : List Node) (n : ℕ) (p : made_place.Place) (from : Offset) (size : ℕ) → AreOfMembers bytes nodes → false ≡ (length nodes == 0)
    → get_or nodes 0 (node.Null place.Alone) ≡ node.Text p from size → values ≡ drop 1 nodes → n ≡ span 0 (map seen_node values) → FirstPair bytes nodes n (between (number_of from) (number_of from + size) bytes)
first_pair_by bytes nodes values n p from size a s e v c =
    subst (λ n. FirstPair bytes nodes n (between (number_of from) (number_of from + size) bytes)) (sym (c ∙ ap (λ (row : List Node). span 0 (map seen_node row)) v))
    (first_pair bytes nodes (between (number_of from) (number_of from + size) bytes) a (some_left nodes s) (key_is bytes nodes p from size e (some_left nodes s)))

pub a_key_first : (bytes : List ℕ) (nodes : List Node) → AreOfMembers bytes nodes → false ≡ (length nodes == 0)
    → ((p : made_place.Place) (from : Offset) (size : ℕ) → get_or nodes 0 (node.Null place.Alone) ≡ node.Text p from size → ⊥) → ⊥
a_key_first bytes nodes a s n = go nodes (pair_parts bytes nodes _ a.members refl a.are_of (some_left nodes s)).first_is n
  where
    go : {raw : List ℕ} (row : List Node) → first_token (tokens_in bytes (map seen_node row)) ≡ Some (token.Text raw)
        → ((p : made_place.Place) (from : Offset) (size : ℕ) → get_or row 0 (node.Null place.Alone) ≡ node.Text p from size → ⊥) → ⊥
    go [] e n = absurd (cc e)
    go (node.Null p ∷ row) e n = absurd (cc e)
    go (node.Bool p b ∷ row) e n = absurd (cc e)
    go (node.Number p from size ∷ row) e n = absurd (cc e)
    go (node.Text p from size ∷ row) e n = n p from size refl
    go (node.BeginArray p held ∷ row) e n = absurd (cc e)
    go (node.EndArray p ∷ row) e n = absurd (cc e)
    go (node.BeginObject p held ∷ row) e n = absurd (cc e)
    go (node.EndObject p ∷ row) e n = absurd (cc e)
