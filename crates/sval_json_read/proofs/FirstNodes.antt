-- What the first node of a value says of it.
use Rattle.std.specs.Prelude.{◌≡◌, ℕ, ◌<◌, ℤ, Bool, true, false, Option, Some, None, List, [], ◌∷◌, map, length, get_or, refl}
use Rattle.std.proofs.Common.{sym, ap, subst, arith}
use Rattle.sval_json.specs.Grammar as json
use Rattle.sval_json.specs.Grammar.{JsonValue, Values, Members, IsValue, null, truth, falsehood, number, string, empty_array, array, empty_object, object}
use Rattle.sval_json_read.specs.declared.offset.Offset.{Offset}
use Rattle.sval_json_read.specs.Offsets.{number_of}
use Rattle.sval_json_read.specs.declared.node.Node.{Node}
use Rattle.sval_json_read.specs.declared.node.Node.TheVariants as node
use Rattle.sval_json_read.specs.declared.node.Place as made_place
use Rattle.sval_json_read.specs.declared.node.Place.TheVariants as place
use Rattle.sval_json_read.specs.Trees.{fits_i64, whole_value}
use Rattle.sval_json_read.specs.Lookups.{json_truth_of, json_number_of, i64_of, fits_i128, i128_of, items_of, members_of}
use Rattle.sval_json_read.specs.Tokens as token
use Rattle.sval_json_read.specs.Tokens.{Place, Alone, Item, Value, Token, Placed, tokens_of}
use Rattle.sval_json_read.specs.Nodes.{token_in, tokens_in}
use Rattle.sval_json_read.specs.SeenNodes.{seen_node, IsKeptOf}
use Rattle.sval_json_read.specs.SeenValues.{text_in, value_in}
use Rattle.sval_json_read.specs.ValueNodes.{IsOfValue, alone, item, of_pair, AreOfValue}
use Rattle.sval_json_read.proofs.PieceTexts.{pieces-text}
use Rattle.sval_json_read.proofs.SeenValues.{value-seen}

-- what a first token says of the value
abbrev pub Begins : Token → JsonValue → Type 0
Begins token.Null value = value ≡ json.Null
Begins (token.Truth b) value = value ≡ json.Truth b
Begins (token.Number text) value = value ≡ json.Number text
Begins (token.Text raw) value = value ≡ json.Text (text_in raw)
Begins token.BeginArray value = (values : Values) × (value ≡ json.Array values)
Begins token.EndArray value = ⊥
Begins token.BeginObject value = (members : Members) × (value ≡ json.Object members)
Begins token.EndObject value = ⊥

abbrev BeginAll : List Placed → JsonValue → Type 0
BeginAll [] value = ⊥
BeginAll (placed ∷ tokens) value = Begins placed.token value

tokens_begin : {bytes rest : List ℕ} {value : JsonValue} (place : Place) (is_value : IsValue bytes value rest) → BeginAll (tokens_of place is_value) value
tokens_begin place null = refl
tokens_begin place truth = refl
tokens_begin place falsehood = refl
tokens_begin place (number e n) = refl
tokens_begin place (string s) = ap json.Text (sym (pieces-text s))
tokens_begin place (empty_array e) = (_, refl)
tokens_begin place (array {values = values} are) = (values, refl)
tokens_begin place (empty_object e) = (_, refl)
tokens_begin place (object {members = members} are) = (members, refl)

all_begin : {tokens : List Placed} {value : JsonValue} → IsOfValue tokens value → BeginAll tokens value
all_begin (alone is_value) = tokens_begin Alone is_value
all_begin (item is_value) = tokens_begin Item is_value
all_begin (of_pair is_value) = tokens_begin Value is_value

pub some_nodes : (bytes : List ℕ) (nodes : List Node) → AreOfValue bytes nodes → 0 < length nodes
some_nodes bytes [] a = absurd (all_begin a.is_of)
some_nodes bytes (one ∷ nodes) a = omega arith

-- the first node says what the value is
pub first_begins : (bytes : List ℕ) (nodes : List Node) (d : Node) → AreOfValue bytes nodes → Begins (token_in bytes (seen_node (get_or nodes 0 d)).kept) (value_in (tokens_in bytes (map seen_node nodes)))
first_begins bytes [] d a = absurd (all_begin a.is_of)
first_begins bytes (one ∷ nodes) d a = subst (Begins (token_in bytes (seen_node one).kept)) (sym (value-seen a.is_of)) (all_begin a.is_of)

-- and can be cut from the text
pub first_kept : (bytes : List ℕ) (nodes : List Node) (d : Node) → AreOfValue bytes nodes → IsKeptOf bytes (get_or nodes 0 d)
first_kept bytes [] d a = absurd (all_begin a.is_of)
first_kept bytes (one ∷ nodes) d a = a.kept.0

-- ---- by the first node

module _ {bytes : List ℕ} {nodes : List Node} {first : Node} (a : AreOfValue bytes nodes) (e : get_or nodes 0 (node.Null place.Alone) ≡ first) where
  pub begins : Begins (token_in bytes (seen_node first).kept) (value_in (tokens_in bytes (map seen_node nodes)))
  begins = subst (λ n. Begins (token_in bytes (seen_node n).kept) (value_in (tokens_in bytes (map seen_node nodes)))) e (first_begins bytes nodes (node.Null place.Alone) a)

  pub kept : IsKeptOf bytes first
  kept = subst (IsKeptOf bytes) e (first_kept bytes nodes (node.Null place.Alone) a)

-- ---- where the first node is of another kind

module _ {bytes : List ℕ} {nodes : List Node} (a : AreOfValue bytes nodes) where
  pub no_truth : ((p : made_place.Place) (b : Bool) → get_or nodes 0 (node.Null place.Alone) ≡ node.Bool p b → ⊥) → json_truth_of (value_in (tokens_in bytes (map seen_node nodes))) ≡ None
  no_truth n = go (get_or nodes 0 (node.Null place.Alone)) refl
    where
      go : (first : Node) → get_or nodes 0 (node.Null place.Alone) ≡ first → json_truth_of (value_in (tokens_in bytes (map seen_node nodes))) ≡ None
      go (node.Null p) e = ap json_truth_of (begins a e)
      go (node.Bool p b) e = absurd (n p b e)
      go (node.Number p from size) e = ap json_truth_of (begins a e)
      go (node.Text p from size) e = ap json_truth_of (begins a e)
      go (node.BeginArray p held) e = ap json_truth_of (begins a e).1
      go (node.EndArray p) e = absurd (begins a e)
      go (node.BeginObject p held) e = ap json_truth_of (begins a e).1
      go (node.EndObject p) e = absurd (begins a e)

  pub no_number : ((p : made_place.Place) (from : Offset) (size : ℕ) → get_or nodes 0 (node.Null place.Alone) ≡ node.Number p from size → ⊥)
      → json_number_of (value_in (tokens_in bytes (map seen_node nodes))) ≡ None
  no_number n = go (get_or nodes 0 (node.Null place.Alone)) refl
    where
      go : (first : Node) → get_or nodes 0 (node.Null place.Alone) ≡ first → json_number_of (value_in (tokens_in bytes (map seen_node nodes))) ≡ None
      go (node.Null p) e = ap json_number_of (begins a e)
      go (node.Bool p b) e = ap json_number_of (begins a e)
      go (node.Number p from size) e = absurd (n p from size e)
      go (node.Text p from size) e = ap json_number_of (begins a e)
      go (node.BeginArray p held) e = ap json_number_of (begins a e).1
      go (node.EndArray p) e = absurd (begins a e)
      go (node.BeginObject p held) e = ap json_number_of (begins a e).1
      go (node.EndObject p) e = absurd (begins a e)

-- ---- numbers

abbrev some_text : Option (List ℕ) → List ℕ
some_text None = []
some_text (Some text) = text

pub number_is : (value : JsonValue) (text : List ℕ) → Some text ≡ json_number_of value → value ≡ json.Number text
number_is json.Null text e = absurd (cc e)
number_is (json.Truth b) text e = absurd (cc e)
number_is (json.Number other) text e = ap json.Number (sym (ap some_text e))
number_is (json.Text other) text e = absurd (cc e)
number_is (json.Array _) text e = absurd (cc e)
number_is (json.Object _) text e = absurd (cc e)

pub number_none : (value : JsonValue) → None ≡ json_number_of value → i64_of value ≡ None
number_none json.Null e = refl
number_none (json.Truth b) e = refl
number_none (json.Number other) e = absurd (cc e)
number_none (json.Text other) e = refl
number_none (json.Array _) e = refl
number_none (json.Object _) e = refl

pub fits_some : (text : List ℕ) (n : ℤ) → fits_i64 text ≡ true → n ≡ whole_value text → Some n ≡ i64_of (json.Number text)
fits_some text n f e = rw f (ap Some e)

pub no_fit : (text : List ℕ) → fits_i64 text ≡ false → None ≡ i64_of (json.Number text)
no_fit text f = rw f refl

pub fits_i128_some : (text : List ℕ) (n : ℤ) → fits_i128 text ≡ true → n ≡ whole_value text → Some n ≡ i128_of (json.Number text)
fits_i128_some text n f e = rw f (ap Some e)

pub no_fit_i128 : (text : List ℕ) → fits_i128 text ≡ false → None ≡ i128_of (json.Number text)
no_fit_i128 text f = rw f refl

-- ---- arrays and objects

module _ {bytes : List ℕ} {nodes : List Node} (a : AreOfValue bytes nodes) where
  pub no_items : ((p : made_place.Place) (held : Offset) → get_or nodes 0 (node.Null place.Alone) ≡ node.BeginArray p held → ⊥) → items_of (value_in (tokens_in bytes (map seen_node nodes))) ≡ None
  no_items n = go (get_or nodes 0 (node.Null place.Alone)) refl
    where
      go : (first : Node) → get_or nodes 0 (node.Null place.Alone) ≡ first → items_of (value_in (tokens_in bytes (map seen_node nodes))) ≡ None
      go (node.Null p) e = ap items_of (begins a e)
      go (node.Bool p b) e = ap items_of (begins a e)
      go (node.Number p from size) e = ap items_of (begins a e)
      go (node.Text p from size) e = ap items_of (begins a e)
      go (node.BeginArray p held) e = absurd (n p held e)
      go (node.EndArray p) e = absurd (begins a e)
      go (node.BeginObject p held) e = ap items_of (begins a e).1
      go (node.EndObject p) e = absurd (begins a e)

  pub no_members : ((p : made_place.Place) (held : Offset) → get_or nodes 0 (node.Null place.Alone) ≡ node.BeginObject p held → ⊥) → members_of (value_in (tokens_in bytes (map seen_node nodes))) ≡ None
  no_members n = go (get_or nodes 0 (node.Null place.Alone)) refl
    where
      go : (first : Node) → get_or nodes 0 (node.Null place.Alone) ≡ first → members_of (value_in (tokens_in bytes (map seen_node nodes))) ≡ None
      go (node.Null p) e = ap members_of (begins a e)
      go (node.Bool p b) e = ap members_of (begins a e)
      go (node.Number p from size) e = ap members_of (begins a e)
      go (node.Text p from size) e = ap members_of (begins a e)
      go (node.BeginArray p held) e = ap members_of (begins a e).1
      go (node.EndArray p) e = absurd (begins a e)
      go (node.BeginObject p held) e = absurd (n p held e)
      go (node.EndObject p) e = absurd (begins a e)
