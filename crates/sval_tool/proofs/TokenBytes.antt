-- The bytes of the tokens of a value are the CBOR of what its tree packs to.
use Rattle.std.specs.Prelude.{◌≡◌, ℕ, Bool, true, false, cond, List, [], ◌∷◌, ◌++◌, Result, Ok, Err, refl}
use Rattle.std.proofs.Common.{sym, ap, ◌∙◌, append_assoc, append-nil}
use Rattle.std.proofs.lemmas.Bool.{and_parts}
use Rattle.sval_label.specs.Calls.{Slot, Head, I64}
use Rattle.sval_label.specs.Ranges.{is_of_type}
use Rattle.sval_core.specs.Trees.{Tree, Text, Container, Parts, none, part}
use Rattle.sval_json.specs.Grammar.{JsonValue, Values, Members, IsString, IsValue, null, truth, falsehood, number, string, empty_array, array, empty_object, object, AreJsonValues, last_value, more_values, AreMembers, last_member, more_members}
use Rattle.sval_json.specs.Json as shape
use Rattle.sval_json.specs.Json.{Json, Items, no_item, item, Pairs, no_pair, pair, escaped_key}
use Rattle.sval_json.specs.Number.{normal}
use Rattle.sval_json_read.specs.Documents.{IsDocument}
use Rattle.sval_json_read.specs.Tokens as token
use Rattle.sval_json_read.specs.Tokens.{Place, Alone, Item, Key, Value, Placed, placed_at, between_quotes, tokens_of, item_tokens, pair_tokens}
use Rattle.sval_json_read.specs.Trees.{has_no_fraction, fits_i64, whole_value, number_name, number_tree, tree_of, items_of, entries_of}
use Rattle.sval_json_read.proofs.PieceTexts.{pieces-text}
use Rattle.sval_cbor.specs.declared.style.TheConstants.Style.{DEFAULT}
use Rattle.sval_cbor.specs.Packs.{PackRefusal, on_packed, map_packed, number_pack, packed_items, packed_pairs, pack_of}
use Rattle.sval_cbor.specs.Cbor as made
use Rattle.sval_cbor.specs.Cbor.{integer, cbor, cbor_items, cbor_pairs}
use Rattle.sval_cbor.proofs.Numbers.{integer_of_decimal}
use Rattle.sval_cbor.proofs.Packed.{type_128}
use Rattle.sval_tool.specs.TokenBytes.{MaybeBytes, bytes_then, number_bytes_of, tokens_bytes}

-- ---- bytes behind bytes

pub then_both : (xs ys : List ℕ) (rest : MaybeBytes) → bytes_then (Ok xs) (bytes_then (Ok ys) rest) ≡ bytes_then (Ok (xs ++ ys)) rest
then_both xs ys (Ok zs) = ap Ok (sym (append_assoc xs ys zs))
then_both xs ys (Err why) = refl

pub then_nothing : (rest : MaybeBytes) → bytes_then (Ok []) rest ≡ rest
then_nothing (Ok zs) = refl
then_nothing (Err why) = refl

pub nothing_then : (first : MaybeBytes) → bytes_then first (Ok []) ≡ first
nothing_then (Ok xs) = ap Ok (append-nil xs)
nothing_then (Err why) = refl

array_then : (row : Result Items PackRefusal) (rest : MaybeBytes)
    → bytes_then (Ok (0x9f ∷ [])) (bytes_then (map_packed cbor_items row) (bytes_then (Ok (0xff ∷ [])) rest)) ≡ bytes_then (map_packed cbor (map_packed shape.array row)) rest
array_then (Ok row) (Ok zs) = ap (λ x. Ok (0x9f ∷ x)) (sym (append_assoc (cbor_items row) (0xff ∷ []) zs))
array_then (Ok row) (Err why) = refl
array_then (Err why) rest = refl

object_then : (row : Result Pairs PackRefusal) (rest : MaybeBytes)
    → bytes_then (Ok (0xbf ∷ [])) (bytes_then (map_packed cbor_pairs row) (bytes_then (Ok (0xff ∷ [])) rest)) ≡ bytes_then (map_packed cbor (map_packed shape.object row)) rest
object_then (Ok row) (Ok zs) = ap (λ x. Ok (0xbf ∷ x)) (sym (append_assoc (cbor_pairs row) (0xff ∷ []) zs))
object_then (Ok row) (Err why) = refl
object_then (Err why) rest = refl

item_then : (first : Result Json PackRefusal) (row : Result Items PackRefusal) (rest : MaybeBytes)
    → bytes_then (map_packed cbor first) (bytes_then (map_packed cbor_items row) rest) ≡ bytes_then (map_packed cbor_items (on_packed first (λ json. map_packed (item json) row))) rest
item_then (Ok json) (Ok row) rest = then_both (cbor json) (cbor_items row) rest
item_then (Ok json) (Err why) rest = refl
item_then (Err why) row rest = refl

pair_then : (text : List ℕ) (value : Result Json PackRefusal) (row : Result Pairs PackRefusal) (rest : MaybeBytes)
    → bytes_then (Ok (made.string 3 text)) (bytes_then (map_packed cbor value) (bytes_then (map_packed cbor_pairs row) rest))
    ≡ bytes_then (map_packed cbor_pairs (on_packed value (λ json. map_packed (pair (escaped_key text) json) row))) rest
pair_then text (Ok json) (Ok row) rest =
    ap (bytes_then (Ok (made.string 3 text))) (then_both (cbor json) (cbor_pairs row) rest) ∙ then_both (made.string 3 text) (cbor json ++ cbor_pairs row) rest
    ∙ ap (λ xs. bytes_then (Ok xs) rest) (sym (append_assoc (made.string 3 text) (cbor json) (cbor_pairs row)))
pair_then text (Ok json) (Err why) rest = refl
pair_then text (Err why) row rest = refl

-- ---- what tokens are of, before others

-- a value of this tree, items, or pairs
abbrev pub AreOfTree : Tree → List Placed → List Placed → Type 0
AreOfTree tree tokens after = tokens_bytes tokens ≡ bytes_then (map_packed cbor (pack_of tree)) (tokens_bytes after)

abbrev pub AreOfItems : Parts → List Placed → List Placed → Type 0
AreOfItems parts tokens after = tokens_bytes tokens ≡ bytes_then (map_packed cbor_items (packed_items DEFAULT parts)) (tokens_bytes after)

abbrev pub AreOfPairs : Parts → List Placed → List Placed → Type 0
AreOfPairs parts tokens after = tokens_bytes tokens ≡ bytes_then (map_packed cbor_pairs (packed_pairs DEFAULT parts)) (tokens_bytes after)

pub of_array : (place : Place) (parts : Parts) (tokens after : List Placed) → AreOfItems parts tokens (placed_at place token.EndArray ∷ after)
    → AreOfTree (Container Head.Seq parts) (placed_at place token.BeginArray ∷ tokens) after
of_array place parts tokens after e = ap (bytes_then (Ok (0x9f ∷ []))) e ∙ array_then (packed_items DEFAULT parts) (tokens_bytes after)

pub of_object : (place : Place) (parts : Parts) (tokens after : List Placed) → AreOfPairs parts tokens (placed_at place token.EndObject ∷ after)
    → AreOfTree (Container Head.Map parts) (placed_at place token.BeginObject ∷ tokens) after
of_object place parts tokens after e = ap (bytes_then (Ok (0xbf ∷ []))) e ∙ object_then (packed_pairs DEFAULT parts) (tokens_bytes after)

pub no_items : (tokens : List Placed) → AreOfItems none tokens tokens
no_items tokens = sym (then_nothing (tokens_bytes tokens))

pub no_pairs : (tokens : List Placed) → AreOfPairs none tokens tokens
no_pairs tokens = sym (then_nothing (tokens_bytes tokens))

pub of_item : (tree : Tree) (parts : Parts) (tokens mid after : List Placed) → AreOfTree tree tokens mid → AreOfItems parts mid after → AreOfItems (part Slot.Item tree parts) tokens after
of_item tree parts tokens mid after v r = v ∙ ap (bytes_then (map_packed cbor (pack_of tree))) r ∙ item_then (pack_of tree) (packed_items DEFAULT parts) (tokens_bytes after)

pub of_pair : {bytes text rest : List ℕ} (k : IsString bytes text rest) (tree : Tree) (parts : Parts) (tokens mid after : List Placed) → AreOfTree tree tokens mid → AreOfPairs parts mid after
    → AreOfPairs (part Slot.Key (Text text) (part Slot.Value tree parts)) (placed_at Key (token.Text (between_quotes k)) ∷ tokens) after
of_pair {text = text} k tree parts tokens mid after v r =
    ap (λ x. bytes_then (Ok (made.string 3 x)) (tokens_bytes tokens)) (pieces-text k)
    ∙ ap (bytes_then (Ok (made.string 3 text))) (v ∙ ap (bytes_then (map_packed cbor (pack_of tree))) r)
    ∙ pair_then text (pack_of tree) (packed_pairs DEFAULT parts) (tokens_bytes after)

-- ---- numbers and strings

same_pack : (found : Result Json PackRefusal) → map_packed (λ json. json) found ≡ found
same_pack (Ok json) = refl
same_pack (Err why) = refl

number_packs : (text : List ℕ) → number_bytes_of text ≡ map_packed cbor (pack_of (number_tree text))
number_packs text = go (fits_i64 text) refl
  where
    go : (b : Bool) → fits_i64 text ≡ b → cond b (Ok (integer (whole_value text))) (map_packed cbor (number_pack (normal text))) ≡ map_packed cbor (pack_of (cond b (Tree.Int I64 (whole_value text)) (Tree.Tagged number_name (Text text))))
    go true e = ap Ok (sym (integer_of_decimal (whole_value text) (type_128 I64 (whole_value text) (and_parts (has_no_fraction text) (is_of_type I64 (whole_value text)) e).1)))
    go false e = ap (map_packed cbor) (sym (same_pack (number_pack (normal text))))

pub of_number : (place : Place) (text : List ℕ) (after : List Placed) → AreOfTree (number_tree text) (placed_at place (token.Number text) ∷ after) after
of_number place text after = ap (λ x. bytes_then x (tokens_bytes after)) (number_packs text)

pub of_string : {bytes text rest : List ℕ} (place : Place) (s : IsString bytes text rest) (after : List Placed) → AreOfTree (Text text) (placed_at place (token.Text (between_quotes s)) ∷ after) after
of_string place s after = ap (λ x. bytes_then (Ok (made.string 3 x)) (tokens_bytes after)) (pieces-text s)

-- ---- the tokens of a value

mutual
  pub of_value : {bytes rest : List ℕ} {v : JsonValue} (place : Place) (d : IsValue bytes v rest) (after : List Placed) → AreOfTree (tree_of v) (tokens_of place d ++ after) after
  of_value place null after = refl
  of_value place truth after = refl
  of_value place falsehood after = refl
  of_value place (number {text = text} e i) after = of_number place text after
  of_value place (string s) after = of_string place s after
  of_value place (empty_array e) after = of_array place none (placed_at place token.EndArray ∷ after) after (no_items (placed_at place token.EndArray ∷ after))
  of_value place (array {values = row} vs) after =
      of_array place (items_of row) ((item_tokens vs ++ (placed_at place token.EndArray ∷ [])) ++ after) after
      (ap tokens_bytes (append_assoc (item_tokens vs) (placed_at place token.EndArray ∷ []) after) ∙ of_items vs (placed_at place token.EndArray ∷ after))
  of_value place (empty_object e) after = of_object place none (placed_at place token.EndObject ∷ after) after (no_pairs (placed_at place token.EndObject ∷ after))
  of_value place (object {members = row} vs) after =
      of_object place (entries_of row) ((pair_tokens vs ++ (placed_at place token.EndObject ∷ [])) ++ after) after
      (ap tokens_bytes (append_assoc (pair_tokens vs) (placed_at place token.EndObject ∷ []) after) ∙ of_pairs vs (placed_at place token.EndObject ∷ after))

  of_items : {bytes rest : List ℕ} {row : Values} (vs : AreJsonValues bytes row rest) (after : List Placed) → AreOfItems (items_of row) (item_tokens vs ++ after) after
  of_items (last_value {value = value} v e) after = of_item (tree_of value) none (tokens_of Item v ++ after) after after (of_value Item v after) (no_items after)
  of_items (more_values {value = value} {values = row} v e vs) after =
      ap tokens_bytes (append_assoc (tokens_of Item v) (item_tokens vs) after)
      ∙ of_item (tree_of value) (items_of row) (tokens_of Item v ++ (item_tokens vs ++ after)) (item_tokens vs ++ after) after (of_value Item v (item_tokens vs ++ after)) (of_items vs after)

  of_pairs : {bytes rest : List ℕ} {row : Members} (vs : AreMembers bytes row rest) (after : List Placed) → AreOfPairs (entries_of row) (pair_tokens vs ++ after) after
  of_pairs (last_member {value = value} k c v e) after = of_pair k (tree_of value) none (tokens_of Value v ++ after) after after (of_value Value v after) (no_pairs after)
  of_pairs (more_members {value = value} {members = row} k c v e vs) after =
      ap (λ x. tokens_bytes (placed_at Key (token.Text (between_quotes k)) ∷ x)) (append_assoc (tokens_of Value v) (pair_tokens vs) after)
      ∙ of_pair k (tree_of value) (entries_of row) (tokens_of Value v ++ (pair_tokens vs ++ after)) (pair_tokens vs ++ after) after (of_value Value v (pair_tokens vs ++ after)) (of_pairs vs after)

-- the bytes of a document's tokens are those of its tree
pub document_bytes : (bytes : List ℕ) (tokens : List Placed) (d : IsDocument bytes tokens) → tokens_bytes tokens ≡ map_packed cbor (pack_of (tree_of d.value))
document_bytes bytes tokens d =
    ap tokens_bytes (d.same ∙ sym (append-nil (tokens_of Alone d.denotes.is_value))) ∙ of_value Alone d.denotes.is_value [] ∙ nothing_then (map_packed cbor (pack_of (tree_of d.value)))
