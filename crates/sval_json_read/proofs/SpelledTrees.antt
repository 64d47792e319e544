-- The calls of a document spell the tree of its value.
use Rattle.std.specs.Prelude.{◌≡◌, ℕ, Bool, true, false, cond, List, [], ◌∷◌, ◌++◌, map, length, Some, None, refl}
use Rattle.std.proofs.Common.{sym, ap, subst, ◌∙◌, append_assoc, append-nil}
use Rattle.std.proofs.lemmas.Grind.{flat_map-append}
use Rattle.sval_label.specs.Calls.{Call, Slot, Head, I64}
use Rattle.sval_core.specs.Trees.{Tree, Text, Parts, none, part as in_row, IsGood, AreGood, AreInOrder, Kind}
use Rattle.sval_core.specs.Spells.{Says, SayParts, Spells, plain}
use Rattle.sval_json.specs.Grammar as json
use Rattle.sval_json.specs.Grammar.{JsonValue, Values, no_values, a_value, Members, no_members, a_member, IsString, IsValue, null, truth, falsehood, number, string, empty_array, array, empty_object, object, AreJsonValues, last_value, more_values, AreMembers, last_member, more_members, Denotes}
use Rattle.sval_json_read.specs.Trees.{fits_i64, whole_value, number_name, number_tree, tree_of, items_of, entries_of}
use Rattle.sval_json_read.specs.Tokens as token
use Rattle.sval_json_read.specs.Tokens.{Place, Alone, Item, Key, Value, Token, Placed, placed_at, between_quotes, tokens_of, item_tokens, pair_tokens}
use Rattle.sval_json_read.specs.Calls.{Piece, run, piece_bytes, pieces, piece_call, string_value_calls, number_calls, place_begins, place_ends, calls_in, placed_token_calls, document_calls}
use Rattle.sval_json_read.specs.Calls as part
use Rattle.sval_json_read.proofs.PieceTexts.{pieces-text}

-- ---- good trees

number_good : (text : List ℕ) → IsGood (number_tree text)
number_good text = go (fits_i64 text)
  where
    go : (b : Bool) → IsGood (cond b (Tree.Int I64 (whole_value text)) (Tree.Tagged number_name (Text text)))
    go true = tt
    go false = (refl, tt, tt)

mutual
  pub good : (value : JsonValue) → IsGood (tree_of value)
  good json.Null = tt
  good (json.Truth b) = tt
  good (json.Number text) = number_good text
  good (json.Text text) = tt
  good (json.Array values) = (refl, items_in_order values, items_good values)
  good (json.Object members) = (refl, entries_in_order members, entries_good members)

  items_good : (values : Values) → AreGood (items_of values)
  items_good no_values = tt
  items_good (a_value value values) = (refl, good value, items_good values)

  items_in_order : (values : Values) → AreInOrder Kind.Item (items_of values)
  items_in_order no_values = tt
  items_in_order (a_value value values) = (refl, items_in_order values)

  entries_good : (members : Members) → AreGood (entries_of members)
  entries_good no_members = tt
  entries_good (a_member text value members) = (refl, tt, (refl, good value, entries_good members))

  entries_in_order : (members : Members) → AreInOrder Kind.Key (entries_of members)
  entries_in_order no_members = tt
  entries_in_order (a_member text value members) = (refl, (refl, entries_in_order members))

-- ---- texts and numbers

piece_calls : (row : List Piece) (rest : List Call) → plain ((map piece_call row ++ (Call.TextEnd ∷ [])) ++ rest) ≡ map (Call.TextFragment false) (map piece_bytes row) ++ (Call.TextEnd ∷ plain rest)
piece_calls [] rest = refl
piece_calls (run bytes ∷ row) rest = ap (λ x. Call.TextFragment false bytes ∷ x) (piece_calls row rest)
piece_calls (part.escape bytes ∷ row) rest = ap (λ x. Call.TextFragment false bytes ∷ x) (piece_calls row rest)

pub text_says : {bytes text rest : List ℕ} (s : IsString bytes text rest) (more : List Call) → Says (Text text) (plain (string_value_calls (between_quotes s) ++ more)) (plain more)
text_says s more = (None, map piece_bytes (pieces (between_quotes s)), tt, pieces-text s, ap (λ x. Call.TextBegin None ∷ x) (piece_calls (pieces (between_quotes s)) more))

number_says : (text : List ℕ) (more : List Call) → Says (number_tree text) (plain (number_calls text ++ more)) (plain more)
number_says text more = go (fits_i64 text)
  where
    go : (b : Bool) → Says (cond b (Tree.Int I64 (whole_value text)) (Tree.Tagged number_name (Text text)))
        (plain (cond b (Call.Int I64 (whole_value text) ∷ []) (Call.TaggedBegin number_name ∷ Call.TextBegin (Some (length text)) ∷ Call.TextFragment true text ∷ Call.TextEnd ∷ Call.TaggedEnd number_name ∷ []) ++ more))
        (plain more)
    go true = refl
    go false = (_, refl, (Some (length text), text ∷ [], refl, append-nil text, refl))

-- ---- values

-- the calls begin the place, and then spell the tree, and what ends the place is left
pub record SaysIn (place : Place) (tree : Tree) (calls more : List Call) : Type 0 where
  pub inner : List Call
  pub begin : calls ≡ place_begins place ++ inner
  pub says : Says tree (plain inner) (plain (place_ends place ++ more))

leaf_calls : (place : Place) (calls more : List Call) → ((place_begins place ++ (calls ++ place_ends place)) ++ []) ++ more ≡ place_begins place ++ (calls ++ (place_ends place ++ more))
leaf_calls place calls more =
    ap (λ x. x ++ more) (append-nil (place_begins place ++ (calls ++ place_ends place)))
    ∙ append_assoc (place_begins place) (calls ++ place_ends place) more ∙ ap (λ x. place_begins place ++ x) (append_assoc calls (place_ends place) more)

leaf : (place : Place) (tree : Tree) (calls more : List Call) → Says tree (plain (calls ++ (place_ends place ++ more))) (plain (place_ends place ++ more))
    → SaysIn place tree (((place_begins place ++ (calls ++ place_ends place)) ++ []) ++ more) more
leaf place tree calls more s = record { inner = calls ++ (place_ends place ++ more); begin = leaf_calls place calls more; says = s }

-- an array or object with the calls of its parts
around_calls : (place : Place) (begin end : Call) (parts : List Placed) (e : Placed) (more : List Call) → placed_token_calls e ≡ end ∷ place_ends place
    → ((place_begins place ++ (begin ∷ [])) ++ document_calls (parts ++ (e ∷ []))) ++ more
    ≡ place_begins place ++ (begin ∷ (document_calls parts ++ (end ∷ (place_ends place ++ more))))
around_calls place begin end parts e more h =
    append_assoc (place_begins place ++ (begin ∷ [])) (document_calls (parts ++ (e ∷ []))) more
    ∙ append_assoc (place_begins place) (begin ∷ []) (document_calls (parts ++ (e ∷ [])) ++ more)
    ∙ ap (λ x. place_begins place ++ (begin ∷ x)) (
    ap (λ x. x ++ more) (flat_map-append placed_token_calls parts (e ∷ []) ∙ ap (λ x. document_calls parts ++ x) (append-nil (placed_token_calls e) ∙ h))
    ∙ append_assoc (document_calls parts) (end ∷ place_ends place) more
    )

split_calls : (one others : List Placed) (more : List Call) → document_calls (one ++ others) ++ more ≡ document_calls one ++ (document_calls others ++ more)
split_calls one others more = ap (λ x. x ++ more) (flat_map-append placed_token_calls one others) ∙ append_assoc (document_calls one) (document_calls others) more

array_says : (place : Place) (values : Values) (parts : List Placed) (more : List Call)
    → ((rest : List Call) → SayParts (items_of values) (plain (document_calls parts ++ rest)) (plain rest))
    → SaysIn place (tree_of (json.Array values)) (document_calls (placed_at place token.BeginArray ∷ (parts ++ (placed_at place token.EndArray ∷ []))) ++ more) more
array_says place row parts more s = record {
  inner = Call.Begin Head.Seq None ∷ (document_calls parts ++ (Call.End Head.Seq ∷ (place_ends place ++ more)));
  begin = around_calls place (Call.Begin Head.Seq None) (Call.End Head.Seq) parts (placed_at place token.EndArray) more refl;
  says = (None, plain (document_calls parts ++ (Call.End Head.Seq ∷ (place_ends place ++ more))), tt, refl, s (Call.End Head.Seq ∷ (place_ends place ++ more)));
}

object_says : (place : Place) (members : Members) (parts : List Placed) (more : List Call)
    → ((rest : List Call) → SayParts (entries_of members) (plain (document_calls parts ++ rest)) (plain rest))
    → SaysIn place (tree_of (json.Object members)) (document_calls (placed_at place token.BeginObject ∷ (parts ++ (placed_at place token.EndObject ∷ []))) ++ more) more
object_says place row parts more s = record {
  inner = Call.Begin Head.Map None ∷ (document_calls parts ++ (Call.End Head.Map ∷ (place_ends place ++ more)));
  begin = around_calls place (Call.Begin Head.Map None) (Call.End Head.Map) parts (placed_at place token.EndObject) more refl;
  says = (None, plain (document_calls parts ++ (Call.End Head.Map ∷ (place_ends place ++ more))), tt, refl, s (Call.End Head.Map ∷ (place_ends place ++ more)));
}

-- ---- rows

last_item : (tree : Tree) (calls more : List Call) → SaysIn Item tree (calls ++ more) more → SayParts (in_row Slot.Item tree none) (plain (calls ++ more)) (plain more)
last_item tree calls more s = (plain s.inner, plain more, ap plain s.begin, s.says, refl)

next_item : (tree : Tree) (parts : Parts) (one others : List Placed) (more : List Call) → SaysIn Item tree (document_calls one ++ (document_calls others ++ more)) (document_calls others ++ more)
    → SayParts parts (plain (document_calls others ++ more)) (plain more) → SayParts (in_row Slot.Item tree parts) (plain (document_calls (one ++ others) ++ more)) (plain more)
next_item tree parts one others more s rest =
    (plain s.inner, plain (document_calls others ++ more), ap plain (split_calls one others more ∙ s.begin), s.says, rest)

-- a key's calls, and what follows it
key_calls : (calls others more : List Call) → ((Call.PartBegin Slot.Key ∷ (calls ++ (Call.PartEnd Slot.Key ∷ []))) ++ others) ++ more ≡ Call.PartBegin Slot.Key ∷ (calls ++ (Call.PartEnd Slot.Key ∷ (others ++ more)))
key_calls calls others more =
    ap (λ x. Call.PartBegin Slot.Key ∷ x) (append_assoc (calls ++ (Call.PartEnd Slot.Key ∷ [])) others more ∙ append_assoc calls (Call.PartEnd Slot.Key ∷ []) (others ++ more))

last_pair : {bytes text colon : List ℕ} (k : IsString bytes text colon) (tree : Tree) (value : List Placed) (more : List Call) → SaysIn Value tree (document_calls value ++ more) more
    → SayParts (in_row Slot.Key (Text text) (in_row Slot.Value tree none)) (plain (document_calls (placed_at Key (token.Text (between_quotes k)) ∷ value) ++ more)) (plain more)
last_pair k tree value more s = (
  plain (string_value_calls (between_quotes k) ++ (Call.PartEnd Slot.Key ∷ (document_calls value ++ more))),
  plain (document_calls value ++ more),
  ap plain (key_calls (string_value_calls (between_quotes k)) (document_calls value) more),
  text_says k (Call.PartEnd Slot.Key ∷ (document_calls value ++ more)),
  (plain s.inner, plain more, ap plain s.begin, s.says, refl),
)

next_pair : {bytes text colon : List ℕ} (k : IsString bytes text colon) (tree : Tree) (parts : Parts) (value others : List Placed) (more : List Call)
    → SaysIn Value tree (document_calls value ++ (document_calls others ++ more)) (document_calls others ++ more)
    → SayParts parts (plain (document_calls others ++ more)) (plain more)
    → SayParts (in_row Slot.Key (Text text) (in_row Slot.Value tree parts)) (plain (document_calls (placed_at Key (token.Text (between_quotes k)) ∷ (value ++ others)) ++ more)) (plain more)
next_pair k tree parts value others more s rest = (
  plain (string_value_calls (between_quotes k) ++ (Call.PartEnd Slot.Key ∷ (document_calls value ++ (document_calls others ++ more)))),
  plain (document_calls value ++ (document_calls others ++ more)),
  ap plain (key_calls (string_value_calls (between_quotes k)) (document_calls (value ++ others)) more
      ∙ ap (λ x. Call.PartBegin Slot.Key ∷ (string_value_calls (between_quotes k) ++ (Call.PartEnd Slot.Key ∷ x))) (split_calls value others more)),
  text_says k (Call.PartEnd Slot.Key ∷ (document_calls value ++ (document_calls others ++ more))),
  (plain s.inner, plain (document_calls others ++ more), ap plain s.begin, s.says, rest),
)

mutual
  pub value_says : {bytes rest : List ℕ} {v : JsonValue} (place : Place) (d : IsValue bytes v rest) (more : List Call) → SaysIn place (tree_of v) (document_calls (tokens_of place d) ++ more) more
  value_says place null more = leaf place Tree.Null (Call.Null ∷ []) more refl
  value_says place truth more = leaf place (Tree.Truth true) (Call.Truth true ∷ []) more refl
  value_says place falsehood more = leaf place (Tree.Truth false) (Call.Truth false ∷ []) more refl
  value_says place (number {text = text} e n) more = leaf place (number_tree text) (number_calls text) more (number_says text (place_ends place ++ more))
  value_says place (string {text = text} s) more = leaf place (Text text) (string_value_calls (between_quotes s)) more (text_says s (place_ends place ++ more))
  value_says place (empty_array e) more = array_says place no_values [] more (λ rest. refl)
  value_says place (array {values = row} vs) more = array_says place row (item_tokens vs) more (λ rest. items_say vs rest)
  value_says place (empty_object e) more = object_says place no_members [] more (λ rest. refl)
  value_says place (object {members = row} vs) more = object_says place row (pair_tokens vs) more (λ rest. pairs_say vs rest)

  items_say : {bytes rest : List ℕ} {row : Values} (vs : AreJsonValues bytes row rest) (more : List Call) → SayParts (items_of row) (plain (document_calls (item_tokens vs) ++ more)) (plain more)
  items_say (last_value {value = value} v e) more = last_item (tree_of value) (document_calls (tokens_of Item v)) more (value_says Item v more)
  items_say (more_values {value = value} {values = row} v e vs) more =
      next_item (tree_of value) (items_of row) (tokens_of Item v) (item_tokens vs) more (value_says Item v (document_calls (item_tokens vs) ++ more)) (items_say vs more)

  pairs_say : {bytes rest : List ℕ} {row : Members} (vs : AreMembers bytes row rest) (more : List Call) → SayParts (entries_of row) (plain (document_calls (pair_tokens vs) ++ more)) (plain more)
  pairs_say (last_member {value = value} k c v e) more = last_pair k (tree_of value) (tokens_of Value v) more (value_says Value v more)
  pairs_say (more_members {value = value} {members = row} k c v e vs) more =
      next_pair k (tree_of value) (entries_of row) (tokens_of Value v) (pair_tokens vs) more (value_says Value v (document_calls (pair_tokens vs) ++ more)) (pairs_say vs more)

-- the calls of a value by itself spell its tree
pub value-spells : {bytes rest : List ℕ} {v : JsonValue} (d : IsValue bytes v rest) → Spells (document_calls (tokens_of Alone d)) (tree_of v)
value-spells {v = v} d =
    let s = value_says Alone d [] in
    (good v, subst (λ x. Says (tree_of v) (plain x) []) (sym s.begin ∙ append-nil (document_calls (tokens_of Alone d))) s.says)

-- and so do those of a text that denotes it
pub document-spells : {bytes : List ℕ} {v : JsonValue} (d : Denotes bytes v) → Spells (document_calls (tokens_of Alone d.is_value)) (tree_of v)
document-spells d = value-spells d.is_value
