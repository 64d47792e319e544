-- The bytes of the tokens that stay are the CBOR of what is left of the tree.
use Rattle.std.specs.Prelude.{◌≡◌, ℕ, Bool, true, false, List, [], ◌∷◌, ◌++◌, Some, Result, refl}
use Rattle.std.proofs.Common.{sym, ap, subst, ◌∙◌, append_assoc, append-nil}
use Rattle.sval_label.specs.Calls.{Head}
use Rattle.sval_core.specs.Trees.{Tree, Text, Container, Parts, none}
use Rattle.sval_io.specs.Taken.{Taken}
use Rattle.sval_json.specs.Grammar.{JsonValue, Values, no_values, Members, no_members, IsString, IsValue, null, truth, falsehood, number, string, empty_array, array, empty_object, object, AreJsonValues, last_value, more_values, AreMembers, last_member, more_members}
use Rattle.sval_filter.specs.declared.paths.Rule.{Rule}
use Rattle.sval_filter.specs.declared.paths.Rule.TheVariants.{Drop}
use Rattle.sval_filter.specs.Paths.{Path, Fate, LeftOut, Stays, Within, fate_of}
use Rattle.sval_filter.specs.Pruned.{pruned, pruned_parts, placed_entry}
use Rattle.sval_filter.specs.Walks.{Reach, walk_start, stays_by}
use Rattle.sval_filter.proofs.NothingDropped.{drop_nothing}
use Rattle.sval_json_read.specs.Documents.{IsDocument}
use Rattle.sval_json_read.specs.SeenValues.{text_in}
use Rattle.sval_json_read.specs.Tokens as token
use Rattle.sval_json_read.specs.Tokens.{Place, Alone, Item, Key, Value, Placed, placed_at, between_quotes, tokens_of, item_tokens, pair_tokens}
use Rattle.sval_json_read.specs.Trees.{tree_of, items_of, entries_of}
use Rattle.sval_json_read.proofs.PieceTexts.{pieces-text}
use Rattle.sval_cbor.specs.Packs.{map_packed, pack_of}
use Rattle.sval_cbor.specs.Cbor.{cbor}
use Rattle.sval_tool.specs.LeftTokens.{staying, left_tokens}
use Rattle.sval_tool.specs.TokenBytes.{MaybeBytes, tokens_bytes, left_bytes, tree_bytes, TakesDue}
use Rattle.sval_tool.specs.declared.packed.Unpacked.{Unpacked}
use Rattle.sval_tool.proofs.LeftTokens.{IsNoKey, Settles, at, settled, value_settles, number_left}
use Rattle.sval_tool.proofs.TokenBytes.{nothing_then, AreOfTree, AreOfItems, AreOfPairs, of_array, of_object, no_items, no_pairs, of_item, of_pair, of_number, of_string, of_value, document_bytes}

module _ (rule : Rule) where
  -- ---- an entry

  -- by what becomes of its value
  entry_bytes : {bytes text colon : List ℕ} (paths : List Path) (around : List Reach) (k : IsString bytes text colon) (value : List Placed) (tree : Tree) (prune : List Path → Tree) (parts : Parts)
      (entry : Fate) (later after : List Placed) → ((b : Bool) → Settles b (at rule (Within paths) (settled b) around) value)
      → ((more : List Placed) → AreOfTree tree (value ++ more) more)
      → ((rests : List Path) → AreOfTree (prune rests) (left_tokens (at rule (Within paths) (Within rests) around) (value ++ later)) (left_tokens (at rule (Within paths) (Within rests) around) later))
      → AreOfPairs parts (left_tokens (at rule (Within paths) entry around) later) after
      → AreOfPairs (placed_entry entry (Text text) tree prune parts)
      (staying (stays_by entry) (placed_at Key (token.Text (between_quotes k))) (left_tokens (at rule (Within paths) entry around) (value ++ later))) after
  entry_bytes paths around k value tree prune parts LeftOut later after s v p r = ap tokens_bytes (s false later) ∙ r
  entry_bytes paths around k value tree prune parts Stays later after s v p r =
      let behind = at rule (Within paths) Stays around in
      of_pair k tree parts (left_tokens behind (value ++ later)) (left_tokens behind later) after (ap tokens_bytes (s true later) ∙ v (left_tokens behind later)) r
  entry_bytes paths around k value tree prune parts (Within rests) later after s v p r =
      let behind = at rule (Within paths) (Within rests) around in
      of_pair k (prune rests) parts (left_tokens behind (value ++ later)) (left_tokens behind later) after (p rests) r

  -- by its name
  pair_bytes : {bytes text colon other rest : List ℕ} {value : JsonValue} (paths : List Path) (around : List Reach) (k : IsString bytes text colon) (v : IsValue other value rest) (parts : Parts)
      (becomes : Fate) → fate_of rule paths (Some (text_in (between_quotes k))) ≡ becomes → (later after : List Placed)
      → ((rests : List Path) → AreOfTree (pruned rule rests (tree_of value)) (left_tokens (at rule (Within paths) (Within rests) around) (tokens_of Value v ++ later)) (left_tokens (at rule (Within paths) (Within rests) around) later))
      → AreOfPairs parts (left_tokens (at rule (Within paths) becomes around) later) after
      → AreOfPairs (placed_entry (fate_of rule paths (Some text)) (Text text) (tree_of value) (λ rests. pruned rule rests (tree_of value)) parts)
      (staying (stays_by becomes) (placed_at Key (token.Text (between_quotes k))) (left_tokens (at rule (Within paths) becomes around) (tokens_of Value v ++ later))) after
  pair_bytes {text = text} {value = value} paths around k v parts becomes is later after left r =
      let same = ap (λ x. fate_of rule paths (Some x)) (sym (pieces-text k)) ∙ is in
      subst (λ (f : Fate). AreOfPairs (placed_entry f (Text text) (tree_of value) (λ rests. pruned rule rests (tree_of value)) parts)
      (staying (stays_by becomes) (placed_at Key (token.Text (between_quotes k))) (left_tokens (at rule (Within paths) becomes around) (tokens_of Value v ++ later))) after)
      (sym same)
      (entry_bytes paths around k (tokens_of Value v) (tree_of value) (λ rests. pruned rule rests (tree_of value)) parts becomes later after
      (λ b. value_settles rule b (Within paths) around Value tt v) (of_value Value v) left r)

  -- what becomes of the last value of these pairs
  abbrev last_fate : {bytes rest : List ℕ} {row : Members} → List Path → AreMembers bytes row rest → Fate
  last_fate paths (last_member k c v e) = fate_of rule paths (Some (text_in (between_quotes k)))
  last_fate paths (more_members k c v e vs) = last_fate paths vs

  -- ---- a value

  module _ (paths : List Path) (fate : Fate) (around : List Reach) where
    -- what is around what this value holds
    abbrev inside : List Reach
    inside = record { fate = fate; entry = Within paths } ∷ around

    array_bytes : (last : Fate) (place : Place) (row : Values) (mid : List Placed)
        → ((later : List Placed) → AreOfItems (pruned_parts rule paths (items_of row)) (left_tokens (at rule (Within paths) (Within paths) inside) (mid ++ later)) (left_tokens (at rule (Within paths) last inside) later))
        → (more : List Placed) → AreOfTree (Container Head.Seq (pruned_parts rule paths (items_of row)))
        (left_tokens (at rule fate (Within paths) around) ((placed_at place token.BeginArray ∷ (mid ++ (placed_at place token.EndArray ∷ []))) ++ more)) (left_tokens (at rule fate (Within paths) around) more)
    array_bytes last place row mid s more =
        let inner = at rule (Within paths) (Within paths) inside in
        of_array place (pruned_parts rule paths (items_of row)) (left_tokens inner ((mid ++ (placed_at place token.EndArray ∷ [])) ++ more)) (left_tokens (at rule fate (Within paths) around) more)
        (ap (λ x. tokens_bytes (left_tokens inner x)) (append_assoc mid (placed_at place token.EndArray ∷ []) more) ∙ s (placed_at place token.EndArray ∷ more))

    object_bytes : (last : Fate) (place : Place) (row : Members) (mid : List Placed)
        → ((later : List Placed) → AreOfPairs (pruned_parts rule paths (entries_of row)) (left_tokens (at rule (Within paths) (Within paths) inside) (mid ++ later)) (left_tokens (at rule (Within paths) last inside) later))
        → (more : List Placed) → AreOfTree (Container Head.Map (pruned_parts rule paths (entries_of row)))
        (left_tokens (at rule fate (Within paths) around) ((placed_at place token.BeginObject ∷ (mid ++ (placed_at place token.EndObject ∷ []))) ++ more)) (left_tokens (at rule fate (Within paths) around) more)
    object_bytes last place row mid s more =
        let inner = at rule (Within paths) (Within paths) inside in
        of_object place (pruned_parts rule paths (entries_of row)) (left_tokens inner ((mid ++ (placed_at place token.EndObject ∷ [])) ++ more)) (left_tokens (at rule fate (Within paths) around) more)
        (ap (λ x. tokens_bytes (left_tokens inner x)) (append_assoc mid (placed_at place token.EndObject ∷ []) more) ∙ s (placed_at place token.EndObject ∷ more))

  mutual
    value_bytes : {bytes rest : List ℕ} {v : JsonValue} (paths : List Path) (fate : Fate) (around : List Reach) (place : Place) → IsNoKey place → (d : IsValue bytes v rest) (more : List Placed)
        → AreOfTree (pruned rule paths (tree_of v)) (left_tokens (at rule fate (Within paths) around) (tokens_of place d ++ more)) (left_tokens (at rule fate (Within paths) around) more)
    value_bytes paths fate around place n null more = refl
    value_bytes paths fate around place n truth more = refl
    value_bytes paths fate around place n falsehood more = refl
    value_bytes paths fate around place n (number {text = text} e i) more =
        let after = left_tokens (at rule fate (Within paths) around) more in
        subst (λ tree. AreOfTree tree (placed_at place (token.Number text) ∷ after) after) (sym (number_left rule paths text)) (of_number place text after)
    value_bytes paths fate around Alone n (string s) more = of_string Alone s (left_tokens (at rule fate (Within paths) around) more)
    value_bytes paths fate around Item n (string s) more = of_string Item s (left_tokens (at rule fate (Within paths) around) more)
    value_bytes paths fate around Value n (string s) more = of_string Value s (left_tokens (at rule fate (Within paths) around) more)
    value_bytes paths fate around Key n (string s) more = absurd n
    value_bytes paths fate around place n (empty_array e) more =
        array_bytes paths fate around (Within paths) place no_values [] (λ later. no_items (left_tokens (at rule (Within paths) (Within paths) (inside paths fate around)) later)) more
    value_bytes paths fate around place n (array {values = row} vs) more =
        array_bytes paths fate around (Within paths) place row (item_tokens vs) (items_bytes paths (inside paths fate around) vs) more
    value_bytes paths fate around place n (empty_object e) more =
        object_bytes paths fate around (Within paths) place no_members [] (λ later. no_pairs (left_tokens (at rule (Within paths) (Within paths) (inside paths fate around)) later)) more
    value_bytes paths fate around place n (object {members = row} vs) more =
        object_bytes paths fate around (last_fate paths vs) place row (pair_tokens vs) (pairs_bytes paths (inside paths fate around) (Within paths) vs) more

    items_bytes : {bytes rest : List ℕ} {row : Values} (paths : List Path) (around : List Reach) (vs : AreJsonValues bytes row rest) (later : List Placed)
        → AreOfItems (pruned_parts rule paths (items_of row)) (left_tokens (at rule (Within paths) (Within paths) around) (item_tokens vs ++ later)) (left_tokens (at rule (Within paths) (Within paths) around) later)
    items_bytes paths around (last_value {value = value} v e) later =
        let walk = at rule (Within paths) (Within paths) around in
        of_item (pruned rule paths (tree_of value)) none (left_tokens walk (tokens_of Item v ++ later)) (left_tokens walk later) (left_tokens walk later)
        (value_bytes paths (Within paths) around Item tt v later) (no_items (left_tokens walk later))
    items_bytes paths around (more_values {value = value} {values = row} v e vs) later =
        let walk = at rule (Within paths) (Within paths) around in
        ap (λ x. tokens_bytes (left_tokens walk x)) (append_assoc (tokens_of Item v) (item_tokens vs) later)
        ∙ of_item (pruned rule paths (tree_of value)) (pruned_parts rule paths (items_of row)) (left_tokens walk (tokens_of Item v ++ (item_tokens vs ++ later))) (left_tokens walk (item_tokens vs ++ later)) (left_tokens walk later)
        (value_bytes paths (Within paths) around Item tt v (item_tokens vs ++ later)) (items_bytes paths around vs later)

    pairs_bytes : {bytes rest : List ℕ} {row : Members} (paths : List Path) (around : List Reach) (entry : Fate) (vs : AreMembers bytes row rest) (later : List Placed)
        → AreOfPairs (pruned_parts rule paths (entries_of row)) (left_tokens (at rule (Within paths) entry around) (pair_tokens vs ++ later)) (left_tokens (at rule (Within paths) (last_fate paths vs) around) later)
    pairs_bytes paths around entry (last_member {value = value} k c v e) later =
        let becomes = fate_of rule paths (Some (text_in (between_quotes k))) in
        let after = left_tokens (at rule (Within paths) becomes around) later in
        pair_bytes paths around k v none becomes refl later after (λ rests. value_bytes rests (Within paths) around Value tt v later) (no_pairs after)
    pairs_bytes paths around entry (more_members {value = value} {members = row} k c v e vs) later =
        let becomes = fate_of rule paths (Some (text_in (between_quotes k))) in
        let after = left_tokens (at rule (Within paths) (last_fate paths vs) around) later in
        ap (λ x. tokens_bytes (staying (stays_by becomes) (placed_at Key (token.Text (between_quotes k))) (left_tokens (at rule (Within paths) becomes around) x))) (append_assoc (tokens_of Value v) (pair_tokens vs) later)
        ∙ pair_bytes paths around k v (pruned_parts rule paths (entries_of row)) becomes refl (pair_tokens vs ++ later) after
        (λ rests. value_bytes rests (Within paths) around Value tt v (pair_tokens vs ++ later)) (pairs_bytes paths around becomes vs later)

  alone_bytes : {bytes rest : List ℕ} {v : JsonValue} (paths : List Path) (d : IsValue bytes v rest) → tokens_bytes (left_tokens (walk_start rule paths) (tokens_of Alone d)) ≡ map_packed cbor (pack_of (pruned rule paths (tree_of v)))
  alone_bytes {v = v} paths d =
      ap (λ tokens. tokens_bytes (left_tokens (walk_start rule paths) tokens)) (sym (append-nil (tokens_of Alone d)))
      ∙ value_bytes paths (Within paths) [] Alone tt d [] ∙ nothing_then (map_packed cbor (pack_of (pruned rule paths (tree_of v))))

-- the bytes of the tokens that stay are those of what is left of the document's tree
pub left_packs : (rule : Rule) (paths : List Path) (bytes : List ℕ) (tokens : List Placed) (d : IsDocument bytes tokens) → left_bytes rule paths tokens ≡ map_packed cbor (pack_of (pruned rule paths (tree_of d.value)))
left_packs rule paths bytes tokens d = ap (λ row. tokens_bytes (left_tokens (walk_start rule paths) row)) d.same ∙ alone_bytes rule paths d.denotes.is_value

-- ---- what was taken of them

module _ (rule : Rule) (paths : List Path) (bytes : List ℕ) (tokens : List Placed) (d : IsDocument bytes tokens) (result : Result (Unit {0}) Unpacked) (old new : Taken) where
  -- all tokens, where nothing is left out
  pub whole_put : rule ≡ Drop → paths ≡ [] → TakesDue result (tokens_bytes tokens) old new → TakesDue result (tree_bytes (pruned rule paths (tree_of d.value))) old new
  whole_put r p t =
      let own : tokens_bytes tokens ≡ tree_bytes (pruned Drop [] (tree_of d.value)) = document_bytes bytes tokens d ∙ ap tree_bytes (sym (drop_nothing (tree_of d.value))) in
      let all : TakesDue result (tree_bytes (pruned Drop [] (tree_of d.value))) old new = subst (λ (due : MaybeBytes). TakesDue result due old new) own t in
      subst (λ (rule : Rule). TakesDue result (tree_bytes (pruned rule paths (tree_of d.value))) old new) (sym r)
      (subst (λ (paths : List Path). TakesDue result (tree_bytes (pruned Drop paths (tree_of d.value))) old new) (sym p) all)

  -- those that stay
  pub left_put : TakesDue result (left_bytes rule paths tokens) old new → TakesDue result (tree_bytes (pruned rule paths (tree_of d.value))) old new
  left_put t = subst (λ (due : MaybeBytes). TakesDue result due old new) (left_packs rule paths bytes tokens d) t
