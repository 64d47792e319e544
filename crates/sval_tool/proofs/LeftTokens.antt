-- The tokens of a document that stay make calls that spell what is left of its tree.
use Rattle.std.specs.Prelude.{◌≡◌, ⊤, ℕ, Bool, true, false, cond, List, [], ◌∷◌, ◌++◌, None, Some, refl}
use Rattle.std.proofs.Common.{sym, ap, subst, ◌∙◌, append_assoc, append-nil}
use Rattle.std.proofs.lemmas.Grind.{flat_map-append}
use Rattle.sval_label.specs.Calls.{Call, Slot, Head, I64}
use Rattle.sval_core.specs.Trees.{Tree, Text, Container, Parts, none, part, plain_head}
use Rattle.sval_core.specs.Spells.{Says, SayParts, Spells, plain}
use Rattle.sval_json.specs.Grammar.{JsonValue, Values, a_value, Members, IsString, IsValue, null, truth, falsehood, number, string, empty_array, array, empty_object, object, AreJsonValues, last_value, more_values, AreMembers, last_member, more_members}
use Rattle.sval_filter.specs.declared.paths.Rule.{Rule}
use Rattle.sval_filter.specs.Paths.{Path, Fate, LeftOut, Stays, Within, fate_of}
use Rattle.sval_filter.specs.Pruned.{pruned, pruned_parts, placed_entry}
use Rattle.sval_filter.specs.Walks.{Reach, Walking, walk_start, stays_by}
use Rattle.sval_filter.proofs.PrunedGood.{pruned_good}
use Rattle.sval_json_read.specs.Calls.{string_value_calls, place_begins, place_ends, placed_token_calls, document_calls}
use Rattle.sval_json_read.specs.Documents.{IsDocument}
use Rattle.sval_json_read.specs.SeenValues.{text_in}
use Rattle.sval_json_read.specs.Tokens as token
use Rattle.sval_json_read.specs.Tokens.{Place, Token, Alone, Item, Key, Value, Placed, placed_at, between_quotes, tokens_of, item_tokens, pair_tokens}
use Rattle.sval_json_read.specs.Trees.{fits_i64, whole_value, number_name, number_tree, tree_of, items_of, entries_of}
use Rattle.sval_json_read.proofs.PieceTexts.{pieces-text}
use Rattle.sval_json_read.proofs.SpelledTrees.{good, text_says, SaysIn, value_says}
use Rattle.sval_tool.specs.LeftTokens.{walk_after, token_stays, staying, left_tokens, left_calls}

-- a value isn't the name of a member
abbrev pub IsNoKey : Place → Type 0
IsNoKey Key = ⊥
IsNoKey _ = ⊤

-- ---- what all of stays, or nothing of

abbrev pub settled : Bool → Fate
settled true = Stays
settled false = LeftOut

abbrev pub all_if : Bool → List Placed → List Placed
all_if true tokens = tokens
all_if false tokens = []

all_both : (b : Bool) (first second : List Placed) → all_if b (first ++ second) ≡ all_if b first ++ all_if b second
all_both true first second = refl
all_both false first second = refl

-- the walk is the same behind the tokens, and all of them stay or none
abbrev pub Settles : Bool → Walking → List Placed → Type 0
Settles b walk tokens = (more : List Placed) → left_tokens walk (tokens ++ more) ≡ all_if b tokens ++ left_tokens walk more

settles_both : (b : Bool) (walk : Walking) (first second : List Placed) → Settles b walk first → Settles b walk second → Settles b walk (first ++ second)
settles_both b walk first second p q more =
    ap (left_tokens walk) (append_assoc first second more) ∙ p (second ++ more) ∙ ap (λ x. all_if b first ++ x) (q more)
    ∙ sym (append_assoc (all_if b first) (all_if b second) (left_tokens walk more)) ∙ ap (λ x. x ++ left_tokens walk more) (sym (all_both b first second))

module _ (rule : Rule) where
  abbrev pub at : (fate entry : Fate) → List Reach → Walking
  at fate entry around = record { rule = rule; innermost = record { fate = fate; entry = entry }; around = around }

  settles_one : (b : Bool) (walk : Walking) (placed : Placed) → token_stays walk placed ≡ b → walk_after walk placed ≡ walk → Settles b walk (placed ∷ [])
  settles_one b walk placed s w more =
      ap (λ x. staying x placed (left_tokens (walk_after walk placed) more)) s ∙ ap (λ x. staying b placed (left_tokens x more)) w ∙ by_stay b
    where
      by_stay : (b : Bool) → staying b placed (left_tokens walk more) ≡ all_if b (placed ∷ []) ++ left_tokens walk more
      by_stay true = refl
      by_stay false = refl

  stays_settled : (b : Bool) → stays_by (settled b) ≡ b
  stays_settled true = refl
  stays_settled false = refl

  text_settles : (b : Bool) (fate : Fate) (around : List Reach) (place : Place) (raw : List ℕ) → IsNoKey place → Settles b (at fate (settled b) around) (placed_at place (token.Text raw) ∷ [])
  text_settles b fate around Alone raw n = settles_one b (at fate (settled b) around) (placed_at Alone (token.Text raw)) (stays_settled b) refl
  text_settles b fate around Item raw n = settles_one b (at fate (settled b) around) (placed_at Item (token.Text raw)) (stays_settled b) refl
  text_settles b fate around Value raw n = settles_one b (at fate (settled b) around) (placed_at Value (token.Text raw)) (stays_settled b) refl
  text_settles b fate around Key raw n = absurd n

  name_settles : (b : Bool) (around : List Reach) (raw : List ℕ) → Settles b (at (settled b) (settled b) around) (placed_at Key (token.Text raw) ∷ [])
  name_settles true around raw = settles_one true (at Stays Stays around) (placed_at Key (token.Text raw)) refl refl
  name_settles false around raw = settles_one false (at LeftOut LeftOut around) (placed_at Key (token.Text raw)) refl refl

  array_settles : (b : Bool) (fate : Fate) (around : List Reach) (place : Place) (mid : List Placed)
      → Settles b (at (settled b) (settled b) (record { fate = fate; entry = settled b } ∷ around)) mid
      → Settles b (at fate (settled b) around) (placed_at place token.BeginArray ∷ (mid ++ (placed_at place token.EndArray ∷ [])))
  array_settles true fate around place mid s more =
      ap (λ x. placed_at place token.BeginArray ∷ left_tokens (at Stays Stays (record { fate = fate; entry = Stays } ∷ around)) x) (append_assoc mid (placed_at place token.EndArray ∷ []) more)
      ∙ ap (λ x. placed_at place token.BeginArray ∷ x) (s (placed_at place token.EndArray ∷ more) ∙ sym (append_assoc mid (placed_at place token.EndArray ∷ []) (left_tokens (at fate Stays around) more)))
  array_settles false fate around place mid s more =
      ap (left_tokens (at LeftOut LeftOut (record { fate = fate; entry = LeftOut } ∷ around))) (append_assoc mid (placed_at place token.EndArray ∷ []) more)
      ∙ s (placed_at place token.EndArray ∷ more)

  object_settles : (b : Bool) (fate : Fate) (around : List Reach) (place : Place) (mid : List Placed)
      → Settles b (at (settled b) (settled b) (record { fate = fate; entry = settled b } ∷ around)) mid
      → Settles b (at fate (settled b) around) (placed_at place token.BeginObject ∷ (mid ++ (placed_at place token.EndObject ∷ [])))
  object_settles true fate around place mid s more =
      ap (λ x. placed_at place token.BeginObject ∷ left_tokens (at Stays Stays (record { fate = fate; entry = Stays } ∷ around)) x) (append_assoc mid (placed_at place token.EndObject ∷ []) more)
      ∙ ap (λ x. placed_at place token.BeginObject ∷ x) (s (placed_at place token.EndObject ∷ more) ∙ sym (append_assoc mid (placed_at place token.EndObject ∷ []) (left_tokens (at fate Stays around) more)))
  object_settles false fate around place mid s more =
      ap (left_tokens (at LeftOut LeftOut (record { fate = fate; entry = LeftOut } ∷ around))) (append_assoc mid (placed_at place token.EndObject ∷ []) more)
      ∙ s (placed_at place token.EndObject ∷ more)

  none_settle : (b : Bool) (walk : Walking) → Settles b walk []
  none_settle true walk more = refl
  none_settle false walk more = refl

  mutual
    pub value_settles : {bytes rest : List ℕ} {v : JsonValue} (b : Bool) (fate : Fate) (around : List Reach) (place : Place) → IsNoKey place → (d : IsValue bytes v rest)
        → Settles b (at fate (settled b) around) (tokens_of place d)
    value_settles b fate around place n null = settles_one b (at fate (settled b) around) (placed_at place token.Null) (stays_settled b) refl
    value_settles b fate around place n truth = settles_one b (at fate (settled b) around) (placed_at place (token.Truth true)) (stays_settled b) refl
    value_settles b fate around place n falsehood = settles_one b (at fate (settled b) around) (placed_at place (token.Truth false)) (stays_settled b) refl
    value_settles b fate around place n (number {text = text} e i) = settles_one b (at fate (settled b) around) (placed_at place (token.Number text)) (stays_settled b) refl
    value_settles b fate around place n (string s) = text_settles b fate around place (between_quotes s) n
    value_settles b fate around place n (empty_array e) = array_settles b fate around place [] (none_settle b (at (settled b) (settled b) (record { fate = fate; entry = settled b } ∷ around)))
    value_settles b fate around place n (array vs) = array_settles b fate around place (item_tokens vs) (items_settle b (record { fate = fate; entry = settled b } ∷ around) vs)
    value_settles b fate around place n (empty_object e) = object_settles b fate around place [] (none_settle b (at (settled b) (settled b) (record { fate = fate; entry = settled b } ∷ around)))
    value_settles b fate around place n (object vs) = object_settles b fate around place (pair_tokens vs) (pairs_settle b (record { fate = fate; entry = settled b } ∷ around) vs)

    items_settle : {bytes rest : List ℕ} {row : Values} (b : Bool) (around : List Reach) (vs : AreJsonValues bytes row rest) → Settles b (at (settled b) (settled b) around) (item_tokens vs)
    items_settle b around (last_value v e) = value_settles b (settled b) around Item tt v
    items_settle b around (more_values v e vs) =
        settles_both b (at (settled b) (settled b) around) (tokens_of Item v) (item_tokens vs) (value_settles b (settled b) around Item tt v) (items_settle b around vs)

    pairs_settle : {bytes rest : List ℕ} {row : Members} (b : Bool) (around : List Reach) (vs : AreMembers bytes row rest) → Settles b (at (settled b) (settled b) around) (pair_tokens vs)
    pairs_settle b around (last_member k c v e) =
        settles_both b (at (settled b) (settled b) around) (placed_at Key (token.Text (between_quotes k)) ∷ []) (tokens_of Value v)
        (name_settles b around (between_quotes k)) (value_settles b (settled b) around Value tt v)
    pairs_settle b around (more_members k c v e vs) =
        settles_both b (at (settled b) (settled b) around) (placed_at Key (token.Text (between_quotes k)) ∷ []) (tokens_of Value v ++ pair_tokens vs) (name_settles b around (between_quotes k))
        (settles_both b (at (settled b) (settled b) around) (tokens_of Value v) (pair_tokens vs) (value_settles b (settled b) around Value tt v) (pairs_settle b around vs))

  -- ---- an entry

  module _ {bytes text colon : List ℕ} (paths : List Path) (around : List Reach) (k : IsString bytes text colon) (value : List Placed) (tree : Tree) (prune : List Path → Tree) (parts : Parts) where
    -- behind a name, whose value becomes so
    abbrev behind : Fate → Walking
    behind entry = at (Within paths) entry around

    with_name : (entry : Fate) (later : List Placed) (rest : List Call) (left : Tree)
        → SaysIn Value left (document_calls (left_tokens (behind entry) (value ++ later))) (document_calls (left_tokens (behind entry) later))
        → SayParts parts (plain (document_calls (left_tokens (behind entry) later))) (plain rest)
        → SayParts (part Slot.Key (Text text) (part Slot.Value left parts))
        (plain (document_calls (placed_at Key (token.Text (between_quotes k)) ∷ left_tokens (behind entry) (value ++ later)))) (plain rest)
    with_name entry later rest left s r =
        let calls = document_calls (left_tokens (behind entry) (value ++ later)) in (
          plain (string_value_calls (between_quotes k) ++ (Call.PartEnd Slot.Key ∷ calls)),
          plain calls,
          ap (λ x. plain (Call.PartBegin Slot.Key ∷ x)) (append_assoc (string_value_calls (between_quotes k)) (Call.PartEnd Slot.Key ∷ []) calls),
          text_says k (Call.PartEnd Slot.Key ∷ calls),
          (plain s.inner, plain (document_calls (left_tokens (behind entry) later)), ap plain s.begin, s.says, r),
        )

    entry_left : (entry : Fate) (later : List Placed) (rest : List Call) → ((b : Bool) → Settles b (behind (settled b)) value)
        → ((more : List Call) → SaysIn Value tree (document_calls value ++ more) more)
        → ((rests : List Path) → SaysIn Value (prune rests) (document_calls (left_tokens (behind (Within rests)) (value ++ later))) (document_calls (left_tokens (behind (Within rests)) later)))
        → SayParts parts (plain (document_calls (left_tokens (behind entry) later))) (plain rest)
        → SayParts (placed_entry entry (Text text) tree prune parts)
        (plain (document_calls (staying (stays_by entry) (placed_at Key (token.Text (between_quotes k))) (left_tokens (behind entry) (value ++ later))))) (plain rest)
    entry_left LeftOut later rest s v p r = subst (λ tokens. SayParts parts (plain (document_calls tokens)) (plain rest)) (sym (s false later)) r
    entry_left Stays later rest s v p r =
        let after = document_calls (left_tokens (behind Stays) later) in
        let joined = ap document_calls (s true later) ∙ flat_map-append placed_token_calls value (left_tokens (behind Stays) later) in
        with_name Stays later rest tree (subst (λ calls. SaysIn Value tree calls after) (sym joined) (v after)) r
    entry_left (Within rests) later rest s v p r = with_name (Within rests) later rest (prune rests) (p rests) r

  -- ---- what is left of a value

  -- what becomes of the last value of these pairs
  abbrev last_entry : {bytes rest : List ℕ} {row : Members} → List Path → AreMembers bytes row rest → Fate
  last_entry paths (last_member k c v e) = fate_of rule paths (Some (text_in (between_quotes k)))
  last_entry paths (more_members k c v e vs) = last_entry paths vs

  one_left : (place : Place) (tree : Tree) (placed : Placed) (later : List Placed) → ((more : List Call) → SaysIn place tree (document_calls (placed ∷ []) ++ more) more)
      → SaysIn place tree (document_calls (placed ∷ later)) (document_calls later)
  one_left place tree placed later s = subst (λ calls. SaysIn place tree calls (document_calls later)) (sym (flat_map-append placed_token_calls (placed ∷ []) later)) (s (document_calls later))

  pub number_left : (paths : List Path) (text : List ℕ) → pruned rule paths (number_tree text) ≡ number_tree text
  number_left paths text = go (fits_i64 text)
    where
      go : (b : Bool) → pruned rule paths (cond b (Tree.Int I64 (whole_value text)) (Tree.Tagged number_name (Text text))) ≡ cond b (Tree.Int I64 (whole_value text)) (Tree.Tagged number_name (Text text))
      go true = refl
      go false = refl

  module _ (paths : List Path) (fate : Fate) (around : List Reach) where
    -- before a value that is pruned
    abbrev here : Walking
    here = at fate (Within paths) around

    abbrev inside : List Reach
    inside = record { fate = fate; entry = Within paths } ∷ around

    -- an array or an object, of which the begin and the end make these calls
    held_left : (head : Head) (begin end : Token) → plain_head head ≡ head → (last : Fate) (place : Place) (parts : Parts) (mid : List Placed)
        → ((later : List Placed) → document_calls (left_tokens here (placed_at place begin ∷ later)) ≡ (place_begins place ++ (Call.Begin head None ∷ [])) ++ document_calls (left_tokens (at (Within paths) (Within paths) inside) later))
        → ((later : List Placed) → document_calls (left_tokens (at (Within paths) last inside) (placed_at place end ∷ later)) ≡ Call.End head ∷ (place_ends place ++ document_calls (left_tokens here later)))
        → ((later : List Placed) → SayParts parts (plain (document_calls (left_tokens (at (Within paths) (Within paths) inside) (mid ++ later)))) (plain (document_calls (left_tokens (at (Within paths) last inside) later))))
        → (more : List Placed) → SaysIn place (Container head parts)
        (document_calls (left_tokens here ((placed_at place begin ∷ (mid ++ (placed_at place end ∷ []))) ++ more))) (document_calls (left_tokens here more))
    held_left head begin end bare last place parts mid begins ends s more =
        let calls = document_calls (left_tokens (at (Within paths) (Within paths) inside) (mid ++ (placed_at place end ∷ more))) in
        record {
          inner = Call.Begin head None ∷ calls;
          begin = begins ((mid ++ (placed_at place end ∷ [])) ++ more)
              ∙ append_assoc (place_begins place) (Call.Begin head None ∷ []) (document_calls (left_tokens (at (Within paths) (Within paths) inside) ((mid ++ (placed_at place end ∷ [])) ++ more)))
              ∙ ap (λ x. place_begins place ++ (Call.Begin head None ∷ document_calls (left_tokens (at (Within paths) (Within paths) inside) x))) (append_assoc mid (placed_at place end ∷ []) more);
          says = (None, plain calls, tt, ap (λ h. Call.Begin h None ∷ plain calls) bare, subst (λ after. SayParts parts (plain calls) (plain after)) (ends more) (s (placed_at place end ∷ more)));
        }

  -- an item
  item_says : (tree : Tree) (parts : Parts) (calls after rest : List Call) → SaysIn Item tree calls after → SayParts parts (plain after) (plain rest)
      → SayParts (part Slot.Item tree parts) (plain calls) (plain rest)
  item_says tree parts calls after rest s r = (plain s.inner, plain after, ap plain s.begin, s.says, r)

  -- a pair, by what is left of its value wherever that is pruned
  pair_left : {bytes text colon other rest : List ℕ} {value : JsonValue} (paths : List Path) (around : List Reach) (k : IsString bytes text colon) (v : IsValue other value rest) (parts : Parts)
      (becomes : Fate) → fate_of rule paths (Some (text_in (between_quotes k))) ≡ becomes → (later : List Placed) (after : List Call)
      → ((rests : List Path) → SaysIn Value (pruned rule rests (tree_of value)) (document_calls (left_tokens (at (Within paths) (Within rests) around) (tokens_of Value v ++ later)))
      (document_calls (left_tokens (at (Within paths) (Within rests) around) later)))
      → SayParts parts (plain (document_calls (left_tokens (at (Within paths) becomes around) later))) (plain after)
      → SayParts (placed_entry (fate_of rule paths (Some text)) (Text text) (tree_of value) (λ rests. pruned rule rests (tree_of value)) parts)
      (plain (document_calls (staying (stays_by becomes) (placed_at Key (token.Text (between_quotes k))) (left_tokens (at (Within paths) becomes around) (tokens_of Value v ++ later))))) (plain after)
  pair_left {text = text} {value = value} paths around k v parts becomes is later after left r =
      let same = ap (λ x. fate_of rule paths (Some x)) (sym (pieces-text k)) ∙ is in
      subst (λ (f : Fate). SayParts (placed_entry f (Text text) (tree_of value) (λ rests. pruned rule rests (tree_of value)) parts)
      (plain (document_calls (staying (stays_by becomes) (placed_at Key (token.Text (between_quotes k))) (left_tokens (at (Within paths) becomes around) (tokens_of Value v ++ later))))) (plain after))
      (sym same)
      (entry_left paths around k (tokens_of Value v) (tree_of value) (λ rests. pruned rule rests (tree_of value)) parts becomes later after
      (λ b. value_settles b (Within paths) around Value tt v) (value_says Value v) left r)

  mutual
    value_left : {bytes rest : List ℕ} {v : JsonValue} (paths : List Path) (fate : Fate) (around : List Reach) (place : Place) → IsNoKey place → (d : IsValue bytes v rest) (more : List Placed)
        → SaysIn place (pruned rule paths (tree_of v)) (document_calls (left_tokens (at fate (Within paths) around) (tokens_of place d ++ more))) (document_calls (left_tokens (at fate (Within paths) around) more))
    value_left paths fate around place n null more = one_left place Tree.Null (placed_at place token.Null) (left_tokens (at fate (Within paths) around) more) (value_says {rest = []} place null)
    value_left paths fate around place n truth more = one_left place (Tree.Truth true) (placed_at place (token.Truth true)) (left_tokens (at fate (Within paths) around) more) (value_says {rest = []} place truth)
    value_left paths fate around place n falsehood more = one_left place (Tree.Truth false) (placed_at place (token.Truth false)) (left_tokens (at fate (Within paths) around) more) (value_says {rest = []} place falsehood)
    value_left paths fate around place n (number {text = text} e i) more =
        let after = left_tokens (at fate (Within paths) around) more in
        subst (λ tree. SaysIn place tree (document_calls (placed_at place (token.Number text) ∷ after)) (document_calls after)) (sym (number_left paths text))
        (one_left place (number_tree text) (placed_at place (token.Number text)) after (value_says place (number e i)))
    value_left paths fate around Alone n (string {text = text} s) more = one_left Alone (Text text) (placed_at Alone (token.Text (between_quotes s))) (left_tokens (at fate (Within paths) around) more) (value_says Alone (string s))
    value_left paths fate around Item n (string {text = text} s) more = one_left Item (Text text) (placed_at Item (token.Text (between_quotes s))) (left_tokens (at fate (Within paths) around) more) (value_says Item (string s))
    value_left paths fate around Value n (string {text = text} s) more = one_left Value (Text text) (placed_at Value (token.Text (between_quotes s))) (left_tokens (at fate (Within paths) around) more) (value_says Value (string s))
    value_left paths fate around Key n (string s) more = absurd n
    value_left paths fate around place n (empty_array e) more = held_left paths fate around Head.Seq token.BeginArray token.EndArray refl (Within paths) place none [] (λ later. refl) (λ later. refl) (λ later. refl) more
    value_left paths fate around place n (array {values = row} vs) more =
        held_left paths fate around Head.Seq token.BeginArray token.EndArray refl (Within paths) place (pruned_parts rule paths (items_of row)) (item_tokens vs) (λ later. refl) (λ later. refl)
        (items_left paths (record { fate = fate; entry = Within paths } ∷ around) vs) more
    value_left paths fate around place n (empty_object e) more = held_left paths fate around Head.Map token.BeginObject token.EndObject refl (Within paths) place none [] (λ later. refl) (λ later. refl) (λ later. refl) more
    value_left paths fate around place n (object {members = row} vs) more =
        held_left paths fate around Head.Map token.BeginObject token.EndObject refl (last_entry paths vs) place (pruned_parts rule paths (entries_of row)) (pair_tokens vs) (λ later. refl) (λ later. refl)
        (pairs_left paths (record { fate = fate; entry = Within paths } ∷ around) (Within paths) vs) more

    items_left : {bytes rest : List ℕ} {row : Values} (paths : List Path) (around : List Reach) (vs : AreJsonValues bytes row rest) (later : List Placed)
        → SayParts (pruned_parts rule paths (items_of row)) (plain (document_calls (left_tokens (at (Within paths) (Within paths) around) (item_tokens vs ++ later))))
        (plain (document_calls (left_tokens (at (Within paths) (Within paths) around) later)))
    items_left paths around (last_value {value = value} v e) later =
        let after = document_calls (left_tokens (at (Within paths) (Within paths) around) later) in
        item_says (pruned rule paths (tree_of value)) none (document_calls (left_tokens (at (Within paths) (Within paths) around) (tokens_of Item v ++ later))) after after
        (value_left paths (Within paths) around Item tt v later) refl
    items_left paths around (more_values {value = value} {values = row} v e vs) later =
        let walk = at (Within paths) (Within paths) around in
        let after = document_calls (left_tokens walk later) in
        subst (λ tokens. SayParts (pruned_parts rule paths (items_of (a_value value row))) (plain (document_calls (left_tokens walk tokens))) (plain after)) (sym (append_assoc (tokens_of Item v) (item_tokens vs) later))
        (item_says (pruned rule paths (tree_of value)) (pruned_parts rule paths (items_of row)) (document_calls (left_tokens walk (tokens_of Item v ++ (item_tokens vs ++ later))))
        (document_calls (left_tokens walk (item_tokens vs ++ later))) after
        (value_left paths (Within paths) around Item tt v (item_tokens vs ++ later)) (items_left paths around vs later))

    pairs_left : {bytes rest : List ℕ} {row : Members} (paths : List Path) (around : List Reach) (entry : Fate) (vs : AreMembers bytes row rest) (later : List Placed)
        → SayParts (pruned_parts rule paths (entries_of row)) (plain (document_calls (left_tokens (at (Within paths) entry around) (pair_tokens vs ++ later))))
        (plain (document_calls (left_tokens (at (Within paths) (last_entry paths vs) around) later)))
    pairs_left paths around entry (last_member {value = value} k c v e) later =
        pair_left paths around k v none (fate_of rule paths (Some (text_in (between_quotes k)))) refl later
        (document_calls (left_tokens (at (Within paths) (fate_of rule paths (Some (text_in (between_quotes k)))) around) later)) (λ rests. value_left rests (Within paths) around Value tt v later) refl
    pairs_left paths around entry (more_members {text = text} {value = value} {members = row} k c v e vs) later =
        let becomes = fate_of rule paths (Some (text_in (between_quotes k))) in
        let after = document_calls (left_tokens (at (Within paths) (last_entry paths vs) around) later) in
        subst (λ tokens. SayParts (placed_entry (fate_of rule paths (Some text)) (Text text) (tree_of value) (λ rests. pruned rule rests (tree_of value)) (pruned_parts rule paths (entries_of row)))
        (plain (document_calls (staying (stays_by becomes) (placed_at Key (token.Text (between_quotes k))) (left_tokens (at (Within paths) becomes around) tokens)))) (plain after))
        (sym (append_assoc (tokens_of Value v) (pair_tokens vs) later))
        (pair_left paths around k v (pruned_parts rule paths (entries_of row)) becomes refl (pair_tokens vs ++ later) after
        (λ rests. value_left rests (Within paths) around Value tt v (pair_tokens vs ++ later)) (pairs_left paths around becomes vs later))

  value_spells : {bytes rest : List ℕ} {v : JsonValue} (paths : List Path) (d : IsValue bytes v rest) → Spells (left_calls rule paths (tokens_of Alone d)) (pruned rule paths (tree_of v))
  value_spells {v = v} paths d =
      let s = value_left paths (Within paths) [] Alone tt d [] in (
        pruned_good rule paths (tree_of v) (good v),
        subst (λ (calls : List Call). Says (pruned rule paths (tree_of v)) (plain calls) [])
            (sym s.begin ∙ ap (λ tokens. document_calls (left_tokens (walk_start rule paths) tokens)) (append-nil (tokens_of Alone d))) s.says,
      )

-- the calls of the tokens that stay spell what is left of the document's tree
pub left_spells : (rule : Rule) (paths : List Path) (bytes : List ℕ) (tokens : List Placed) (d : IsDocument bytes tokens) → Spells (left_calls rule paths tokens) (pruned rule paths (tree_of d.value))
left_spells rule paths bytes tokens d =
    subst (λ row. Spells (left_calls rule paths row) (pruned rule paths (tree_of d.value))) (sym d.same) (value_spells rule paths d.denotes.is_value)
