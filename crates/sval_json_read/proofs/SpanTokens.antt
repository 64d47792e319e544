-- How many tokens a value has, by what is open behind each.
use Rattle.std.specs.Prelude.{◌≡◌, ℕ, zero, suc, ◌+◌, ◌-◌, List, [], ◌∷◌, ◌++◌, length, refl}
use Rattle.std.proofs.Common.{ap, ◌∙◌, arith, append_assoc, length-append}
use Rattle.sval_json.specs.Grammar.{JsonValue, Values, Members, IsValue, null, truth, falsehood, number, string, empty_array, array, empty_object, object, AreJsonValues, last_value, more_values, AreMembers, last_member, more_members}
use Rattle.sval_json_read.specs.Tokens as token
use Rattle.sval_json_read.specs.Tokens.{Place, Alone, Item, Key, Value, Token, Placed, placed_at, between_quotes, tokens_of, item_tokens, pair_tokens}
use Rattle.sval_json_read.specs.Nodes as kept
use Rattle.sval_json_read.specs.Nodes.{Kept, JsonNode, token_in, tokens_in}
use Rattle.sval_json_read.specs.NodeSpans.{depth_behind, while_open, span}

-- ---- the same of tokens

abbrev depth_after : Token → ℕ → ℕ
depth_after token.Null depth = depth
depth_after (token.Truth b) depth = depth
depth_after (token.Number text) depth = depth
depth_after (token.Text raw) depth = depth
depth_after token.BeginArray depth = suc depth
depth_after token.EndArray depth = depth - 1
depth_after token.BeginObject depth = suc depth
depth_after token.EndObject depth = depth - 1

abbrev pub token_span : ℕ → List Placed → ℕ
token_span depth [] = zero
token_span depth (placed ∷ tokens) = suc (while_open (depth_after placed.token depth) (token_span (depth_after placed.token depth) tokens))

same_depth : (bytes : List ℕ) (one : Kept) (depth : ℕ) → depth_behind one depth ≡ depth_after (token_in bytes one) depth
same_depth bytes kept.Null depth = refl
same_depth bytes (kept.Truth b) depth = refl
same_depth bytes (kept.Number from upto) depth = refl
same_depth bytes (kept.Text from upto) depth = refl
same_depth bytes kept.BeginArray depth = refl
same_depth bytes kept.EndArray depth = refl
same_depth bytes kept.BeginObject depth = refl
same_depth bytes kept.EndObject depth = refl

pub span-tokens : (bytes : List ℕ) (depth : ℕ) (nodes : List JsonNode) → span depth nodes ≡ token_span depth (tokens_in bytes nodes)
span-tokens bytes depth [] = refl
span-tokens bytes depth (node ∷ nodes) =
    ap (λ n. suc (while_open (depth_behind node.kept depth) n)) (span-tokens bytes (depth_behind node.kept depth) nodes)
    ∙ ap (λ d. suc (while_open d (token_span d (tokens_in bytes nodes)))) (same_depth bytes node.kept depth)

-- ---- the tokens of a value

one : (n : ℕ) → suc n ≡ 1 + n
one n = omega arith

none : (n : ℕ) → n ≡ 0 + n
none n = omega arith

one_less : (n : ℕ) → suc n - 1 ≡ n
one_less n = omega arith

-- a bracket, what stands in it, and the bracket behind it
in_brackets : (place : Place) (end : Token) (depth : ℕ) (inner rest : List Placed) → depth_after end (suc depth) ≡ depth
    → token_span (suc depth) (inner ++ (placed_at place end ∷ rest)) ≡ length inner + token_span (suc depth) (placed_at place end ∷ rest)
    → suc (token_span (suc depth) ((inner ++ (placed_at place end ∷ [])) ++ rest)) ≡ suc (length (inner ++ (placed_at place end ∷ []))) + while_open depth (token_span depth rest)
in_brackets place end depth inner rest d e =
    let l = length-append inner (placed_at place end ∷ []) in
    let f = ap (λ tokens. token_span (suc depth) tokens) (append_assoc inner (placed_at place end ∷ []) rest) in
    let g = ap (λ n. length inner + suc (while_open n (token_span n rest))) d in
    let s = f ∙ e ∙ g in
    omega (arith, l, s)

mutual
  pub value-span : {bytes rest : List ℕ} {value : JsonValue} (depth : ℕ) (place : Place) (is_value : IsValue bytes value rest) (more : List Placed)
      → token_span depth (tokens_of place is_value ++ more) ≡ length (tokens_of place is_value) + while_open depth (token_span depth more)
  value-span depth place null more = one (while_open depth (token_span depth more))
  value-span depth place truth more = one (while_open depth (token_span depth more))
  value-span depth place falsehood more = one (while_open depth (token_span depth more))
  value-span depth place (number e n) more = one (while_open depth (token_span depth more))
  value-span depth place (string s) more = one (while_open depth (token_span depth more))
  value-span depth place (empty_array e) more = in_brackets place token.EndArray depth [] more (one_less depth) (none (token_span (suc depth) (placed_at place token.EndArray ∷ more)))
  value-span depth place (array values) more = in_brackets place token.EndArray depth (item_tokens values) more (one_less depth) (items-span depth values (placed_at place token.EndArray ∷ more))
  value-span depth place (empty_object e) more = in_brackets place token.EndObject depth [] more (one_less depth) (none (token_span (suc depth) (placed_at place token.EndObject ∷ more)))
  value-span depth place (object members) more = in_brackets place token.EndObject depth (pair_tokens members) more (one_less depth) (pairs-span depth members (placed_at place token.EndObject ∷ more))

  pub items-span : {bytes rest : List ℕ} {values : Values} (depth : ℕ) (are : AreJsonValues bytes values rest) (more : List Placed)
      → token_span (suc depth) (item_tokens are ++ more) ≡ length (item_tokens are) + token_span (suc depth) more
  items-span depth (last_value value e) more = value-span (suc depth) Item value more
  items-span depth (more_values value e values) more =
      let l = length-append (tokens_of Item value) (item_tokens values) in
      let f = ap (λ tokens. token_span (suc depth) tokens) (append_assoc (tokens_of Item value) (item_tokens values) more) in
      let g = value-span (suc depth) Item value (item_tokens values ++ more) in
      let h = items-span depth values more in
      omega (arith, l, f, g, h)

  pub pairs-span : {bytes rest : List ℕ} {members : Members} (depth : ℕ) (are : AreMembers bytes members rest) (more : List Placed)
      → token_span (suc depth) (pair_tokens are ++ more) ≡ length (pair_tokens are) + token_span (suc depth) more
  pairs-span depth (last_member key c value e) more = let g = value-span (suc depth) Value value more in omega (arith, g)
  pairs-span depth (more_members key c value e members) more =
      let l = length-append (tokens_of Value value) (pair_tokens members) in
      let f = ap (λ tokens. token_span (suc depth) tokens) (append_assoc (tokens_of Value value) (pair_tokens members) more) in
      let g = value-span (suc depth) Value value (pair_tokens members ++ more) in
      let h = pairs-span depth members more in
      omega (arith, l, f, g, h)
