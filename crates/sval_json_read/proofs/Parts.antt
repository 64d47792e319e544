-- The tokens of a value taken by itself, and its calls.
use Rattle.std.specs.Prelude.{◌≡◌, ℕ, List, [], ◌∷◌, ◌++◌, refl}
use Rattle.std.proofs.Common.{sym, ap, subst, ◌∙◌}
use Rattle.sval_core.specs.Spells.{Spells}
use Rattle.sval_json.specs.Grammar.{JsonValue, IsValue, null, truth, falsehood, number, string, empty_array, array, empty_object, object}
use Rattle.sval_json_read.specs.Trees.{tree_of}
use Rattle.sval_json_read.specs.Tokens as token
use Rattle.sval_json_read.specs.Tokens.{Place, Alone, Item, Value, Token, Placed, placed_at, between_quotes, tokens_of, item_tokens, pair_tokens}
use Rattle.sval_json_read.specs.Calls.{document_calls}
use Rattle.sval_json_read.specs.Parts.{last_alone, by_itself, IsPart}
use Rattle.sval_json_read.specs.SeenValues.{value_in}
use Rattle.sval_json_read.specs.ValueNodes.{IsOfValue, alone, item, of_pair}
use Rattle.sval_json_read.proofs.SeenValues.{value-seen}
use Rattle.sval_json_read.proofs.SpelledTrees.{value-spells}

-- ---- taken by itself, a value has the tokens that it would have alone

last-set : (row : List Placed) (last : Placed) → last_alone (row ++ (last ∷ [])) ≡ row ++ (placed_at Alone last.token ∷ [])
last-set [] last = refl
last-set (one ∷ []) last = refl
last-set (one ∷ (two ∷ row)) last = ap (λ tokens. one ∷ tokens) (last-set (two ∷ row) last)

-- the first and the last are set, and what is between them is as it was
pub ends-set : (first last : Placed) (mid : List Placed) → by_itself (first ∷ (mid ++ (last ∷ []))) ≡ placed_at Alone first.token ∷ (mid ++ (placed_at Alone last.token ∷ []))
ends-set first last mid = last-set (placed_at Alone first.token ∷ mid) last

pub alone-again : {bytes rest : List ℕ} {value : JsonValue} (place : Place) (is_value : IsValue bytes value rest) → by_itself (tokens_of place is_value) ≡ tokens_of Alone is_value
alone-again place null = refl
alone-again place truth = refl
alone-again place falsehood = refl
alone-again place (number e n) = refl
alone-again place (string s) = refl
alone-again place (empty_array e) = refl
alone-again place (array are) = ends-set (placed_at place token.BeginArray) (placed_at place token.EndArray) (item_tokens are)
alone-again place (empty_object e) = refl
alone-again place (object are) = ends-set (placed_at place token.BeginObject) (placed_at place token.EndObject) (pair_tokens are)

pub part-of : {tokens : List Placed} {value : JsonValue} → IsOfValue tokens value → IsPart (by_itself tokens) value
part-of (alone is_value) = record { bytes = _; rest = _; is_value = is_value; same = alone-again Alone is_value }
part-of (item is_value) = record { bytes = _; rest = _; is_value = is_value; same = alone-again Item is_value }
part-of (of_pair is_value) = record { bytes = _; rest = _; is_value = is_value; same = alone-again Value is_value }

-- ---- what a part shows, and what its calls spell

pub part-seen : {tokens : List Placed} {value : JsonValue} → IsPart tokens value → value_in tokens ≡ value
part-seen p = ap value_in p.same ∙ value-seen (alone p.is_value)

pub part-spells : {tokens : List Placed} {value : JsonValue} → IsPart tokens value → Spells (document_calls tokens) (tree_of value)
part-spells {value = value} p = subst (λ row. Spells (document_calls row) (tree_of value)) (sym p.same) (value-spells p.is_value)

-- what is seen of the nodes of a value, by itself, is a part with the value that is seen of them
pub part-is : {tokens part : List Placed} {value now : JsonValue} → IsOfValue tokens value → part ≡ by_itself tokens → value_in tokens ≡ now → IsPart part now
part-is {tokens = tokens} {now = now} is e v =
    subst (λ row. IsPart row now) (sym e) (subst (IsPart (by_itself tokens)) (sym (value-seen is) ∙ v) (part-of is))
