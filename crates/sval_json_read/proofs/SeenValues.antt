-- The value that tokens are of is the one of which they are the tokens.
use Rattle.std.specs.Prelude.{◌≡◌, ℕ, Bool, true, false, List, [], ◌∷◌, ◌++◌, refl}
use Rattle.std.proofs.Common.{sym, ap, ◌∙◌, append_assoc, append-nil}
use Rattle.sval_json.specs.Grammar as json
use Rattle.sval_json.specs.Grammar.{JsonValue, Values, no_values, a_value, Members, no_members, a_member, IsString, IsValue, null, truth, falsehood, number, string, empty_array, array, empty_object, object, AreJsonValues, last_value, more_values, AreMembers, last_member, more_members}
use Rattle.sval_json_read.specs.Tokens as token
use Rattle.sval_json_read.specs.Tokens.{Place, Alone, Item, Key, Value, Token, Placed, placed_at, between_quotes, tokens_of, item_tokens, pair_tokens}
use Rattle.sval_json_read.specs.SeenValues.{first_value, text_in, Level, innermost_level, puts, names, puts_text, levels_of, values_in, members_in, value_in}
use Rattle.sval_json_read.specs.ValueCodes.{puts_all, pairs_all, array_puts, object_puts}
use Rattle.sval_json_read.specs.ValueNodes.{IsOfValue, alone, item, of_pair, IsOfValues, no_items, an_item, IsOfMembers, no_pairs, a_pair}
use Rattle.sval_json_read.proofs.PieceTexts.{pieces-text}

abbrev is_key : Place → Bool
is_key Alone = false
is_key Item = false
is_key Key = true
is_key Value = false

text_puts : (place : Place) (text : List ℕ) (levels : List Level) → is_key place ≡ false → puts_text place text levels ≡ puts (json.Text text) levels
text_puts Alone text levels h = refl
text_puts Item text levels h = refl
text_puts Key text levels h = absurd (cc h)
text_puts Value text levels h = refl

mutual
  pub value-levels : {bytes rest : List ℕ} {value : JsonValue} (place : Place) (is_value : IsValue bytes value rest) (more : List Placed) → is_key place ≡ false
      → levels_of (tokens_of place is_value ++ more) ≡ puts value (levels_of more)
  value-levels place null more h = refl
  value-levels place truth more h = refl
  value-levels place falsehood more h = refl
  value-levels place (number e n) more h = refl
  value-levels place (string s) more h = ap (λ text. puts_text place text (levels_of more)) (pieces-text s) ∙ text_puts place _ (levels_of more) h
  value-levels place (empty_array e) more h = refl
  value-levels place (array {values = values} are) more h =
      array_puts values (levels_of more) _ (ap levels_of (append_assoc (item_tokens are) (placed_at place token.EndArray ∷ []) more) ∙ items-levels are (placed_at place token.EndArray ∷ more))
  value-levels place (empty_object e) more h = refl
  value-levels place (object {members = members} are) more h =
      object_puts members (levels_of more) _ (ap levels_of (append_assoc (pair_tokens are) (placed_at place token.EndObject ∷ []) more) ∙ pairs-levels are (placed_at place token.EndObject ∷ more))

  items-levels : {bytes rest : List ℕ} {values : Values} (are : AreJsonValues bytes values rest) (more : List Placed) → levels_of (item_tokens are ++ more) ≡ puts_all values (levels_of more)
  items-levels (last_value value e) more = value-levels Item value more refl
  items-levels (more_values {value = value} is_value e values) more =
      ap levels_of (append_assoc (tokens_of Item is_value) (item_tokens values) more) ∙ value-levels Item is_value (item_tokens values ++ more) refl
      ∙ ap (puts value) (items-levels values more)

  pairs-levels : {bytes rest : List ℕ} {members : Members} (are : AreMembers bytes members rest) (more : List Placed) → levels_of (pair_tokens are ++ more) ≡ pairs_all members (levels_of more)
  pairs-levels (last_member {value = value} key c is_value e) more =
      ap (λ levels. names (text_in (between_quotes key)) levels) (value-levels Value is_value more refl) ∙ ap (λ text. names text (puts value (levels_of more))) (pieces-text key)
  pairs-levels (more_members {value = value} {members = members} key c is_value e are) more =
      ap (λ levels. names (text_in (between_quotes key)) levels)
      (ap levels_of (append_assoc (tokens_of Value is_value) (pair_tokens are) more) ∙ value-levels Value is_value (pair_tokens are ++ more) refl ∙ ap (puts value) (pairs-levels are more))
      ∙ ap (λ text. names text (puts value (pairs_all members (levels_of more)))) (pieces-text key)

alone_value : {bytes rest : List ℕ} {value : JsonValue} (place : Place) (is_value : IsValue bytes value rest) → is_key place ≡ false → value_in (tokens_of place is_value) ≡ value
alone_value place is_value h = ap value_in (sym (append-nil (tokens_of place is_value))) ∙ ap (λ (levels : List Level). first_value (innermost_level levels).values) (value-levels place is_value [] h)

-- tokens of a value show it
pub value-seen : {tokens : List Placed} {value : JsonValue} → IsOfValue tokens value → value_in tokens ≡ value
value-seen (alone is_value) = alone_value Alone is_value refl
value-seen (item is_value) = alone_value Item is_value refl
value-seen (of_pair is_value) = alone_value Value is_value refl

-- and so do those of the items of an array
pub values-seen : {tokens : List Placed} {values : Values} → IsOfValues tokens values → values_in tokens ≡ values
values-seen no_items = refl
values-seen (an_item {value = value} {tokens = tokens} is_value are) =
    ap (λ (levels : List Level). (innermost_level levels).values) (value-levels Item is_value tokens refl) ∙ ap (a_value value) (values-seen are)

-- and of the pairs of an object
pub members-seen : {tokens : List Placed} {members : Members} → IsOfMembers tokens members → members_in tokens ≡ members
members-seen no_pairs = refl
members-seen (a_pair {text = text} {value = value} {tokens = tokens} key is_value are) =
    ap (λ (levels : List Level). (innermost_level (names (text_in (between_quotes key)) levels)).members) (value-levels Value is_value tokens refl)
    ∙ ap (λ t. a_member t value (members_in tokens)) (pieces-text key) ∙ ap (a_member text value) (members-seen are)
