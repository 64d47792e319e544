-- The machine reads each text that denotes a value, and gives its tokens.
use Rattle.std.specs.Prelude.{◌≡◌, ℕ, Bool, true, false, cond, List, [], ◌∷◌, ◌++◌, Option, Some, None, option_and_then, option_map, refl, ◌==◌, ◌||◌}
use Rattle.std.specs.Char.{is_ascii_digit}
use Rattle.std.proofs.Common.{sym, ap, ◌∙◌, append_assoc, arith}
use Rattle.std.proofs.lemmas.Bool.Decides.{nat_tests}
use Rattle.sval_json.specs.Digits.{front, after_front, is_json_number, is_number_byte}
use Rattle.sval_json.specs.Grammar.{JsonValue, Values, Members, after_space, IsValue, null, truth, falsehood, number, string, empty_array, array, empty_object, object, AreJsonValues, last_value, more_values, AreMembers, last_member, more_members, Denotes}
use Rattle.sval_json.proofs.NumberGrammar.{number_run, run_tested, starts_as_number, number_first, mark_follows, end_follows, EndsNumber}
use Rattle.sval_json_read.specs.Tokens as token
use Rattle.sval_json_read.specs.Tokens.{Place, Alone, Item, Key, Value, Placed, placed_at, between_quotes, tokens_of, item_tokens, pair_tokens}
use Rattle.sval_json_read.specs.Numbers.{NumberPhase, first_phase}
use Rattle.sval_json_read.specs.Reader.{Opened, Array, Object, AValue, FirstItem, FirstKey, NextKey, Colon, Next, InNumber, place_in, reader_start, tokens_read}
use Rattle.sval_json_read.proofs.NumberPhases.{completes_after, first-completes}
use Rattle.sval_json_read.proofs.Runs.{at_state, read_from, read_from-after, skip_to_value, skip_to_item, skip_to_key, skip_to_next_key, skip_to_colon, skip_to_next, number-run, begins_number, first_item_number}
use Rattle.sval_json_read.proofs.StringRuns.{string-run}

-- ---- numbers

number_begun : (opened : List Opened) (tokens : List Placed) (byte : ℕ) (bytes : List ℕ) (o : Option NumberPhase) → completes_after o (front is_number_byte bytes) ≡ true
    → option_and_then (λ next. read_from next bytes) (option_map (λ phase. at_state (InNumber phase (byte ∷ [])) opened tokens) o)
    ≡ read_from (at_state Next opened (tokens ++ (placed_at (place_in opened) (token.Number (byte ∷ front is_number_byte bytes)) ∷ []))) (after_front is_number_byte bytes)
number_begun opened tokens byte bytes None h = cc h
number_begun opened tokens byte bytes (Some phase) h = number-run bytes phase (byte ∷ []) opened tokens h

number_read : (opened : List Opened) (tokens : List Placed) (bytes : List ℕ) → is_json_number (front is_number_byte bytes) ≡ true
    → read_from (at_state AValue opened tokens) bytes
    ≡ read_from (at_state Next opened (tokens ++ (placed_at (place_in opened) (token.Number (front is_number_byte bytes)) ∷ []))) (after_front is_number_byte bytes)
number_read opened tokens [] h = cc h
number_read opened tokens (byte ∷ bytes) h = go (is_number_byte byte) refl h
  where
    go : (b : Bool) → is_number_byte byte ≡ b → is_json_number (cond b (byte ∷ front is_number_byte bytes) []) ≡ true
        → read_from (at_state AValue opened tokens) (byte ∷ bytes)
        ≡ read_from (at_state Next opened (tokens ++ (placed_at (place_in opened) (token.Number (cond b (byte ∷ front is_number_byte bytes) [])) ∷ []))) (cond b (after_front is_number_byte bytes) (byte ∷ bytes))
    go true e k =
        ap (option_and_then (λ next. read_from next bytes)) (begins_number opened tokens byte e)
        ∙ number_begun opened tokens byte bytes (first_phase byte) (sym (first-completes byte (front is_number_byte bytes)) ∙ k)
    go false e k = cc k

-- where a value begins, the first item is read as any
digit_or_minus : (byte : ℕ) → ((byte == 45) || is_ascii_digit byte) ≡ true → is_number_byte byte ≡ true
digit_or_minus byte h = grind (arith, nat_tests)

first_number : (opened : List Opened) (tokens : List Placed) (bytes : List ℕ) → starts_as_number bytes ≡ true
    → read_from (at_state FirstItem opened tokens) bytes ≡ read_from (at_state AValue opened tokens) bytes
first_number opened tokens [] h = refl
first_number opened tokens (byte ∷ bytes) h = ap (option_and_then (λ next. read_from next bytes)) (first_item_number opened tokens byte (digit_or_minus byte h))

first_is_any : {bytes rest : List ℕ} {value : JsonValue} (opened : List Opened) (tokens : List Placed) → IsValue bytes value rest
    → read_from (at_state FirstItem opened tokens) bytes ≡ read_from (at_state AValue opened tokens) bytes
first_is_any opened tokens null = refl
first_is_any opened tokens truth = refl
first_is_any opened tokens falsehood = refl
first_is_any opened tokens (number {bytes = bytes} e n) = first_number opened tokens bytes (number_first _ e n)
first_is_any opened tokens (string s) = refl
first_is_any opened tokens (empty_array e) = refl
first_is_any opened tokens (array v) = refl
first_is_any opened tokens (empty_object e) = refl
first_is_any opened tokens (object v) = refl

first_of_row : {bytes rest : List ℕ} {values : Values} (opened : List Opened) (tokens : List Placed) → AreJsonValues bytes values rest
    → read_from (at_state FirstItem opened tokens) bytes ≡ read_from (at_state AValue opened tokens) bytes
first_of_row opened tokens (last_value v e) = first_is_any opened tokens v
first_of_row opened tokens (more_values v e vs) = first_is_any opened tokens v

first_of_pairs : {bytes rest : List ℕ} {members : Members} (opened : List Opened) (tokens : List Placed) → AreMembers bytes members rest
    → read_from (at_state FirstKey opened tokens) bytes ≡ read_from (at_state NextKey opened tokens) bytes
first_of_pairs opened tokens (last_member k c v e) = refl
first_of_pairs opened tokens (more_members k c v e vs) = refl

-- ---- after a value

to_byte : (opened : List Opened) (tokens : List Placed) (bytes : List ℕ) (byte : ℕ) (rest : List ℕ) → after_space bytes ≡ byte ∷ rest
    → read_from (at_state Next opened tokens) bytes ≡ read_from (at_state Next opened tokens) (byte ∷ rest)
to_byte opened tokens bytes byte rest e = skip_to_next opened tokens bytes ∙ ap (read_from (at_state Next opened tokens)) e

-- the value of a pair, behind its colon
to_value : (opened : List Opened) (tokens : List Placed) (colon next : List ℕ) → after_space colon ≡ 58 ∷ next
    → read_from (at_state Colon opened tokens) colon ≡ read_from (at_state AValue opened tokens) (after_space next)
to_value opened tokens colon next e = skip_to_colon opened tokens colon ∙ ap (read_from (at_state Colon opened tokens)) e ∙ skip_to_value opened tokens next

-- the tokens so far, regrouped
same_tokens : (opened : List Opened) (rest : List ℕ) {xs ys : List Placed} → xs ≡ ys → read_from (at_state Next opened xs) rest ≡ read_from (at_state Next opened ys) rest
same_tokens opened rest e = ap (λ x. read_from (at_state Next opened x) rest) e

begun_and_ended : (tokens items : List Placed) (b e : Placed) → ((tokens ++ (b ∷ [])) ++ items) ++ (e ∷ []) ≡ tokens ++ (b ∷ (items ++ (e ∷ [])))
begun_and_ended tokens items b e = append_assoc (tokens ++ (b ∷ [])) items (e ∷ []) ∙ append_assoc tokens (b ∷ []) (items ++ (e ∷ []))

one_and_more : (tokens one more : List Placed) (e : Placed) → ((tokens ++ one) ++ more) ++ (e ∷ []) ≡ (tokens ++ (one ++ more)) ++ (e ∷ [])
one_and_more tokens one more e = ap (λ x. x ++ (e ∷ [])) (append_assoc tokens one more)

key_and_value : (tokens value : List Placed) (k e : Placed) → ((tokens ++ (k ∷ [])) ++ value) ++ (e ∷ []) ≡ (tokens ++ (k ∷ value)) ++ (e ∷ [])
key_and_value tokens value k e = ap (λ x. x ++ (e ∷ [])) (append_assoc tokens (k ∷ []) value)

pair_and_more : (tokens value more : List Placed) (k e : Placed) → (((tokens ++ (k ∷ [])) ++ value) ++ more) ++ (e ∷ []) ≡ (tokens ++ (k ∷ (value ++ more))) ++ (e ∷ [])
pair_and_more tokens value more k e = ap (λ x. x ++ (e ∷ [])) (append_assoc (tokens ++ (k ∷ [])) value more ∙ append_assoc tokens (k ∷ []) (value ++ more))

-- ---- values

mutual
  pub value-run : {bytes rest : List ℕ} {value : JsonValue} (v : IsValue bytes value rest) → EndsNumber rest → (opened : List Opened) (tokens : List Placed)
      → read_from (at_state AValue opened tokens) bytes ≡ read_from (at_state Next opened (tokens ++ tokens_of (place_in opened) v)) rest
  value-run null r opened tokens = refl
  value-run truth r opened tokens = refl
  value-run falsehood r opened tokens = refl
  value-run (number {bytes = bytes} {text = text} {rest = rest} e n) r opened tokens =
      let run = number_run e n r.ends in
      number_read opened tokens bytes (run_tested _ e n r.ends)
      ∙ ap (λ x. read_from (at_state Next opened (tokens ++ (placed_at (place_in opened) (token.Number x) ∷ []))) (after_front is_number_byte bytes)) run.run
      ∙ ap (λ x. read_from (at_state Next opened (tokens ++ (placed_at (place_in opened) (token.Number text) ∷ []))) x) run.after
  value-run (string s) r opened tokens = string-run false opened tokens [] s
  value-run (empty_array {bytes = bytes} {rest = rest} e) r opened tokens =
      skip_to_item (Array ∷ opened) (tokens ++ (placed_at (place_in opened) token.BeginArray ∷ [])) bytes
      ∙ ap (read_from (at_state FirstItem (Array ∷ opened) (tokens ++ (placed_at (place_in opened) token.BeginArray ∷ [])))) e
      ∙ same_tokens opened rest (append_assoc tokens (placed_at (place_in opened) token.BeginArray ∷ []) (placed_at (place_in opened) token.EndArray ∷ []))
  value-run (array {bytes = bytes} {rest = rest} vs) r opened tokens =
      skip_to_item (Array ∷ opened) (tokens ++ (placed_at (place_in opened) token.BeginArray ∷ [])) bytes
      ∙ first_of_row (Array ∷ opened) (tokens ++ (placed_at (place_in opened) token.BeginArray ∷ [])) vs
      ∙ items-run vs opened (tokens ++ (placed_at (place_in opened) token.BeginArray ∷ []))
      ∙ same_tokens opened rest (begun_and_ended tokens (item_tokens vs) (placed_at (place_in opened) token.BeginArray) (placed_at (place_in opened) token.EndArray))
  value-run (empty_object {bytes = bytes} {rest = rest} e) r opened tokens =
      skip_to_key (Object ∷ opened) (tokens ++ (placed_at (place_in opened) token.BeginObject ∷ [])) bytes
      ∙ ap (read_from (at_state FirstKey (Object ∷ opened) (tokens ++ (placed_at (place_in opened) token.BeginObject ∷ [])))) e
      ∙ same_tokens opened rest (append_assoc tokens (placed_at (place_in opened) token.BeginObject ∷ []) (placed_at (place_in opened) token.EndObject ∷ []))
  value-run (object {bytes = bytes} {rest = rest} vs) r opened tokens =
      skip_to_key (Object ∷ opened) (tokens ++ (placed_at (place_in opened) token.BeginObject ∷ [])) bytes
      ∙ first_of_pairs (Object ∷ opened) (tokens ++ (placed_at (place_in opened) token.BeginObject ∷ [])) vs
      ∙ pairs-run vs opened (tokens ++ (placed_at (place_in opened) token.BeginObject ∷ []))
      ∙ same_tokens opened rest (begun_and_ended tokens (pair_tokens vs) (placed_at (place_in opened) token.BeginObject) (placed_at (place_in opened) token.EndObject))

  items-run : {bytes rest : List ℕ} {values : Values} (v : AreJsonValues bytes values rest) (opened : List Opened) (tokens : List Placed)
      → read_from (at_state AValue (Array ∷ opened) tokens) bytes ≡ read_from (at_state Next opened ((tokens ++ item_tokens v) ++ (placed_at (place_in opened) token.EndArray ∷ []))) rest
  items-run (last_value {after = after} {rest = rest} v e) opened tokens =
      value-run v (mark_follows e refl) (Array ∷ opened) tokens ∙ to_byte (Array ∷ opened) (tokens ++ tokens_of Item v) after 93 rest e
  items-run (more_values {after = after} {next = next} {rest = rest} v e vs) opened tokens =
      value-run v (mark_follows e refl) (Array ∷ opened) tokens ∙ to_byte (Array ∷ opened) (tokens ++ tokens_of Item v) after 44 next e
      ∙ skip_to_value (Array ∷ opened) (tokens ++ tokens_of Item v) next ∙ items-run vs opened (tokens ++ tokens_of Item v)
      ∙ same_tokens opened rest (one_and_more tokens (tokens_of Item v) (item_tokens vs) (placed_at (place_in opened) token.EndArray))

  pairs-run : {bytes rest : List ℕ} {members : Members} (v : AreMembers bytes members rest) (opened : List Opened) (tokens : List Placed)
      → read_from (at_state NextKey (Object ∷ opened) tokens) bytes ≡ read_from (at_state Next opened ((tokens ++ pair_tokens v) ++ (placed_at (place_in opened) token.EndObject ∷ []))) rest
  pairs-run (last_member {colon = colon} {next = next} {after = after} {rest = rest} k c v e) opened tokens =
      string-run true (Object ∷ opened) tokens [] k
      ∙ to_value (Object ∷ opened) (tokens ++ (placed_at Key (token.Text (between_quotes k)) ∷ [])) colon next c
      ∙ value-run v (mark_follows e refl) (Object ∷ opened) (tokens ++ (placed_at Key (token.Text (between_quotes k)) ∷ []))
      ∙ to_byte (Object ∷ opened) ((tokens ++ (placed_at Key (token.Text (between_quotes k)) ∷ [])) ++ tokens_of Value v) after 125 rest e
      ∙ same_tokens opened rest (key_and_value tokens (tokens_of Value v) (placed_at Key (token.Text (between_quotes k))) (placed_at (place_in opened) token.EndObject))
  pairs-run (more_members {colon = colon} {next = next} {after = after} {more = more} {rest = rest} k c v e vs) opened tokens =
      string-run true (Object ∷ opened) tokens [] k
      ∙ to_value (Object ∷ opened) (tokens ++ (placed_at Key (token.Text (between_quotes k)) ∷ [])) colon next c
      ∙ value-run v (mark_follows e refl) (Object ∷ opened) (tokens ++ (placed_at Key (token.Text (between_quotes k)) ∷ []))
      ∙ to_byte (Object ∷ opened) ((tokens ++ (placed_at Key (token.Text (between_quotes k)) ∷ [])) ++ tokens_of Value v) after 44 more e
      ∙ skip_to_next_key (Object ∷ opened) ((tokens ++ (placed_at Key (token.Text (between_quotes k)) ∷ [])) ++ tokens_of Value v) more
      ∙ pairs-run vs opened ((tokens ++ (placed_at Key (token.Text (between_quotes k)) ∷ [])) ++ tokens_of Value v)
      ∙ same_tokens opened rest (pair_and_more tokens (tokens_of Value v) (pair_tokens vs) (placed_at Key (token.Text (between_quotes k))) (placed_at (place_in opened) token.EndObject))

-- the tokens of a text that denotes a value
pub denoted-read : {bytes : List ℕ} {value : JsonValue} (d : Denotes bytes value) → tokens_read bytes ≡ Some (tokens_of Alone d.is_value)
denoted-read {bytes} d =
    sym (read_from-after bytes reader_start) ∙ skip_to_value [] [] bytes ∙ value-run d.is_value (end_follows d.at_end) [] []
    ∙ skip_to_next [] (tokens_of Alone d.is_value) d.rest ∙ ap (read_from (at_state Next [] (tokens_of Alone d.is_value))) d.at_end
