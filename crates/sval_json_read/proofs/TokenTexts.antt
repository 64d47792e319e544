-- The JSON of a document's tokens is what the writer writes for their calls.
use Rattle.std.specs.Prelude.{◌≡◌, ℕ, Bool, true, false, cond, List, [], ◌∷◌, ◌++◌, codes, map, length, Some, None, Ok, refl, ⊤}
use Rattle.std.specs.List.{concat, AllByRecursion}
use Rattle.std.proofs.Common.{sym, ap, subst, ◌∙◌, append_assoc, append-nil}
use Rattle.sval_label.specs.Calls.{Call, Slot, Head, I64}
use Rattle.sval_label.specs.Texts.{truth_text}
use Rattle.sval_json.specs.declared.style.Variants.TheVariants.{Inside}
use Rattle.sval_json.specs.Actions.{Outcome, escapes}
use Rattle.sval_json.specs.Digits.{is_json_number}
use Rattle.sval_json.specs.Escape.{escaped, in_quotes}
use Rattle.sval_json.specs.Grammar as json
use Rattle.sval_json.specs.Grammar.{JsonValue, Values, Members, IsValue, AreJsonValues, AreMembers, last_value, more_values, last_member, more_members}
use Rattle.sval_json.specs.Json.{Json, compact, comma}
use Rattle.sval_json.specs.Laws.{IsWrittenAs}
use Rattle.sval_json.specs.Number.{normal}
use Rattle.sval_json.specs.Shape.{json_of}
use Rattle.sval_json.specs.Steps.{writer_steps, written_in}
use Rattle.sval_json.proofs.Texts.{escaped-append}
use Rattle.sval_json.proofs.Writing.{at, prepend, prepend_twice, goes_same, number_inner}
use Rattle.sval_json.proofs.WritingPlain.{spelling_written}
use Rattle.sval_json_read.specs.Calls.{Piece, run, escape, piece_bytes, piece_call, pieces, string_value_calls, number_calls, place_begins, place_ends, calls_in, placed_token_calls, document_calls}
use Rattle.sval_json_read.specs.Documents.{IsDocument}
use Rattle.sval_json_read.specs.RawStrings.{IsProperToken, AreProperTokens}
use Rattle.sval_json_read.specs.SeenValues.{text_in}
use Rattle.sval_json_read.specs.TokenTexts.{begins_container, comma_at, comma_before, colon_behind, token_text, placed_text, tokens_text}
use Rattle.sval_json_read.specs.Tokens as token
use Rattle.sval_json_read.specs.Tokens.{Place, Alone, Item, Key, Value, Token, Placed, placed_at, between_quotes, tokens_of, item_tokens, pair_tokens}
use Rattle.sval_json_read.specs.Trees.{tree_of, fits_i64, whole_value, number_name, settled_number}
use Rattle.sval_json_read.proofs.Documents.{document-calls}
use Rattle.sval_json_read.proofs.RawStrings.{document-tokens}
use Rattle.sval_json_read.proofs.SettledNumbers.{fits-written, other-normal, other-settled}

-- outside names, after these calls
abbrev steps : List Call → Bool → Outcome
steps calls empty = writer_steps Inside calls (at false empty true escapes)

-- ---- strings

pieces_written : (row : List Piece) (r : List Call) (q : Bool)
    → writer_steps Inside (map piece_call row ++ r) (at false false q escapes) ≡ prepend (escaped (concat (map piece_bytes row))) (writer_steps Inside r (at false false q escapes))
pieces_written [] r q = refl
pieces_written (run bytes ∷ row) r q =
    ap (prepend (escaped bytes)) (pieces_written row r q)
    ∙ prepend_twice (escaped bytes) (escaped (concat (map piece_bytes row))) (writer_steps Inside r (at false false q escapes))
    ∙ ap (λ w. prepend w (writer_steps Inside r (at false false q escapes))) (sym (escaped-append bytes (concat (map piece_bytes row))))
pieces_written (escape bytes ∷ row) r q =
    ap (prepend (escaped bytes)) (pieces_written row r q)
    ∙ prepend_twice (escaped bytes) (escaped (concat (map piece_bytes row))) (writer_steps Inside r (at false false q escapes))
    ∙ ap (λ w. prepend w (writer_steps Inside r (at false false q escapes))) (sym (escaped-append bytes (concat (map piece_bytes row))))

string_written : (raw : List ℕ) (r : List Call) (e : Bool) → steps (string_value_calls raw ++ r) e ≡ prepend (in_quotes (escaped (text_in raw))) (steps r false)
string_written raw r e =
    let text = escaped (text_in raw) in
    ap (λ calls. steps (Call.TextBegin None ∷ calls) e) (append_assoc (map piece_call (pieces raw)) (Call.TextEnd ∷ []) r)
    ∙ ap (prepend (codes "\"")) (pieces_written (pieces raw) (Call.TextEnd ∷ r) true ∙ prepend_twice text (codes "\"") (steps r false))
    ∙ prepend_twice (codes "\"") (text ++ codes "\"") (steps r false)

-- a name, with its comma and its colon
name_bytes : (e : Bool) (text : List ℕ) → (comma e ++ codes "\"") ++ (text ++ codes "\":") ≡ comma e ++ (in_quotes text ++ codes ":")
name_bytes true text = ap (λ x. 34 ∷ x) (sym (append_assoc text (34 ∷ []) (58 ∷ [])))
name_bytes false text = ap (λ x. 44 ∷ 34 ∷ x) (sym (append_assoc text (34 ∷ []) (58 ∷ [])))

name_written : (raw : List ℕ) (r : List Call) (e : Bool) → steps (placed_token_calls (placed_at Key (token.Text raw)) ++ r) e ≡ prepend (placed_text e (placed_at Key (token.Text raw))) (steps r false)
name_written raw r e =
    let text = escaped (text_in raw) in
    let row = map piece_call (pieces raw) in
    let same : (row ++ (Call.TextEnd ∷ [])) ++ (Call.PartEnd Slot.Key ∷ []) ++ r ≡ row ++ (Call.TextEnd ∷ Call.PartEnd Slot.Key ∷ r) =
    append_assoc (row ++ (Call.TextEnd ∷ [])) (Call.PartEnd Slot.Key ∷ []) r ∙ append_assoc row (Call.TextEnd ∷ []) (Call.PartEnd Slot.Key ∷ r) in
    ap (λ calls. steps (Call.PartBegin Slot.Key ∷ Call.TextBegin None ∷ calls) e) same
    ∙ ap (prepend (comma e ++ codes "\"")) (pieces_written (pieces raw) (Call.TextEnd ∷ Call.PartEnd Slot.Key ∷ r) false ∙ prepend_twice text (codes "\":") (steps r false))
    ∙ prepend_twice (comma e ++ codes "\"") (text ++ codes "\":") (steps r false)
    ∙ ap (λ w. prepend w (steps r false)) (name_bytes e text)

-- ---- numbers

abbrev whole_call : List ℕ → List Call
whole_call text = Call.Int I64 (whole_value text) ∷ []

abbrev text_calls : List ℕ → List Call
text_calls text = Call.TaggedBegin number_name ∷ Call.TextBegin (Some (length text)) ∷ Call.TextFragment true text ∷ Call.TextEnd ∷ Call.TaggedEnd number_name ∷ []

number_written : (text : List ℕ) → is_json_number text ≡ true → (r : List Call) (e : Bool) → steps (number_calls text ++ r) e ≡ prepend (settled_number text) (steps r false)
number_written text h r e = go (fits_i64 text) refl
  where
    go : (b : Bool) → fits_i64 text ≡ b → steps (cond b (whole_call text) (text_calls text) ++ r) e ≡ prepend (settled_number text) (steps r false)
    go true f = ap (λ w. prepend w (steps r false)) (fits-written text h f)
    go false f =
        let reads : normal (concat (text ∷ [])) ≡ Ok (settled_number text) = ap normal (append-nil text) ∙ other-normal text h f ∙ ap Ok (sym (other-settled text f)) in
        goes_same Inside (normal (concat (text ∷ []))) (Ok (settled_number text)) (at false false true escapes) r (steps (text_calls text ++ r) e) reads
        (number_inner Inside (Some (length text)) (text ∷ []) number_name false false true r (λ s. refl))

-- ---- tokens

-- calls that write these bytes wherever they stand but in a name, and what they leave behind
abbrev WritesAlone : List Call → List ℕ → Bool → Type 0
WritesAlone calls text behind = (r : List Call) (e : Bool) → steps (calls ++ r) e ≡ prepend text (steps r behind)

-- the same in their place, behind a comma
in_place : (place : Place) (calls : List Call) (text : List ℕ) → (place ≡ Key → ⊥) → WritesAlone calls text false
    → (r : List Call) (e : Bool) → steps ((place_begins place ++ (calls ++ place_ends place)) ++ r) e ≡ prepend (comma_at e place ++ text) (steps r false)
in_place Alone calls text n w r e = ap (λ x. steps (x ++ r) e) (append-nil calls) ∙ w r e
in_place Value calls text n w r e = ap (λ x. steps x e) (append_assoc calls (Call.PartEnd Slot.Value ∷ []) r) ∙ w (Call.PartEnd Slot.Value ∷ r) e
in_place Item calls text n w r e =
    ap (λ x. steps (Call.PartBegin Slot.Item ∷ x) e) (append_assoc calls (Call.PartEnd Slot.Item ∷ []) r)
    ∙ ap (prepend (comma e)) (w (Call.PartEnd Slot.Item ∷ r) e)
    ∙ prepend_twice (comma e) text (steps r false)
in_place Key calls text n w r e = absurd (n refl)

begin_in_place : (place : Place) (head : Head) (text : List ℕ) → (place ≡ Key → ⊥) → ((r : List Call) (e : Bool) → steps (Call.Begin head None ∷ r) e ≡ prepend text (steps r true))
    → (r : List Call) (e : Bool) → steps ((place_begins place ++ (Call.Begin head None ∷ [])) ++ r) e ≡ prepend (comma_at e place ++ text) (steps r true)
begin_in_place Alone head text n w r e = w r e
begin_in_place Value head text n w r e = w r e
begin_in_place Item head text n w r e = ap (prepend (comma e)) (w r e) ∙ prepend_twice (comma e) text (steps r true)
begin_in_place Key head text n w r e = absurd (n refl)

end_in_place : (place : Place) (head : Head) (text : List ℕ) → (place ≡ Key → ⊥) → ((r : List Call) (e : Bool) → steps (Call.End head ∷ r) e ≡ prepend text (steps r false))
    → (r : List Call) (e : Bool) → steps ((Call.End head ∷ place_ends place) ++ r) e ≡ prepend text (steps r false)
end_in_place Alone head text n w r e = w r e
end_in_place Value head text n w r e = w (Call.PartEnd Slot.Value ∷ r) e
end_in_place Item head text n w r e = w (Call.PartEnd Slot.Item ∷ r) e
end_in_place Key head text n w r e = absurd (n refl)

-- a name is a string
abbrev pub IsPlacedIn : Place → Token → Type 0
IsPlacedIn Key (token.Text raw) = ⊤
IsPlacedIn Key _ = ⊥
IsPlacedIn _ _ = ⊤

abbrev pub IsWellPlaced : Placed → Type 0
IsWellPlaced placed = IsPlacedIn placed.place placed.token

abbrev pub AreWellPlaced : List Placed → Type 0
AreWellPlaced tokens = AllByRecursion IsWellPlaced tokens

no_colon : (place : Place) (text : List ℕ) → (place ≡ Key → ⊥) → text ≡ text ++ colon_behind place
no_colon Alone text n = sym (append-nil text)
no_colon Item text n = sym (append-nil text)
no_colon Value text n = sym (append-nil text)
no_colon Key text n = absurd (n refl)

-- a token that is no name
other_written : (place : Place) (t : Token) → (place ≡ Key → ⊥) → IsProperToken t → (r : List Call) (e : Bool)
    → steps (calls_in place t ++ r) e ≡ prepend (comma_before e place t ++ token_text place t) (steps r (begins_container t))
other_written place token.Null n p r e = in_place place (Call.Null ∷ []) (codes "null") n (λ r e. refl) r e
other_written place (token.Truth b) n p r e = in_place place (Call.Truth b ∷ []) (truth_text b) n (λ r e. refl) r e
other_written place (token.Number text) n p r e = in_place place (number_calls text) (settled_number text) n (number_written text p) r e
other_written place (token.Text raw) n p r e =
    in_place place (string_value_calls raw) (in_quotes (escaped (text_in raw))) n (string_written raw) r e
    ∙ ap (λ w. prepend (comma_at e place ++ w) (steps r false)) (no_colon place (in_quotes (escaped (text_in raw))) n)
other_written place token.BeginArray n p r e = begin_in_place place Head.Seq (codes "[") n (λ r e. refl) r e
other_written place token.EndArray n p r e = end_in_place place Head.Seq (codes "]") n (λ r e. refl) r e
other_written place token.BeginObject n p r e = begin_in_place place Head.Map (codes "{") n (λ r e. refl) r e
other_written place token.EndObject n p r e = end_in_place place Head.Map (codes "}") n (λ r e. refl) r e

token_written : (place : Place) (t : Token) → IsProperToken t → IsPlacedIn place t → (r : List Call) (e : Bool)
    → steps (calls_in place t ++ r) e ≡ prepend (placed_text e (placed_at place t)) (steps r (begins_container t))
token_written Key (token.Text raw) p h r e = name_written raw r e
token_written Key _ p h r e = absurd h
token_written Alone t p h r e = other_written Alone t (λ is. cc is) p r e
token_written Item t p h r e = other_written Item t (λ is. cc is) p r e
token_written Value t p h r e = other_written Value t (λ is. cc is) p r e

pub tokens_written : (tokens : List Placed) → AreProperTokens tokens → AreWellPlaced tokens → (e : Bool) → (steps (document_calls tokens) e).written ≡ tokens_text e tokens
tokens_written [] p h e = refl
tokens_written (placed ∷ tokens) p h e =
    ap (λ (o : Outcome). o.written) (token_written placed.place placed.token p.0 h.0 (document_calls tokens) e)
    ∙ ap (λ w. placed_text e placed ++ w) (tokens_written tokens p.1 h.1 (begins_container placed.token))

-- ---- the tokens of a document

free : (place : Place) (t : Token) → (place ≡ Key → ⊥) → IsPlacedIn place t
free Alone t n = tt
free Item t n = tt
free Value t n = tt
free Key t n = absurd (n refl)

both_placed : (xs ys : List Placed) → AreWellPlaced xs → AreWellPlaced ys → AreWellPlaced (xs ++ ys)
both_placed [] ys h k = k
both_placed (x ∷ xs) ys h k = (h.0, both_placed xs ys h.1 k)

mutual
  value_placed : {bytes rest : List ℕ} {v : JsonValue} (place : Place) → (place ≡ Key → ⊥) → (d : IsValue bytes v rest) → AreWellPlaced (tokens_of place d)
  value_placed place n json.null = (free place token.Null n, tt)
  value_placed place n json.truth = (free place (token.Truth true) n, tt)
  value_placed place n json.falsehood = (free place (token.Truth false) n, tt)
  value_placed place n (json.number {text = text} e m) = (free place (token.Number text) n, tt)
  value_placed place n (json.string s) = (free place (token.Text (between_quotes s)) n, tt)
  value_placed place n (json.empty_array e) = (free place token.BeginArray n, (free place token.EndArray n, tt))
  value_placed place n (json.array vs) = (free place token.BeginArray n, both_placed (item_tokens vs) (placed_at place token.EndArray ∷ []) (items_placed vs) (free place token.EndArray n, tt))
  value_placed place n (json.empty_object e) = (free place token.BeginObject n, (free place token.EndObject n, tt))
  value_placed place n (json.object vs) = (free place token.BeginObject n, both_placed (pair_tokens vs) (placed_at place token.EndObject ∷ []) (pairs_placed vs) (free place token.EndObject n, tt))

  items_placed : {bytes rest : List ℕ} {row : Values} (vs : AreJsonValues bytes row rest) → AreWellPlaced (item_tokens vs)
  items_placed (last_value v e) = value_placed Item (λ is. cc is) v
  items_placed (more_values v e vs) = both_placed (tokens_of Item v) (item_tokens vs) (value_placed Item (λ is. cc is) v) (items_placed vs)

  pairs_placed : {bytes rest : List ℕ} {row : Members} (vs : AreMembers bytes row rest) → AreWellPlaced (pair_tokens vs)
  pairs_placed (last_member k c v e) = (tt, value_placed Value (λ is. cc is) v)
  pairs_placed (more_members k c v e vs) = (tt, both_placed (tokens_of Value v) (pair_tokens vs) (value_placed Value (λ is. cc is) v) (pairs_placed vs))

pub document_placed : (input : List ℕ) (tokens : List Placed) → IsDocument input tokens → AreWellPlaced tokens
document_placed input tokens d = subst AreWellPlaced (sym d.same) (value_placed Alone (λ is. cc is) d.denotes.is_value)

-- what the tokens of a document come to is the text of the JSON of its tree
pub document_text : (input : List ℕ) (tokens : List Placed) (d : IsDocument input tokens) (shape : Json) → json_of (tree_of d.value) ≡ Ok shape → tokens_text true tokens ≡ compact shape
document_text input tokens d shape is =
    sym (tokens_written tokens (document-tokens input tokens d) (document_placed input tokens d) true)
    ∙ (subst (λ found. IsWrittenAs found (written_in Inside (document_calls tokens))) is (spelling_written Inside (document_calls tokens) (tree_of d.value) (document-calls input tokens d))).0
