-- The lines of a document's tokens are the canonical script of its tree.
use Rattle.std.specs.Prelude.{◌≡◌, ℕ, ℤ, ◌+◌, ◌/◌, ◌%◌, ◌<◌, ◌≤◌, Bool, true, false, cond, List, [], ◌∷◌, ◌++◌, codes, decimal, map, flat_map, length, drop, get_or, slice_index, Some, None, refl}
use Rattle.std.specs.Char.{encode_utf8}
use Rattle.std.specs.Fmt.{signed_decimal}
use Rattle.std.specs.List.{concat}
use Rattle.std.proofs.Common.{sym, ap, subst, ◌∙◌, arith, append_assoc, append-nil, length-append}
use Rattle.std.proofs.lemmas.Grind.{flat_map-append}
use Rattle.std.proofs.lemmas.Str.{length-encode, len_utf8_bounds}
use Rattle.hex.specs.Hex.{encode_with, encode_lower, lower_digits}
use Rattle.sval_label.specs.Calls.{Call, Slot, Head, I64}
use Rattle.sval_core.specs.Trees.{Tree, Text, calls_then, part_calls_then}
use Rattle.sval_io.specs.declared.sink.SinkError.{SinkError}
use Rattle.sval_io.specs.Filled.{Filled, filled_told}
use Rattle.sval_io.specs.Sinks.{Told, WritesWhole, WritesFront}
use Rattle.sval_json.specs.Grammar.{JsonValue, Values, Members, pair_of, IsString, IsValue, null, truth, falsehood, number, string, empty_array, array, empty_object, object, AreJsonValues, last_value, more_values, AreMembers, last_member, more_members}
use Rattle.sval_script.specs.Printed.{printed, line}
use Rattle.sval_script.specs.Canon.{canon}
use Rattle.sval_script.proofs.CanonicalScripts.{printed-append}
use Rattle.sval_json_read.specs.Calls.{Piece, run, piece_bytes, pieces, number_calls, place_begins, place_ends, calls_in}
use Rattle.sval_json_read.specs.Documents.{IsDocument}
use Rattle.sval_json_read.specs.Nodes.{placed_in, tokens_in}
use Rattle.sval_json_read.specs.RawStrings.{IsRaw, done, plain, short, unit, pair}
use Rattle.sval_json_read.specs.SeenNodes.{seen_node, IsKeptOf, AreKeptOf}
use Rattle.sval_json_read.specs.SeenValues.{text_in}
use Rattle.sval_json_read.specs.TokenScripts.{line_before, line_behind, text_lines, whole_line, number_text_lines, number_lines, token_lines, placed_lines, tokens_script}
use Rattle.sval_json_read.specs.Tokens as token
use Rattle.sval_json_read.specs.Tokens.{Place, Alone, Item, Key, Value, Token, Placed, placed_at, between_quotes, tokens_of, item_tokens, pair_tokens}
use Rattle.sval_json_read.specs.Trees.{fits_i64, whole_value, number_name, number_tree, tree_of, items_of, entries_of}
use Rattle.sval_json_read.specs.declared.node.Node.{Node}
use Rattle.sval_json_read.proofs.NodeStreams.{here}
use Rattle.sval_json_read.specs.TextParts.{IsWrittenUpTo}
use Rattle.sval_json_read.proofs.NodeTexts.{up_to_begin, up_to_next, up_to_end, stops_in_next}
use Rattle.sval_json_read.proofs.PieceTexts.{pieces_text, before_text, plain_byte, short_escape, unit_piece, pair_piece, pieces-text}

-- ---- the calls of the tokens are those of the tree

-- a text in one fragment
abbrev whole_text_calls : List ℕ → List Call
whole_text_calls text = Call.TextBegin (Some (length text)) ∷ Call.TextFragment true text ∷ Call.TextEnd ∷ []

-- the calls of a token in this place, with a string in one fragment
abbrev whole_calls_in : Place → Token → List Call
whole_calls_in place (token.Text raw) = place_begins place ++ (whole_text_calls (text_in raw) ++ place_ends place)
whole_calls_in place t = calls_in place t

abbrev own : Placed → List Call
own placed = whole_calls_in placed.place placed.token

abbrev own_all : List Placed → List Call
own_all tokens = flat_map own tokens

leaf : (place : Place) (calls more : List Call) → ((place_begins place ++ (calls ++ place_ends place)) ++ []) ++ more ≡ place_begins place ++ (calls ++ (place_ends place ++ more))
leaf place calls more =
    ap (λ x. x ++ more) (append-nil (place_begins place ++ (calls ++ place_ends place)))
    ∙ append_assoc (place_begins place) (calls ++ place_ends place) more ∙ ap (λ x. place_begins place ++ x) (append_assoc calls (place_ends place) more)

-- an array or object with the calls of its parts
around : (place : Place) (begin end : Call) (parts : List Placed) (e : Placed) (more : List Call) → own e ≡ end ∷ place_ends place
    → ((place_begins place ++ (begin ∷ [])) ++ own_all (parts ++ (e ∷ []))) ++ more
    ≡ place_begins place ++ (begin ∷ (own_all parts ++ (end ∷ (place_ends place ++ more))))
around place begin end parts e more h =
    append_assoc (place_begins place ++ (begin ∷ [])) (own_all (parts ++ (e ∷ []))) more
    ∙ append_assoc (place_begins place) (begin ∷ []) (own_all (parts ++ (e ∷ [])) ++ more)
    ∙ ap (λ x. place_begins place ++ (begin ∷ x)) (
    ap (λ x. x ++ more) (flat_map-append own parts (e ∷ []) ∙ ap (λ x. own_all parts ++ x) (append-nil (own e) ∙ h))
    ∙ append_assoc (own_all parts) (end ∷ place_ends place) more
    )

split : (one others : List Placed) (more : List Call) → own_all (one ++ others) ++ more ≡ own_all one ++ (own_all others ++ more)
split one others more = ap (λ x. x ++ more) (flat_map-append own one others) ∙ append_assoc (own_all one) (own_all others) more

number_calls_then : (text : List ℕ) (more : List Call) → number_calls text ++ more ≡ calls_then (number_tree text) more
number_calls_then text more = go (fits_i64 text)
  where
    go : (b : Bool)
        → cond b (Call.Int I64 (whole_value text) ∷ []) (Call.TaggedBegin number_name ∷ Call.TextBegin (Some (length text)) ∷ Call.TextFragment true text ∷ Call.TextEnd ∷ Call.TaggedEnd number_name ∷ []) ++ more
        ≡ calls_then (cond b (Tree.Int I64 (whole_value text)) (Tree.Tagged number_name (Text text))) more
    go true = refl
    go false = refl

text_calls_then : {bytes text rest : List ℕ} (s : IsString bytes text rest) (more : List Call) → whole_text_calls (text_in (between_quotes s)) ++ more ≡ calls_then (Text text) more
text_calls_then s more = ap (λ text. whole_text_calls text ++ more) (pieces-text s)

-- a key's calls, and what follows it
key_calls : (calls others more : List Call) → ((Call.PartBegin Slot.Key ∷ (calls ++ (Call.PartEnd Slot.Key ∷ []))) ++ others) ++ more ≡ Call.PartBegin Slot.Key ∷ (calls ++ (Call.PartEnd Slot.Key ∷ (others ++ more)))
key_calls calls others more =
    ap (λ x. Call.PartBegin Slot.Key ∷ x) (append_assoc (calls ++ (Call.PartEnd Slot.Key ∷ [])) others more ∙ append_assoc calls (Call.PartEnd Slot.Key ∷ []) (others ++ more))

pair_calls : {bytes text rest : List ℕ} (k : IsString bytes text rest) (others : List Placed) (more : List Call)
    → own_all (placed_at Key (token.Text (between_quotes k)) ∷ others) ++ more ≡ Call.PartBegin Slot.Key ∷ calls_then (Text text) (Call.PartEnd Slot.Key ∷ (own_all others ++ more))
pair_calls k others more =
    key_calls (whole_text_calls (text_in (between_quotes k))) (own_all others) more
    ∙ ap (λ x. Call.PartBegin Slot.Key ∷ x) (text_calls_then k (Call.PartEnd Slot.Key ∷ (own_all others ++ more)))

mutual
  value_calls : {bytes rest : List ℕ} {v : JsonValue} (place : Place) (d : IsValue bytes v rest) (more : List Call)
      → own_all (tokens_of place d) ++ more ≡ place_begins place ++ calls_then (tree_of v) (place_ends place ++ more)
  value_calls place null more = leaf place (Call.Null ∷ []) more
  value_calls place truth more = leaf place (Call.Truth true ∷ []) more
  value_calls place falsehood more = leaf place (Call.Truth false ∷ []) more
  value_calls place (number {text = text} e n) more =
      leaf place (number_calls text) more ∙ ap (λ x. place_begins place ++ x) (number_calls_then text (place_ends place ++ more))
  value_calls place (string {text = text} s) more =
      leaf place (whole_text_calls (text_in (between_quotes s))) more ∙ ap (λ x. place_begins place ++ x) (text_calls_then s (place_ends place ++ more))
  value_calls place (empty_array e) more = around place (Call.Begin Head.Seq None) (Call.End Head.Seq) [] (placed_at place token.EndArray) more refl
  value_calls place (array {values = row} vs) more =
      around place (Call.Begin Head.Seq None) (Call.End Head.Seq) (item_tokens vs) (placed_at place token.EndArray) more refl
      ∙ ap (λ x. place_begins place ++ (Call.Begin Head.Seq None ∷ x)) (items_calls vs (Call.End Head.Seq ∷ (place_ends place ++ more)))
  value_calls place (empty_object e) more = around place (Call.Begin Head.Map None) (Call.End Head.Map) [] (placed_at place token.EndObject) more refl
  value_calls place (object {members = row} vs) more =
      around place (Call.Begin Head.Map None) (Call.End Head.Map) (pair_tokens vs) (placed_at place token.EndObject) more refl
      ∙ ap (λ x. place_begins place ++ (Call.Begin Head.Map None ∷ x)) (pairs_calls vs (Call.End Head.Map ∷ (place_ends place ++ more)))

  items_calls : {bytes rest : List ℕ} {row : Values} (vs : AreJsonValues bytes row rest) (more : List Call) → own_all (item_tokens vs) ++ more ≡ part_calls_then (items_of row) more
  items_calls (last_value v e) more = value_calls Item v more
  items_calls (more_values {value = value} {values = row} v e vs) more =
      split (tokens_of Item v) (item_tokens vs) more ∙ value_calls Item v (own_all (item_tokens vs) ++ more)
      ∙ ap (λ x. Call.PartBegin Slot.Item ∷ calls_then (tree_of value) (Call.PartEnd Slot.Item ∷ x)) (items_calls vs more)

  pairs_calls : {bytes rest : List ℕ} {row : Members} (vs : AreMembers bytes row rest) (more : List Call) → own_all (pair_tokens vs) ++ more ≡ part_calls_then (entries_of row) more
  pairs_calls (last_member {text = text} k c v e) more =
      pair_calls k (tokens_of Value v) more ∙ ap (λ x. Call.PartBegin Slot.Key ∷ calls_then (Text text) (Call.PartEnd Slot.Key ∷ x)) (value_calls Value v more)
  pairs_calls (more_members {text = text} {value = value} {members = row} k c v e vs) more =
      pair_calls k (tokens_of Value v ++ pair_tokens vs) more
      ∙ ap (λ x. Call.PartBegin Slot.Key ∷ calls_then (Text text) (Call.PartEnd Slot.Key ∷ x)) (
      split (tokens_of Value v) (pair_tokens vs) more ∙ value_calls Value v (own_all (pair_tokens vs) ++ more)
      ∙ ap (λ x. Call.PartBegin Slot.Value ∷ calls_then (tree_of value) (Call.PartEnd Slot.Value ∷ x)) (pairs_calls vs more)
      )

-- ---- their lines

before_is : (p : Place) → line_before p ≡ printed (place_begins p)
unfolding printed line
before_is Alone = refl
before_is Item = refl
before_is Key = refl
before_is Value = refl

behind_is : (p : Place) → line_behind p ≡ printed (place_ends p)
unfolding printed line
behind_is Alone = refl
behind_is Item = refl
behind_is Key = refl
behind_is Value = refl

text_is : (text : List ℕ) → printed (whole_text_calls text) ≡ text_lines text
unfolding printed line
text_is text =
    let n = decimal (length text) in
    let digits = encode_lower text in
    ap (λ x. codes "text_begin " ++ x) (
    append_assoc n (10 ∷ []) (codes "text_fragment =" ++ ((digits ++ (10 ∷ [])) ++ codes "text_end\n"))
    ∙ ap (λ x. n ++ (codes "\ntext_fragment =" ++ x)) (append_assoc digits (10 ∷ []) (codes "text_end\n"))
    )

whole_is : (text : List ℕ) → printed (Call.Int I64 (whole_value text) ∷ []) ≡ whole_line text
unfolding printed line
whole_is text = ap (λ x. codes "i64 " ++ x) (append-nil (signed_decimal (whole_value text) ++ (10 ∷ [])))

tagged_begins : printed (Call.TaggedBegin number_name ∷ []) ≡ codes "tagged_begin NUMBER - -\n"
unfolding printed line
tagged_begins = refl

tagged_ends : printed (Call.TaggedEnd number_name ∷ []) ≡ codes "tagged_end NUMBER - -\n"
unfolding printed line
tagged_ends = refl

other_is : (text : List ℕ) → printed (Call.TaggedBegin number_name ∷ (whole_text_calls text ++ (Call.TaggedEnd number_name ∷ []))) ≡ number_text_lines text
other_is text =
    printed-append (Call.TaggedBegin number_name ∷ []) (whole_text_calls text ++ (Call.TaggedEnd number_name ∷ []))
    ∙ ap (λ x. printed (Call.TaggedBegin number_name ∷ []) ++ x) (printed-append (whole_text_calls text) (Call.TaggedEnd number_name ∷ []) ∙ ap (λ x. x ++ printed (Call.TaggedEnd number_name ∷ [])) (text_is text))
    ∙ ap (λ x. x ++ (text_lines text ++ printed (Call.TaggedEnd number_name ∷ []))) tagged_begins ∙ ap (λ x. codes "tagged_begin NUMBER - -\n" ++ (text_lines text ++ x)) tagged_ends

number_is : (text : List ℕ) → printed (number_calls text) ≡ number_lines text
number_is text = go (fits_i64 text)
  where
    go : (b : Bool)
        → printed (cond b (Call.Int I64 (whole_value text) ∷ []) (Call.TaggedBegin number_name ∷ Call.TextBegin (Some (length text)) ∷ Call.TextFragment true text ∷ Call.TextEnd ∷ Call.TaggedEnd number_name ∷ []))
        ≡ cond b (whole_line text) (number_text_lines text)
    go true = whole_is text
    go false = other_is text

-- calls in a place
in_place : (p : Place) (calls : List Call) (lines : List ℕ) → printed calls ≡ lines → line_before p ++ (lines ++ line_behind p) ≡ printed (place_begins p ++ (calls ++ place_ends p))
in_place p calls lines e =
    ap (λ x. x ++ (lines ++ line_behind p)) (before_is p) ∙ ap (λ x. printed (place_begins p) ++ (lines ++ x)) (behind_is p)
    ∙ ap (λ x. printed (place_begins p) ++ (x ++ printed (place_ends p))) (sym e)
    ∙ ap (λ x. printed (place_begins p) ++ x) (sym (printed-append calls (place_ends p))) ∙ sym (printed-append (place_begins p) (calls ++ place_ends p))

begin_in_place : (p : Place) (call : Call) (lines : List ℕ) → printed (call ∷ []) ≡ lines → line_before p ++ lines ≡ printed (place_begins p ++ (call ∷ []))
begin_in_place p call lines e =
    ap (λ x. x ++ lines) (before_is p) ∙ ap (λ x. printed (place_begins p) ++ x) (sym e) ∙ sym (printed-append (place_begins p) (call ∷ []))

end_in_place : (p : Place) (call : Call) (lines : List ℕ) → printed (call ∷ []) ≡ lines → lines ++ line_behind p ≡ printed (call ∷ place_ends p)
end_in_place p call lines e =
    ap (λ x. lines ++ x) (behind_is p) ∙ ap (λ x. x ++ printed (place_ends p)) (sym e) ∙ sym (printed-append (call ∷ []) (place_ends p))

token_is : (p : Place) (t : Token) → token_lines p t ≡ printed (whole_calls_in p t)
unfolding printed line
token_is p token.Null = in_place p (Call.Null ∷ []) (codes "null\n") refl
token_is p (token.Truth true) = in_place p (Call.Truth true ∷ []) (codes "bool true\n") refl
token_is p (token.Truth false) = in_place p (Call.Truth false ∷ []) (codes "bool false\n") refl
token_is p (token.Number text) = in_place p (number_calls text) (number_lines text) (number_is text)
token_is p (token.Text raw) = in_place p (whole_text_calls (text_in raw)) (text_lines (text_in raw)) (text_is (text_in raw))
token_is p token.BeginArray = begin_in_place p (Call.Begin Head.Seq None) (codes "seq_begin -\n") refl
token_is p token.EndArray = end_in_place p (Call.End Head.Seq) (codes "seq_end\n") refl
token_is p token.BeginObject = begin_in_place p (Call.Begin Head.Map None) (codes "map_begin -\n") refl
token_is p token.EndObject = end_in_place p (Call.End Head.Map) (codes "map_end\n") refl

no_lines : [] ≡ printed []
unfolding printed
no_lines = refl

tokens_are : (tokens : List Placed) → tokens_script tokens ≡ printed (own_all tokens)
tokens_are [] = no_lines
tokens_are (placed ∷ tokens) =
    ap (λ x. x ++ tokens_script tokens) (token_is placed.place placed.token) ∙ ap (λ x. printed (own placed) ++ x) (tokens_are tokens)
    ∙ sym (printed-append (own placed) (own_all tokens))

pub document_script : (input : List ℕ) (tokens : List Placed) (d : IsDocument input tokens) → tokens_script tokens ≡ canon (tree_of d.value)
document_script input tokens d =
    ap tokens_script d.same ∙ tokens_are (tokens_of Alone d.denotes.is_value)
    ∙ ap printed (sym (append-nil (own_all (tokens_of Alone d.denotes.is_value))) ∙ value_calls Alone d.denotes.is_value [])

-- ---- the code's pieces

-- a text's lines from its begin, its digits and its end
pub text_parts : (n : ℕ) (text : List ℕ) → n ≡ length text
    → text_lines text ≡ (codes "text_begin " ++ (decimal n ++ codes "\ntext_fragment =")) ++ (encode_lower text ++ codes "\ntext_end\n")
text_parts n text e =
    ap (λ n. codes "text_begin " ++ (decimal n ++ (codes "\ntext_fragment =" ++ (encode_lower text ++ codes "\ntext_end\n")))) (sym e)
    ∙ ap (λ x. codes "text_begin " ++ x) (sym (append_assoc (decimal n) (codes "\ntext_fragment =") (encode_lower text ++ codes "\ntext_end\n")))

pub fitting_lines : (text : List ℕ) (z : ℤ) → fits_i64 text ≡ true → z ≡ whole_value text → number_lines text ≡ codes "i64 " ++ (signed_decimal z ++ codes "\n")
fitting_lines text z f e = rw f (ap (λ z. codes "i64 " ++ (signed_decimal z ++ codes "\n")) (sym e))

pub other_lines : (text : List ℕ) → fits_i64 text ≡ false → number_lines text ≡ number_text_lines text
other_lines text f = rw f refl

-- ---- pieces of a string

pub encode-append : (xs ys : List ℕ) → encode_lower (xs ++ ys) ≡ encode_lower xs ++ encode_lower ys
unfolding encode_with
encode-append [] ys = refl
encode-append (x ∷ xs) ys = ap (λ more. slice_index lower_digits (x / 16) ∷ slice_index lower_digits (x % 16) ∷ more) (encode-append xs ys)

-- the text of the next piece, and of those behind it
next_text : (raw behind : List ℕ) (piece : Piece) → pieces raw ≡ piece ∷ pieces behind → text_in raw ≡ piece_bytes piece ++ text_in behind
next_text raw behind piece e = ap (λ row. concat (map piece_bytes row)) e

pub next_digits : (raw behind : List ℕ) (piece : Piece) → pieces raw ≡ piece ∷ pieces behind → encode_lower (text_in raw) ≡ encode_lower (piece_bytes piece) ++ encode_lower (text_in behind)
next_digits raw behind piece e = ap encode_lower (next_text raw behind piece e) ∙ encode-append (piece_bytes piece) (text_in behind)

pub next_length : (raw behind : List ℕ) (piece : Piece) → pieces raw ≡ piece ∷ pieces behind → length (text_in raw) ≡ length (piece_bytes piece) + length (text_in behind)
next_length raw behind piece e = ap length (next_text raw behind piece e) ∙ length-append (piece_bytes piece) (text_in behind)

-- one run is the text
pub one_run_is : (raw : List ℕ) → pieces raw ≡ run raw ∷ [] → text_in raw ≡ raw
one_run_is raw e = ap (λ row. concat (map piece_bytes row)) e ∙ append-nil raw

character_length : (c : ℕ) → length (encode_utf8 c) ≤ 4
character_length c = let b = len_utf8_bounds c in omega (arith, length-encode c, b.1)

longer : (text piece later front behind : List ℕ) → text ≡ piece ++ later → length piece ≤ length front → length later ≤ length behind → length text ≤ length (front ++ behind)
longer text piece later front behind e h k = omega (arith, ap length e ∙ length-append piece later, length-append front behind)

six : (n a b c d e f : ℕ) → n ≤ 4 → n ≤ length (a ∷ b ∷ c ∷ d ∷ e ∷ f ∷ [])
six n a b c d e f h = omega arith

twelve : (n a b c d e f g h i j k l : ℕ) → n ≤ 4 → n ≤ length (a ∷ b ∷ c ∷ d ∷ e ∷ f ∷ g ∷ h ∷ i ∷ j ∷ k ∷ l ∷ [])
twelve n a b c d e f g h i j k l m = omega arith

two : (a b c : ℕ) → length (c ∷ []) ≤ length (a ∷ b ∷ [])
two a b c = omega arith

-- a string's text is no longer than what stands between the quotes
pub raw_length : (raw : List ℕ) → IsRaw raw → length (text_in raw) ≤ length raw
raw_length _ done = omega arith
raw_length _ (plain {byte = byte} {bytes = bytes} h r) =
    longer (text_in (byte ∷ bytes)) (byte ∷ []) (text_in bytes) (byte ∷ []) bytes (ap pieces_text (plain_byte byte bytes h) ∙ before_text byte (pieces bytes)) (omega arith) (raw_length bytes r)
raw_length _ (short {letter = letter} {byte = byte} {bytes = bytes} e r) =
    longer (text_in (92 ∷ letter ∷ bytes)) (byte ∷ []) (text_in bytes) (92 ∷ letter ∷ []) bytes (ap pieces_text (short_escape letter byte bytes e)) (two 92 letter byte) (raw_length bytes r)
raw_length _ (unit {a = a} {b = b} {c = c} {d = d} {u = u} {bytes = bytes} e f r) =
    longer (text_in (92 ∷ 117 ∷ a ∷ b ∷ c ∷ d ∷ bytes)) (encode_utf8 u) (text_in bytes) (92 ∷ 117 ∷ a ∷ b ∷ c ∷ d ∷ []) bytes
    (ap pieces_text (unit_piece a b c d u bytes e f)) (six (length (encode_utf8 u)) 92 117 a b c d (character_length u)) (raw_length bytes r)
raw_length _ (pair {a = a} {b = b} {c = c} {d = d} {e = e} {f = f} {g = g} {h = h} {high = high} {low = low} {bytes = bytes} p q s t r) =
    longer (text_in (92 ∷ 117 ∷ a ∷ b ∷ c ∷ d ∷ 92 ∷ 117 ∷ e ∷ f ∷ g ∷ h ∷ bytes)) (encode_utf8 (pair_of high low)) (text_in bytes) (92 ∷ 117 ∷ a ∷ b ∷ c ∷ d ∷ 92 ∷ 117 ∷ e ∷ f ∷ g ∷ h ∷ []) bytes
    (ap pieces_text (pair_piece a b c d e f g h high low bytes p q s))
    (twelve (length (encode_utf8 (pair_of high low))) 92 117 a b c d 92 117 e f g h (character_length (pair_of high low))) (raw_length bytes r)

pub no_digits : (raw : List ℕ) → raw ≡ [] → encode_lower (text_in raw) ≡ []
unfolding encode_with
no_digits raw e = ap (λ raw. encode_lower (text_in raw)) e

-- ---- node by node

-- what an empty buffer has taken is all that it has
pub joined_is : (old new : Filled) (bytes : List ℕ) → old.bytes ≡ [] → WritesWhole (filled_told old) bytes (filled_told new) → new.bytes ≡ bytes
joined_is old new bytes e w =
    let told : Some new.bytes ≡ Some (old.bytes ++ bytes) = w.appends.text in
    let same : new.bytes ≡ old.bytes ++ bytes = cc told in
    same ∙ ap (λ taken. taken ++ bytes) e

-- the lines of all nodes before these were written, and they are kept of the text
pub record ArePrintedUpTo (old : Told) (text : List ℕ) (all left : List Node) (new : Told) : Type 0 where
  pub kept : AreKeptOf text left
  pub written : IsWrittenUpTo old (tokens_script (tokens_in text (map seen_node all))) (tokens_script (tokens_in text (map seen_node left))) new

pub prints_begin : (told : Told) (text : List ℕ) (nodes : List Node) → AreKeptOf text nodes → ArePrintedUpTo told text nodes nodes told
prints_begin told text nodes k = record { kept = k; written = up_to_begin told (tokens_script (tokens_in text (map seen_node nodes))) }

module _ {old mid : Told} {text : List ℕ} (nodes : List Node) (i : ℕ) (d : Node) (s : ArePrintedUpTo old text nodes (drop i nodes) mid) (within : i < length nodes) where
  abbrev node : Placed
  node = placed_in text (seen_node (get_or nodes i d))

  left_kept : AreKeptOf text (get_or nodes i d ∷ drop (i + 1) nodes)
  left_kept = subst (AreKeptOf text) (here nodes i d within) s.kept

  pub print_kept : IsKeptOf text (get_or nodes i d)
  print_kept = left_kept.0

  left_lines : tokens_script (tokens_in text (map seen_node (drop i nodes))) ≡ placed_lines node ++ tokens_script (tokens_in text (map seen_node (drop (i + 1) nodes)))
  left_lines = ap (λ left. tokens_script (tokens_in text (map seen_node left))) (here nodes i d within)

  pub prints_on : (new : Told) → WritesWhole mid (placed_lines node) new → ArePrintedUpTo old text nodes (drop (i + 1) nodes) new
  prints_on new w = record { kept = left_kept.1; written = up_to_next (placed_lines node) (tokens_script (tokens_in text (map seen_node (drop (i + 1) nodes)))) left_lines s.written w }

  pub prints_stop : {why : SinkError} (new : Told) → WritesFront why mid (placed_lines node) new → WritesFront why old (tokens_script (tokens_in text (map seen_node nodes))) new
  prints_stop new f = stops_in_next (placed_lines node) (tokens_script (tokens_in text (map seen_node (drop (i + 1) nodes)))) left_lines s.written f

pub prints_end : {old new : Told} {text : List ℕ} {nodes left : List Node} → ArePrintedUpTo old text nodes left new → left ≡ [] → WritesWhole old (tokens_script (tokens_in text (map seen_node nodes))) new
prints_end {text = text} s e = up_to_end (ap (λ left. tokens_script (tokens_in text (map seen_node left))) e) s.written
