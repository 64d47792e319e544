-- Which calls a node makes, and what their script is before what follows.
use Rattle.std.specs.Prelude.{◌≡◌, ◌⊎◌, ℕ, ℤ, pos, negsuc, ◌<◌, ◌==◌, ◌&&◌, nat_le, Bool, true, false, if◌then◌else◌, List, [], ◌∷◌, ◌++◌, codes, decimal, length, take, drop, Option, Some, None, refl}
use Rattle.std.specs.Fmt.{signed_decimal}
use Rattle.std.specs.List.{AllByRecursion}
use Rattle.std.proofs.Common.{sym, ap, subst, ◌∙◌, inl, inr, arith, append_assoc, append-nil}
use Rattle.hex.specs.Hex.{encode_lower}
use Rattle.sval_label.specs.Calls.{Call, IntType, U64, U128, I128, Slot}
use Rattle.sval_label.specs.Calls as calls
use Rattle.sval_script.specs.Printed.{type_word}
use Rattle.sval_cbor_read.specs.declared.node.Place as made_place
use Rattle.sval_cbor_read.specs.declared.node.Place.TheVariants as place
use Rattle.sval_cbor_read.specs.declared.node.Kind as made_kind
use Rattle.sval_cbor_read.specs.declared.node.Kind.TheVariants as kind
use Rattle.sval_cbor_read.specs.declared.node.Node.{Node}
use Rattle.sval_cbor_read.specs.Items.{ItemHead, head, head_at_front, is_piece, negative_type, big_endian}
use Rattle.sval_cbor_read.specs.CborValues.{CborValue, Text, Binary, no_values, cbor_innermost_level, cbor_first_value, IsOneItem}
use Rattle.sval_cbor_read.specs.Reading.{Mark, BinaryPieces, TextPieces, SeqToBreak, MapToBreak, Falsehood, Truth, Null, Move, moves, mark_of, first_step, item_step, body_step, tag_step, string_step, string_calls, Ended}
use Rattle.sval_cbor_read.specs.SeenNodes.{node_offset, item_place_begins, item_place_ends, step_calls, piece_calls, byte_string, item_begins_before, node_own_calls, item_ends_behind, cbor_node_calls, NodeBegins, NodeStands}
use Rattle.sval_cbor_read.specs.ItemScripts.{chunks_length, script_before, script_within, sized_script, item_script}
use Rattle.sval_cbor_read.proofs.NodeStreams.{calls_at}
use Rattle.sval_cbor_read.proofs.CborNodes.{one_chunk}

-- ---- calls before others

-- what a call adds stands before what follows, and is the same for each size
pub record IsPlain (call : Call) : Type 0 where
  before : (size : ℕ) (more later : List ℕ) → script_before size call (more ++ later) ≡ script_before size call more ++ later
  same : (size other : ℕ) (more : List ℕ) → script_before size call more ≡ script_before other call more

abbrev pub ArePlain : List Call → Type 0
ArePlain calls = AllByRecursion IsPlain calls

plain_null : IsPlain Call.Null
plain_null = record { before = λ size more later. refl; same = λ size other more. refl }

plain_truth : (b : Bool) → IsPlain (Call.Truth b)
plain_truth true = record { before = λ size more later. refl; same = λ size other more. refl }
plain_truth false = record { before = λ size more later. refl; same = λ size other more. refl }

plain_int : (type : IntType) (number : ℤ) → IsPlain (Call.Int type number)
plain_int type number = record {
  before = λ size more later.
      let digits = signed_decimal number in
      sym (append_assoc (type_word type) (32 ∷ (digits ++ (10 ∷ more))) later ∙ ap (λ x. type_word type ++ (32 ∷ x)) (append_assoc digits (10 ∷ more) later));
  same = λ size other more. refl;
}

-- the begin of a string of this size
text_begin_before : (size : ℕ) (more later : List ℕ)
    → codes "text_begin " ++ (decimal size ++ (codes "\ntext_fragment =" ++ (more ++ later))) ≡ (codes "text_begin " ++ (decimal size ++ (codes "\ntext_fragment =" ++ more))) ++ later
text_begin_before size more later = ap (λ x. codes "text_begin " ++ x) (sym (append_assoc (decimal size) (codes "\ntext_fragment =" ++ more) later))

binary_begin_before : (size : ℕ) (more later : List ℕ)
    → codes "binary_begin " ++ (decimal size ++ (codes "\nbinary_fragment =" ++ (more ++ later))) ≡ (codes "binary_begin " ++ (decimal size ++ (codes "\nbinary_fragment =" ++ more))) ++ later
binary_begin_before size more later = ap (λ x. codes "binary_begin " ++ x) (sym (append_assoc (decimal size) (codes "\nbinary_fragment =" ++ more) later))

plain_text : (n : ℕ) (letters : List ℕ) → ArePlain (Call.TextBegin (Some n) ∷ Call.TextFragment true letters ∷ Call.TextEnd ∷ [])
plain_text n letters = (
  record { before = λ size more later. text_begin_before n more later; same = λ size other more. refl },
  (
    record { before = λ size more later. sym (append_assoc (encode_lower letters) more later); same = λ size other more. refl },
    (record { before = λ size more later. refl; same = λ size other more. refl }, tt),
  ),
)

plain_binary : (n : ℕ) (bytes : List ℕ) → ArePlain (Call.BinaryBegin (Some n) ∷ Call.BinaryFragment true bytes ∷ Call.BinaryEnd ∷ [])
plain_binary n bytes = (
  record { before = λ size more later. binary_begin_before n more later; same = λ size other more. refl },
  (
    record { before = λ size more later. sym (append_assoc (encode_lower bytes) more later); same = λ size other more. refl },
    (record { before = λ size more later. refl; same = λ size other more. refl }, tt),
  ),
)

plain_text_chunk : (letters : List ℕ) → ArePlain (Call.TextFragment true letters ∷ [])
plain_text_chunk letters = (record { before = λ size more later. sym (append_assoc (encode_lower letters) more later); same = λ size other more. refl }, tt)

plain_binary_chunk : (bytes : List ℕ) → ArePlain (Call.BinaryFragment true bytes ∷ [])
plain_binary_chunk bytes = (record { before = λ size more later. sym (append_assoc (encode_lower bytes) more later); same = λ size other more. refl }, tt)

pub plain_append : (first second : List Call) → ArePlain first → ArePlain second → ArePlain (first ++ second)
plain_append [] second p q = q
plain_append (call ∷ first) second p q = (p.0, plain_append first second p.1 q)

-- such calls have the same script for each size
pub any_size : (made : List Call) → ArePlain made → (size other : ℕ) → script_within size made ≡ script_within other made
any_size [] p size other = refl
any_size (call ∷ made) p size other = ap (script_before size call) (any_size made p.1 size other) ∙ p.0.same size other (script_within other made)

within_both : (first second : List Call) → ArePlain first → (size : ℕ) → script_within size (first ++ second) ≡ script_within size first ++ script_within size second
within_both [] second p size = refl
within_both (call ∷ first) second p size = ap (script_before size call) (within_both first second p.1 size) ∙ p.0.before size (script_within size first) (script_within size second)

-- the script of some calls before those that follow
unfoldable pub InFront : ℕ → List Call → List Call → Type 0
InFront size made more = item_script (made ++ more) ≡ script_within size made ++ item_script more

pub plain_in_front : (made : List Call) → ArePlain made → (size : ℕ) (more : List Call) → InFront size made more
unfolding InFront
plain_in_front [] p size more = refl
plain_in_front (call ∷ made) p size more =
    ap (script_before (chunks_length (made ++ more)) call) (plain_in_front made p.1 size more)
    ∙ p.0.before (chunks_length (made ++ more)) (script_within size made) (item_script more)
    ∙ ap (λ x. x ++ item_script more) (p.0.same (chunks_length (made ++ more)) size (script_within size made))

pub both_in_front : (first second : List Call) → ArePlain first → (size : ℕ) (more : List Call) → InFront size second more → InFront size (first ++ second) more
unfolding InFront
both_in_front first second p size more h =
    ap item_script (append_assoc first second more) ∙ plain_in_front first p size (second ++ more)
    ∙ ap (λ x. script_within size first ++ x) h ∙ sym (append_assoc (script_within size first) (script_within size second) (item_script more))
    ∙ ap (λ x. x ++ item_script more) (sym (within_both first second p size))

pub text_begin_in_front : (more : List Call) → InFront (chunks_length more) (Call.TextBegin None ∷ []) more
unfolding InFront
text_begin_in_front more = text_begin_before (chunks_length more) [] (item_script more)

pub binary_begin_in_front : (more : List Call) → InFront (chunks_length more) (Call.BinaryBegin None ∷ []) more
unfolding InFront
binary_begin_in_front more = binary_begin_before (chunks_length more) [] (item_script more)

-- ---- which calls an item begins with

-- what holds of all calls that can stand behind a head
pub record HoldsBehindHeads (P : List Call → Type 0) : Type 0 where
  no_call : P []
  an_int : (type : IntType) (number : ℤ) → P (Call.Int type number ∷ [])
  a_text : (n : ℕ) (letters : List ℕ) → P (Call.TextBegin (Some n) ∷ Call.TextFragment true letters ∷ Call.TextEnd ∷ [])
  a_binary : (n : ℕ) (bytes : List ℕ) → P (Call.BinaryBegin (Some n) ∷ Call.BinaryFragment true bytes ∷ Call.BinaryEnd ∷ [])
  a_seq : (told : Option ℕ) → P (Call.Begin calls.Seq told ∷ [])
  a_map : (told : Option ℕ) → P (Call.Begin calls.Map told ∷ [])

-- and of those of the bytes that stand by themselves
record HoldsAtMarks (P : List Call → Type 0) : Type 0 where
  a_null : P (Call.Null ∷ [])
  a_truth : (b : Bool) → P (Call.Truth b ∷ [])
  text_chunks : P (Call.TextBegin None ∷ [])
  binary_chunks : P (Call.BinaryBegin None ∷ [])

module _ (P : List Call → Type 0) (h : HoldsBehindHeads P) where
  either_step : (b : Bool) (x y : Option Move) → P (step_calls x) → P (step_calls y) → P (step_calls (if b then x else y))
  either_step true x y p q = p
  either_step false x y p q = q

  of_text : (n : ℕ) (after : List ℕ) → P (step_calls (string_step 3 n after []))
  of_text n after = either_step (nat_le n (length after) && is_piece 3 (take n after)) (moves (string_calls 3 n (take n after)) (drop n after) (Ended [])) None (h.a_text n (take n after)) h.no_call

  of_binary : (n : ℕ) (after : List ℕ) → P (step_calls (string_step 2 n after []))
  of_binary n after = either_step (nat_le n (length after) && is_piece 2 (take n after)) (moves (string_calls 2 n (take n after)) (drop n after) (Ended [])) None (h.a_binary n (take n after)) h.no_call

  of_tag : (n : ℕ) (after : List ℕ) → P (step_calls (tag_step n after []))
  of_tag n after = either_step (n == 2) _ _ h.no_call (either_step (n == 3) _ _ h.no_call h.no_call)

  pub of_body : (major n : ℕ) (after : List ℕ) → P (step_calls (body_step major n after []))
  of_body major n after =
      either_step (major == 0) _ _ (h.an_int U64 (pos n))
      (either_step (major == 1) _ _ (h.an_int (negative_type n) (negsuc n))
      (either_step (major == 2) _ _ (of_binary n after)
      (either_step (major == 3) _ _ (of_text n after)
      (either_step (major == 4) _ _ (h.a_seq (Some n))
      (either_step (major == 5) _ _ (h.a_map (Some n))
      (either_step (major == 6) _ _ (of_tag n after) h.no_call))))))

  of_first : HoldsAtMarks P → (mark : Option Mark) (bytes : List ℕ) (begun : Option ItemHead) → P (step_calls (first_step mark bytes begun []))
  of_first m (Some BinaryPieces) bytes begun = m.binary_chunks
  of_first m (Some TextPieces) bytes begun = m.text_chunks
  of_first m (Some SeqToBreak) bytes begun = h.a_seq None
  of_first m (Some MapToBreak) bytes begun = h.a_map None
  of_first m (Some Falsehood) bytes begun = m.a_truth false
  of_first m (Some Truth) bytes begun = m.a_truth true
  of_first m (Some Null) bytes begun = m.a_null
  of_first m None bytes None = h.no_call
  of_first m None bytes (Some (head major n after)) = of_body major n after

  of_item : HoldsAtMarks P → (bytes : List ℕ) → P (step_calls (item_step bytes []))
  of_item m [] = h.no_call
  of_item m (first ∷ bytes) = of_first m (mark_of first) bytes (head_at_front (first ∷ bytes))

plain_seq : (told : Option ℕ) → IsPlain (Call.Begin calls.Seq told)
plain_seq told = record { before = λ size more later. refl; same = λ size other more. refl }

plain_map : (told : Option ℕ) → IsPlain (Call.Begin calls.Map told)
plain_map told = record { before = λ size more later. refl; same = λ size other more. refl }

pub plain_heads : HoldsBehindHeads ArePlain
plain_heads = record {
  no_call = tt;
  an_int = λ type number. (plain_int type number, tt);
  a_text = plain_text;
  a_binary = plain_binary;
  a_seq = λ told. (plain_seq told, tt);
  a_map = λ told. (plain_map told, tt);
}

-- they are plain, or the begin of a string in chunks
data AreBegins : List Call → Type 0 where
  plainly : {made : List Call} → ArePlain made → AreBegins made
  of_text_chunks : {made : List Call} → made ≡ Call.TextBegin None ∷ [] → AreBegins made
  of_binary_chunks : {made : List Call} → made ≡ Call.BinaryBegin None ∷ [] → AreBegins made

item_begins : (bytes : List ℕ) → AreBegins (step_calls (item_step bytes []))
item_begins bytes = of_item AreBegins (record {
  no_call = plainly tt;
  an_int = λ type number. plainly (plain_heads.an_int type number);
  a_text = λ n letters. plainly (plain_text n letters);
  a_binary = λ n bytes. plainly (plain_binary n bytes);
  a_seq = λ told. plainly (plain_heads.a_seq told);
  a_map = λ told. plainly (plain_heads.a_map told);
}) (record {
  a_null = plainly (plain_null, tt);
  a_truth = λ b. plainly (plain_truth b, tt);
  text_chunks = of_text_chunks refl;
  binary_chunks = of_binary_chunks refl;
}) bytes

-- none of them is a fragment
unfoldable pub StartsNoChunk : List Call → Type 0
StartsNoChunk made = 0 < length made → (more : List Call) → chunks_length (made ++ more) ≡ 0

no_calls : {A : Type 0} → 0 < length (let none : List Call = [] in none) → A
no_calls l = absurd (omega arith)

pub item_starts : (bytes : List ℕ) → StartsNoChunk (step_calls (item_step bytes []))
unfolding StartsNoChunk
item_starts bytes = of_item StartsNoChunk (record {
  no_call = λ l more. no_calls l;
  an_int = λ type number l more. refl;
  a_text = λ n letters l more. refl;
  a_binary = λ n bytes l more. refl;
  a_seq = λ told l more. refl;
  a_map = λ told l more. refl;
}) (record {
  a_null = λ l more. refl;
  a_truth = λ b l more. refl;
  text_chunks = λ l more. refl;
  binary_chunks = λ l more. refl;
}) bytes

-- ---- the three parts of a node's calls

place_begins_plain : (p : made_place.Place) → ArePlain (item_place_begins p)
place_begins_plain place.Alone = tt
place_begins_plain place.Item = (record { before = λ size more later. refl; same = λ size other more. refl }, tt)
place_begins_plain place.Key = (record { before = λ size more later. refl; same = λ size other more. refl }, tt)
place_begins_plain place.Value = (record { before = λ size more later. refl; same = λ size other more. refl }, tt)

place_ends_plain : (p : made_place.Place) → ArePlain (item_place_ends p)
place_ends_plain place.Alone = tt
place_ends_plain place.Item = (record { before = λ size more later. refl; same = λ size other more. refl }, tt)
place_ends_plain place.Key = (record { before = λ size more later. refl; same = λ size other more. refl }, tt)
place_ends_plain place.Value = (record { before = λ size more later. refl; same = λ size other more. refl }, tt)

pub begins_plain : (k : made_kind.Kind) (p : made_place.Place) → ArePlain (item_begins_before k p)
begins_plain kind.Item p = place_begins_plain p
begins_plain kind.Big p = place_begins_plain p
begins_plain kind.NegativeBig p = place_begins_plain p
begins_plain kind.Begin p = place_begins_plain p
begins_plain kind.TextPiece p = tt
begins_plain kind.BinaryPiece p = tt
begins_plain kind.EndText p = tt
begins_plain kind.EndBinary p = tt
begins_plain kind.EndSeq p = tt
begins_plain kind.EndMap p = tt

pub ends_plain : (k : made_kind.Kind) (p : made_place.Place) → ArePlain (item_ends_behind k p)
ends_plain kind.Item p = place_ends_plain p
ends_plain kind.Big p = place_ends_plain p
ends_plain kind.NegativeBig p = place_ends_plain p
ends_plain kind.Begin p = tt
ends_plain kind.TextPiece p = tt
ends_plain kind.BinaryPiece p = tt
ends_plain kind.EndText p = place_ends_plain p
ends_plain kind.EndBinary p = place_ends_plain p
ends_plain kind.EndSeq p = place_ends_plain p
ends_plain kind.EndMap p = place_ends_plain p

-- the begin of a string in chunks is no whole item
two_texts : (value : CborValue) → Text [] ≡ value → Text ([] ∷ []) ≡ value → ⊥
two_texts value e f = cc (e, f)

no_whole_text : IsOneItem (Call.TextBegin None ∷ []) → ⊥
no_whole_text w =
    let one : Text [] ≡ w.value = ap (λ levels. cbor_first_value (cbor_innermost_level levels).values) (w.puts_it []) in
    let two : Text ([] ∷ []) ≡ w.value = ap (λ levels. cbor_first_value (cbor_innermost_level levels).values) (w.puts_it (record { texts = [] ∷ []; binaries = []; values = no_values } ∷ [])) in
    two_texts w.value one two

two_binaries : (value : CborValue) → Binary [] ≡ value → Binary ([] ∷ []) ≡ value → ⊥
two_binaries value e f = cc (e, f)

no_whole_binary : IsOneItem (Call.BinaryBegin None ∷ []) → ⊥
no_whole_binary w =
    let one : Binary [] ≡ w.value = ap (λ levels. cbor_first_value (cbor_innermost_level levels).values) (w.puts_it []) in
    let two : Binary ([] ∷ []) ≡ w.value = ap (λ levels. cbor_first_value (cbor_innermost_level levels).values) (w.puts_it (record { texts = []; binaries = [] ∷ []; values = no_values } ∷ [])) in
    two_binaries w.value one two

whole_plain : (made : List Call) → AreBegins made → IsOneItem made → ArePlain made
whole_plain made (plainly p) w = p
whole_plain made (of_text_chunks e) w = absurd (no_whole_text (subst IsOneItem e w))
whole_plain made (of_binary_chunks e) w = absurd (no_whole_binary (subst IsOneItem e w))

text_piece_plain : (bytes : List ℕ) → 0 < length (piece_calls 3 bytes) → ArePlain (piece_calls 3 bytes)
text_piece_plain bytes l = let c = one_chunk 3 bytes l in subst ArePlain (sym c.is) (plain_text_chunk c.content)

binary_piece_plain : (bytes : List ℕ) → 0 < length (piece_calls 2 bytes) → ArePlain (piece_calls 2 bytes)
binary_piece_plain bytes l = let c = one_chunk 2 bytes l in subst ArePlain (sym c.is) (plain_binary_chunk c.content)

-- a node's own calls are plain, or the begin of a string in chunks, behind which nothing stands that ends a part
pub data AreOwn (k : made_kind.Kind) (p : made_place.Place) (bytes : List ℕ) : Type 0 where
  own_plain : ArePlain (node_own_calls k bytes) → AreOwn k p bytes
  own_text_chunks : k ≡ kind.Begin → node_own_calls k bytes ≡ Call.TextBegin None ∷ [] → item_ends_behind k p ≡ [] → AreOwn k p bytes
  own_binary_chunks : k ≡ kind.Begin → node_own_calls k bytes ≡ Call.BinaryBegin None ∷ [] → item_ends_behind k p ≡ [] → AreOwn k p bytes

own_begin : (p : made_place.Place) (bytes : List ℕ) → AreBegins (step_calls (item_step bytes [])) → AreOwn kind.Begin p bytes
own_begin p bytes (plainly q) = own_plain q
own_begin p bytes (of_text_chunks e) = own_text_chunks refl e refl
own_begin p bytes (of_binary_chunks e) = own_binary_chunks refl e refl

plain_end : (call : Call) → IsPlain call → ArePlain (call ∷ [])
plain_end call p = (p, tt)

pub own_calls : (k : made_kind.Kind) (p : made_place.Place) (bytes : List ℕ) → NodeBegins k bytes → AreOwn k p bytes
own_calls kind.Item p bytes s = own_plain (whole_plain (step_calls (item_step bytes [])) (item_begins bytes) s.1)
own_calls kind.Big p bytes s = own_plain (plain_int U128 (pos (big_endian (byte_string bytes))), tt)
own_calls kind.NegativeBig p bytes s = own_plain (plain_int I128 (negsuc (big_endian (byte_string bytes))), tt)
own_calls kind.Begin p bytes s = own_begin p bytes (item_begins bytes)
own_calls kind.TextPiece p bytes s = own_plain (text_piece_plain bytes s)
own_calls kind.BinaryPiece p bytes s = own_plain (binary_piece_plain bytes s)
own_calls kind.EndText p bytes s = own_plain (record { before = λ size more later. refl; same = λ size other more. refl }, tt)
own_calls kind.EndBinary p bytes s = own_plain (record { before = λ size more later. refl; same = λ size other more. refl }, tt)
own_calls kind.EndSeq p bytes s = own_plain (record { before = λ size more later. refl; same = λ size other more. refl }, tt)
own_calls kind.EndMap p bytes s = own_plain (record { before = λ size more later. refl; same = λ size other more. refl }, tt)

-- what a node writes comes in three parts
own_and_ends : (size : ℕ) (own ends : List Call) → ArePlain own ⊎ (ends ≡ []) → ArePlain ends → script_within size (own ++ ends) ≡ script_within size own ++ sized_script ends
own_and_ends size own ends (inl p) q = within_both own ends p size ∙ ap (λ x. script_within size own ++ x) (any_size ends q size 0)
own_and_ends size own ends (inr e) q =
    ap (λ ends. script_within size (own ++ ends)) e ∙ ap (script_within size) (append-nil own) ∙ sym (append-nil (script_within size own)) ∙ ap (λ ends. script_within size own ++ sized_script ends) (sym e)

plain_or_last : {k : made_kind.Kind} {p : made_place.Place} {bytes : List ℕ} → AreOwn k p bytes → ArePlain (node_own_calls k bytes) ⊎ (item_ends_behind k p ≡ [])
plain_or_last (own_plain q) = inl q
plain_or_last (own_text_chunks b e f) = inr f
plain_or_last (own_binary_chunks b e f) = inr f

pub three_parts : (bytes : List ℕ) (node : Node) (size : ℕ) → NodeStands bytes node
    → script_within size (cbor_node_calls bytes node) ≡ sized_script (item_begins_before node.kind node.place) ++ (script_within size (calls_at bytes node) ++ sized_script (item_ends_behind node.kind node.place))
three_parts bytes node size s =
    let begins = item_begins_before node.kind node.place in
    let own = calls_at bytes node in
    let ends = item_ends_behind node.kind node.place in
    within_both begins (own ++ ends) (begins_plain node.kind node.place) size
    ∙ ap (λ x. x ++ script_within size (own ++ ends)) (any_size begins (begins_plain node.kind node.place) size 0)
    ∙ ap (λ x. sized_script begins ++ x) (own_and_ends size own ends (plain_or_last (own_calls node.kind node.place (drop (node_offset node) bytes) s)) (ends_plain node.kind node.place))
