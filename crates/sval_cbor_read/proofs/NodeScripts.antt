-- The script of nodes is written node by node.
use Rattle.std.specs.Prelude.{◌≡◌, ℕ, ◌+◌, ◌<◌, true, List, [], ◌∷◌, ◌++◌, codes, decimal, length, take, drop, get_or, Some, None, refl}
use Rattle.std.proofs.Common.{sym, ap, subst, ◌∙◌, arith, append_assoc, append-nil}
use Rattle.hex.specs.Hex.{encode_lower}
use Rattle.sval_label.specs.Calls.{Call}
use Rattle.sval_io.specs.declared.sink.SinkError.{SinkError}
use Rattle.sval_io.specs.Sinks.{Told, WritesWhole, WritesFront}
use Rattle.sval_json_read.specs.TextParts.{IsWrittenUpTo}
use Rattle.sval_json_read.proofs.NodeTexts.{up_to_begin, up_to_next, up_to_end, stops_in_next}
use Rattle.sval_cbor_read.specs.declared.node.Place as made_place
use Rattle.sval_cbor_read.specs.declared.node.Place.TheVariants as place
use Rattle.sval_cbor_read.specs.declared.node.Kind as made_kind
use Rattle.sval_cbor_read.specs.declared.node.Kind.TheVariants as kind
use Rattle.sval_cbor_read.specs.declared.node.Node.{Node}
use Rattle.sval_cbor_read.specs.Reading.{item_step, body_step, string_step}
use Rattle.sval_cbor_read.specs.SeenNodes.{node_offset, item_place_begins, item_place_ends, step_calls, piece_calls, item_begins_before, node_own_calls, item_ends_behind, cbor_node_calls, streamed_items, NodeBegins, NodeStands, NodesStand}
use Rattle.sval_cbor_read.specs.ItemScripts.{chunks_length, script_within, sized_script, item_script, IsChunkLength, IsStringSize}
use Rattle.sval_cbor_read.proofs.ItemCalls.{whole_string, string_calls_are}
use Rattle.sval_cbor_read.proofs.NodeStreams.{calls_at, here}
use Rattle.sval_cbor_read.proofs.ItemScripts.{whole_size}
use Rattle.sval_cbor_read.proofs.PlainCalls.{ArePlain, any_size, plain_append, InFront, plain_in_front, both_in_front, text_begin_in_front, binary_begin_in_front, begins_plain, ends_plain, AreOwn, own_plain, own_text_chunks, own_binary_chunks, own_calls, StartsNoChunk, item_starts, plain_heads, of_body}

-- ---- a node before those that follow

lone_in_front : (made ends more : List Call) (begin : Call) (size : ℕ) → made ≡ begin ∷ [] → ends ≡ [] → InFront size (begin ∷ []) more → InFront size (made ++ ends) more
lone_in_front made ends more begin size e f h = subst (λ made. InFront size made more) (sym (ap (λ made. made ++ ends) e ∙ ap (λ ends. begin ∷ ends) f)) h

own_in_front : (k : made_kind.Kind) (p : made_place.Place) (bytes : List ℕ) (size : ℕ) (more : List Call) → AreOwn k p bytes → (k ≡ kind.Begin → size ≡ chunks_length more) → InFront size (node_own_calls k bytes ++ item_ends_behind k p) more
own_in_front k p bytes size more (own_plain q) z =
    plain_in_front (node_own_calls k bytes ++ item_ends_behind k p) (plain_append (node_own_calls k bytes) (item_ends_behind k p) q (ends_plain k p)) size more
own_in_front k p bytes size more (own_text_chunks b e f) z =
    lone_in_front (node_own_calls k bytes) (item_ends_behind k p) more (Call.TextBegin None) size e f (subst (λ size. InFront size (Call.TextBegin None ∷ []) more) (sym (z b)) (text_begin_in_front more))
own_in_front k p bytes size more (own_binary_chunks b e f) z =
    lone_in_front (node_own_calls k bytes) (item_ends_behind k p) more (Call.BinaryBegin None) size e f (subst (λ size. InFront size (Call.BinaryBegin None ∷ []) more) (sym (z b)) (binary_begin_in_front more))

node_in_front : (bytes : List ℕ) (node : Node) (behind : List Node) (size : ℕ) → NodeStands bytes node → IsStringSize bytes node behind size
    → item_script (streamed_items bytes (node ∷ behind)) ≡ script_within size (cbor_node_calls bytes node) ++ item_script (streamed_items bytes behind)
unfolding InFront
node_in_front bytes node behind size s z =
    both_in_front (item_begins_before node.kind node.place) (calls_at bytes node ++ item_ends_behind node.kind node.place) (begins_plain node.kind node.place) size (streamed_items bytes behind)
    (own_in_front node.kind node.place (drop (node_offset node) bytes) size (streamed_items bytes behind) (own_calls node.kind node.place (drop (node_offset node) bytes) s) z)

-- ---- the length of a string in chunks

-- the calls of a node of this kind, in this place
abbrev all_calls_of : made_kind.Kind → made_place.Place → List ℕ → List Call
all_calls_of k p bytes = item_begins_before k p ++ (node_own_calls k bytes ++ item_ends_behind k p)

text_length_of : (k : made_kind.Kind) (p : made_place.Place) (bytes letters : List ℕ) (more : List Call) → k ≡ kind.TextPiece → piece_calls 3 bytes ≡ Call.TextFragment true letters ∷ [] → chunks_length (all_calls_of k p bytes ++ more) ≡ length letters + chunks_length more
text_length_of k p bytes letters more e f =
    subst (λ k. chunks_length (all_calls_of k p bytes ++ more) ≡ length letters + chunks_length more) (sym e) (ap (λ made. chunks_length ((made ++ []) ++ more)) f)

pub text_chunk_length : (bytes : List ℕ) (node : Node) (letters : List ℕ) (size : ℕ) → node.kind ≡ kind.TextPiece → piece_calls 3 (drop (node_offset node) bytes) ≡ Call.TextFragment true letters ∷ [] → size ≡ length letters → IsChunkLength bytes node (Some size)
text_chunk_length bytes node letters size e f l = λ more. text_length_of node.kind node.place (drop (node_offset node) bytes) letters more e f ∙ ap (λ size. size + chunks_length more) (sym l)

binary_length_of : (k : made_kind.Kind) (p : made_place.Place) (bytes content : List ℕ) (more : List Call) → k ≡ kind.BinaryPiece → piece_calls 2 bytes ≡ Call.BinaryFragment true content ∷ [] → chunks_length (all_calls_of k p bytes ++ more) ≡ length content + chunks_length more
binary_length_of k p bytes content more e f =
    subst (λ k. chunks_length (all_calls_of k p bytes ++ more) ≡ length content + chunks_length more) (sym e) (ap (λ made. chunks_length ((made ++ []) ++ more)) f)

pub binary_chunk_length : (bytes : List ℕ) (node : Node) (content : List ℕ) (size : ℕ) → node.kind ≡ kind.BinaryPiece → piece_calls 2 (drop (node_offset node) bytes) ≡ Call.BinaryFragment true content ∷ [] → size ≡ length content → IsChunkLength bytes node (Some size)
binary_chunk_length bytes node content size e f l = λ more. binary_length_of node.kind node.place (drop (node_offset node) bytes) content more e f ∙ ap (λ size. size + chunks_length more) (sym l)

in_place_no_chunk : (p : made_place.Place) (own ends more : List Call) → ((later : List Call) → chunks_length (own ++ later) ≡ 0) → chunks_length ((item_place_begins p ++ (own ++ ends)) ++ more) ≡ 0
in_place_no_chunk place.Alone own ends more h = ap chunks_length (append_assoc own ends more) ∙ h (ends ++ more)
in_place_no_chunk place.Item own ends more h = refl
in_place_no_chunk place.Key own ends more h = refl
in_place_no_chunk place.Value own ends more h = refl

no_chunk_of : (k : made_kind.Kind) (p : made_place.Place) (bytes : List ℕ) (more : List Call) → NodeBegins k bytes → (k ≡ kind.TextPiece → ⊥) → (k ≡ kind.BinaryPiece → ⊥) → chunks_length (all_calls_of k p bytes ++ more) ≡ 0
unfolding StartsNoChunk
no_chunk_of kind.Item p bytes more s n m = in_place_no_chunk p (step_calls (item_step bytes [])) (item_place_ends p) more (item_starts bytes s.0)
no_chunk_of kind.Big p bytes more s n m = in_place_no_chunk p (node_own_calls kind.Big bytes) (item_place_ends p) more (λ later. refl)
no_chunk_of kind.NegativeBig p bytes more s n m = in_place_no_chunk p (node_own_calls kind.NegativeBig bytes) (item_place_ends p) more (λ later. refl)
no_chunk_of kind.Begin p bytes more s n m = in_place_no_chunk p (step_calls (item_step bytes [])) [] more (item_starts bytes s.0)
no_chunk_of kind.TextPiece p bytes more s n m = absurd (n refl)
no_chunk_of kind.BinaryPiece p bytes more s n m = absurd (m refl)
no_chunk_of kind.EndText p bytes more s n m = refl
no_chunk_of kind.EndBinary p bytes more s n m = refl
no_chunk_of kind.EndSeq p bytes more s n m = refl
no_chunk_of kind.EndMap p bytes more s n m = refl

pub no_chunk_length : (bytes : List ℕ) (node : Node) → NodeStands bytes node → (node.kind ≡ kind.TextPiece → ⊥) → (node.kind ≡ kind.BinaryPiece → ⊥) → IsChunkLength bytes node None
no_chunk_length bytes node s n m = λ more. no_chunk_of node.kind node.place (drop (node_offset node) bytes) more s n m

-- the chunks up to here have this length, and these nodes are left
pub record AreMeasuredUpTo (bytes : List ℕ) (all left : List Node) (len : ℕ) : Type 0 where
  pub kept : NodesStand bytes left
  pub length_is : chunks_length (streamed_items bytes all) ≡ len + chunks_length (streamed_items bytes left)

with_chunk : (all len here size more : ℕ) → all ≡ len + here → here ≡ size + more → all ≡ len + size + more
with_chunk all len here size more e f = omega arith

without_chunk : (all len here : ℕ) → all ≡ len + here → here ≡ 0 → len ≡ all
without_chunk all len here e f = omega arith

module _ {bytes : List ℕ} (nodes : List Node) (i : ℕ) (d : Node) {len : ℕ} (s : AreMeasuredUpTo bytes nodes (drop i nodes) len) (within : i < length nodes) where
  measured_here : NodesStand bytes (get_or nodes i d ∷ drop (i + 1) nodes)
  measured_here = subst (NodesStand bytes) (here nodes i d within) s.kept

  pub measured_node : NodeStands bytes (get_or nodes i d)
  measured_node = measured_here.0

  left_length : chunks_length (streamed_items bytes nodes) ≡ len + chunks_length (cbor_node_calls bytes (get_or nodes i d) ++ streamed_items bytes (drop (i + 1) nodes))
  left_length = s.length_is ∙ ap (λ left. len + chunks_length (streamed_items bytes left)) (here nodes i d within)

  pub measures_on : (size : ℕ) → IsChunkLength bytes (get_or nodes i d) (Some size) → AreMeasuredUpTo bytes nodes (drop (i + 1) nodes) (len + size)
  measures_on size h = record {
    kept = measured_here.1;
    length_is = with_chunk _ len _ size _ left_length (h (streamed_items bytes (drop (i + 1) nodes)));
  }

  pub measured_all : IsChunkLength bytes (get_or nodes i d) None → len ≡ chunks_length (streamed_items bytes nodes)
  measured_all h = without_chunk _ len _ left_length (h (streamed_items bytes (drop (i + 1) nodes)))

pub measured_end : {bytes : List ℕ} {nodes left : List Node} {len : ℕ} → AreMeasuredUpTo bytes nodes left len → left ≡ [] → len ≡ chunks_length (streamed_items bytes nodes)
measured_end {bytes = bytes} {len = len} s e = without_chunk _ len _ s.length_is (ap (λ left. chunks_length (streamed_items bytes left)) e)

-- ---- node by node

-- the lines of all nodes before these were written
pub record ArePrintedUpTo (old : Told) (bytes : List ℕ) (all left : List Node) (new : Told) : Type 0 where
  pub kept : NodesStand bytes left
  pub written : IsWrittenUpTo old (item_script (streamed_items bytes all)) (item_script (streamed_items bytes left)) new

pub prints_begin : (told : Told) (bytes : List ℕ) (nodes : List Node) → NodesStand bytes nodes → ArePrintedUpTo told bytes nodes nodes told
prints_begin told bytes nodes k = record { kept = k; written = up_to_begin told (item_script (streamed_items bytes nodes)) }

module _ {old mid : Told} {bytes : List ℕ} {all : List Node} (left : List Node) (d : Node) (s : ArePrintedUpTo old bytes all left mid) (some : 0 < length left) where
  first_left : left ≡ get_or left 0 d ∷ drop 1 left
  first_left = here left 0 d some

  kept_left : NodesStand bytes (get_or left 0 d ∷ drop 1 left)
  kept_left = subst (NodesStand bytes) first_left s.kept

  pub first_stands : NodeStands bytes (get_or left 0 d)
  first_stands = kept_left.0

  pub others_stand : NodesStand bytes (drop 1 left)
  others_stand = kept_left.1

  lines_left : (size : ℕ) → IsStringSize bytes (get_or left 0 d) (drop 1 left) size
      → item_script (streamed_items bytes left) ≡ script_within size (cbor_node_calls bytes (get_or left 0 d)) ++ item_script (streamed_items bytes (drop 1 left))
  lines_left size z = ap (λ left. item_script (streamed_items bytes left)) first_left ∙ node_in_front bytes (get_or left 0 d) (drop 1 left) size first_stands z

  pub prints_on : (size : ℕ) (new : Told) → IsStringSize bytes (get_or left 0 d) (drop 1 left) size → WritesWhole mid (script_within size (cbor_node_calls bytes (get_or left 0 d))) new
      → ArePrintedUpTo old bytes all (drop 1 left) new
  prints_on size new z w = record {
    kept = others_stand;
    written = up_to_next (script_within size (cbor_node_calls bytes (get_or left 0 d))) (item_script (streamed_items bytes (drop 1 left))) (lines_left size z) s.written w;
  }

  pub prints_stop : {why : SinkError} (size : ℕ) (new : Told) → IsStringSize bytes (get_or left 0 d) (drop 1 left) size → WritesFront why mid (script_within size (cbor_node_calls bytes (get_or left 0 d))) new
      → WritesFront why old (item_script (streamed_items bytes all)) new
  prints_stop size new z f = stops_in_next (script_within size (cbor_node_calls bytes (get_or left 0 d))) (item_script (streamed_items bytes (drop 1 left))) (lines_left size z) s.written f

pub prints_end : {old new : Told} {bytes : List ℕ} {all left : List Node} → ArePrintedUpTo old bytes all left new → left ≡ [] → WritesWhole old (item_script (streamed_items bytes all)) new
prints_end {bytes = bytes} s e = up_to_end (ap (λ left. item_script (streamed_items bytes left)) e) s.written

-- ---- the code's pieces

-- a string's lines by its begin, its digits and its end
pub string_parts : (begin n fragment digits end : List ℕ) → begin ++ (n ++ (fragment ++ (digits ++ end))) ≡ (begin ++ (n ++ fragment)) ++ (digits ++ end)
string_parts begin n fragment digits end = sym (append_assoc begin (n ++ fragment) (digits ++ end) ∙ ap (λ x. begin ++ x) (append_assoc n fragment (digits ++ end)))

-- the lines of a whole string are the script of its calls
pub text_lines_are : (n : ℕ) (after content : List ℕ) → 0 < length (step_calls (string_step 3 n after [])) → content ≡ take n after
    → codes "text_begin " ++ (decimal (length content) ++ (codes "\ntext_fragment =" ++ (encode_lower content ++ codes "\ntext_end\n"))) ≡ sized_script (step_calls (string_step 3 n after []))
text_lines_are n after content l e =
    let size : length content ≡ n = ap length e ∙ sym (whole_size n after (whole_string 3 n after l).within) in
    ap (λ size. codes "text_begin " ++ (decimal size ++ (codes "\ntext_fragment =" ++ (encode_lower content ++ codes "\ntext_end\n")))) size ∙ ap sized_script (string_calls_are 3 n after content l e)

pub binary_lines_are : (n : ℕ) (after content : List ℕ) → 0 < length (step_calls (string_step 2 n after [])) → content ≡ take n after
    → codes "binary_begin " ++ (decimal (length content) ++ (codes "\nbinary_fragment =" ++ (encode_lower content ++ codes "\nbinary_end\n"))) ≡ sized_script (step_calls (string_step 2 n after []))
binary_lines_are n after content l e =
    let size : length content ≡ n = ap length e ∙ sym (whole_size n after (whole_string 2 n after l).within) in
    ap (λ size. codes "binary_begin " ++ (decimal size ++ (codes "\nbinary_fragment =" ++ (encode_lower content ++ codes "\nbinary_end\n")))) size ∙ ap sized_script (string_calls_are 2 n after content l e)

-- the script of a chunk is its digits
pub text_chunk_digits : (size : ℕ) (bytes letters : List ℕ) → piece_calls 3 bytes ≡ Call.TextFragment true letters ∷ [] → encode_lower letters ≡ script_within size (piece_calls 3 bytes)
text_chunk_digits size bytes letters e = sym (ap (script_within size) e ∙ append-nil (encode_lower letters))

pub binary_chunk_digits : (size : ℕ) (bytes content : List ℕ) → piece_calls 2 bytes ≡ Call.BinaryFragment true content ∷ [] → encode_lower content ≡ script_within size (piece_calls 2 bytes)
binary_chunk_digits size bytes content e = sym (ap (script_within size) e ∙ append-nil (encode_lower content))

-- the script of what begins with a head is the same for each size
pub headed_size : (major n : ℕ) (after : List ℕ) (size : ℕ) → sized_script (step_calls (body_step major n after [])) ≡ script_within size (step_calls (body_step major n after []))
headed_size major n after size = any_size (step_calls (body_step major n after [])) (of_body ArePlain plain_heads major n after) 0 size
