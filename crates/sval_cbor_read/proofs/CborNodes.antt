-- What nodes are, level by level, and what is found behind the first item of some nodes.
use Rattle.std.specs.Prelude.{◌≡◌, ℕ, zero, suc, ◌+◌, ◌-◌, ◌<◌, ◌≤◌, Bool, true, false, ◌&&◌, ◌==◌, nat_le, if◌then◌else◌, List, [], ◌∷◌, ◌++◌, length, take, drop, get_or, Option, Some, None, refl}
use Rattle.std.proofs.Common.{sym, ap, subst, ◌∙◌, arith}
use Rattle.std.proofs.lemmas.Bool.{false≢true}
use Rattle.sval_label.specs.Calls.{Call}
use Rattle.sval_cbor_read.specs.declared.node.Place as made_place
use Rattle.sval_cbor_read.specs.declared.node.Place.TheVariants as place
use Rattle.sval_cbor_read.specs.declared.node.Kind as made_kind
use Rattle.sval_cbor_read.specs.declared.node.Kind.TheVariants as kind
use Rattle.sval_cbor_read.specs.declared.node.Node.{Node}
use Rattle.sval_cbor_read.specs.Items.{ItemHead, head, head_at_front, is_piece}
use Rattle.sval_cbor_read.specs.Reading.{Ended, moves, fragment_call, with_piece}
use Rattle.sval_cbor_read.specs.CborValues.{CborValue, CborValues, no_values, a_value, CborLevel, cbor_empty_level, cbor_innermost_level, cbor_under, cbor_puts, cbor_closes, cbor_puts_text, puts_binary, puts_call, puts_calls, cbor_levels_of, cbor_first_value, cbor_values_in, cbor_value_in}
use Rattle.sval_cbor_read.specs.SeenNodes.{node_offset, item_place_begins, item_place_ends, step_calls, piece_calls, item_begins_before, node_own_calls, item_ends_behind, cbor_node_calls, streamed_items, NodeBegins, NodeStands, NodesStand}
use Rattle.sval_cbor_read.specs.NodeSpans.{is_first, cbor_depth_behind, cbor_while_open, cbor_span, BeginsItem, IsBehindItem}
use Rattle.sval_cbor_read.specs.SeenFound.{value_at}
use Rattle.sval_cbor_read.proofs.NodeStreams.{calls_at}

-- ---- the levels of nodes

pub puts_then : (first second : List Call) (levels : List CborLevel) → puts_calls (first ++ second) levels ≡ puts_calls first (puts_calls second levels)
puts_then [] second levels = refl
puts_then (call ∷ first) second levels = ap (puts_call call) (puts_then first second levels)

begins_nothing : (p : made_place.Place) (levels : List CborLevel) → puts_calls (item_place_begins p) levels ≡ levels
begins_nothing place.Alone levels = refl
begins_nothing place.Item levels = refl
begins_nothing place.Key levels = refl
begins_nothing place.Value levels = refl

ends_nothing : (p : made_place.Place) (levels : List CborLevel) → puts_calls (item_place_ends p) levels ≡ levels
ends_nothing place.Alone levels = refl
ends_nothing place.Item levels = refl
ends_nothing place.Key levels = refl
ends_nothing place.Value levels = refl

before_nothing : (k : made_kind.Kind) (p : made_place.Place) (levels : List CborLevel) → puts_calls (item_begins_before k p) levels ≡ levels
before_nothing kind.Item p levels = begins_nothing p levels
before_nothing kind.Big p levels = begins_nothing p levels
before_nothing kind.NegativeBig p levels = begins_nothing p levels
before_nothing kind.Begin p levels = begins_nothing p levels
before_nothing kind.TextPiece p levels = refl
before_nothing kind.BinaryPiece p levels = refl
before_nothing kind.EndText p levels = refl
before_nothing kind.EndBinary p levels = refl
before_nothing kind.EndSeq p levels = refl
before_nothing kind.EndMap p levels = refl

behind_nothing : (k : made_kind.Kind) (p : made_place.Place) (levels : List CborLevel) → puts_calls (item_ends_behind k p) levels ≡ levels
behind_nothing kind.Item p levels = ends_nothing p levels
behind_nothing kind.Big p levels = ends_nothing p levels
behind_nothing kind.NegativeBig p levels = ends_nothing p levels
behind_nothing kind.Begin p levels = refl
behind_nothing kind.TextPiece p levels = refl
behind_nothing kind.BinaryPiece p levels = refl
behind_nothing kind.EndText p levels = ends_nothing p levels
behind_nothing kind.EndBinary p levels = ends_nothing p levels
behind_nothing kind.EndSeq p levels = ends_nothing p levels
behind_nothing kind.EndMap p levels = ends_nothing p levels

-- the levels that nodes leave
abbrev pub levels_at : List ℕ → List Node → List CborLevel
levels_at bytes nodes = cbor_levels_of (streamed_items bytes nodes)

-- a node puts its own calls before those that follow
pub first_levels : (bytes : List ℕ) (n : Node) (nodes : List Node) → levels_at bytes (n ∷ nodes) ≡ puts_calls (calls_at bytes n) (levels_at bytes nodes)
first_levels bytes n nodes =
    let own : List Call = calls_at bytes n in
    let before : List Call = item_begins_before n.kind n.place in
    let ends : List Call = item_ends_behind n.kind n.place in
    puts_then (cbor_node_calls bytes n) (streamed_items bytes nodes) [] ∙ puts_then before (own ++ ends) (levels_at bytes nodes) ∙ before_nothing n.kind n.place (puts_calls (own ++ ends) (levels_at bytes nodes))
    ∙ puts_then own ends (levels_at bytes nodes) ∙ ap (puts_calls own) (behind_nothing n.kind n.place (levels_at bytes nodes))

-- ---- chunks

-- a chunk's call, by its content
pub record IsOneChunk (major : ℕ) (bytes : List ℕ) : Type 0 where
  pub content : List ℕ
  pub is : piece_calls major bytes ≡ fragment_call major content ∷ []

pub one_chunk : (major : ℕ) (bytes : List ℕ) → 0 < length (piece_calls major bytes) → IsOneChunk major bytes
one_chunk major bytes l = let r = by_head (head_at_front bytes) l in record { content = r.0; is = r.1 }
  where
    by_test : (b : Bool) (content left : List ℕ) → 0 < length (step_calls (if b then moves (fragment_call major content ∷ []) left (Ended []) else None))
        → (some : List ℕ) × (step_calls (if b then moves (fragment_call major content ∷ []) left (Ended []) else None) ≡ fragment_call major some ∷ [])
    by_test true content left l = (content, refl)
    by_test false content left l = absurd (omega arith)

    by_head : (o : Option ItemHead) → 0 < length (step_calls (with_piece major o (λ piece left. moves (fragment_call major piece ∷ []) left (Ended []))))
        → (some : List ℕ) × (step_calls (with_piece major o (λ piece left. moves (fragment_call major piece ∷ []) left (Ended []))) ≡ fragment_call major some ∷ [])
    by_head None l = absurd (omega arith)
    by_head (Some (head m n after)) l = by_test (m == major && nat_le n (length after) && is_piece major (take n after)) (take n after) (drop n after) l

-- ---- levels that are closed behind an item

-- the levels around this many
abbrev pub outer : ℕ → List CborLevel → List CborLevel
outer zero levels = levels
outer (suc depth) levels = outer depth (cbor_under levels)

outer_none : (depth : ℕ) → outer depth [] ≡ []
outer_none zero = refl
outer_none (suc depth) = outer_none depth

less : (depth : ℕ) (levels : List CborLevel) → outer depth levels ≡ outer (suc depth - 1) levels
less depth levels = let e : depth ≡ suc depth - 1 = omega arith in ap (λ d. outer d levels) e

-- a node changes none of the levels around what it opens or closes
own_outer : (k : made_kind.Kind) (bytes : List ℕ) (levels : List CborLevel) (depth : ℕ) → NodeBegins k bytes → outer (suc depth) (puts_calls (node_own_calls k bytes) levels) ≡ outer (cbor_depth_behind k (suc depth)) levels
own_outer kind.Item bytes levels depth s = ap (outer (suc depth)) (s.1.puts_it levels)
own_outer kind.Big bytes levels depth s = refl
own_outer kind.NegativeBig bytes levels depth s = refl
own_outer kind.Begin bytes levels depth s = ap (outer (suc depth)) (s.1.closes_it levels)
own_outer kind.TextPiece bytes levels depth s = ap (λ made. outer (suc depth) (puts_calls made levels)) (one_chunk 3 bytes s).is
own_outer kind.BinaryPiece bytes levels depth s = ap (λ made. outer (suc depth) (puts_calls made levels)) (one_chunk 2 bytes s).is
own_outer kind.EndText bytes levels depth s = less depth levels
own_outer kind.EndBinary bytes levels depth s = less depth levels
own_outer kind.EndSeq bytes levels depth s = less depth levels
own_outer kind.EndMap bytes levels depth s = less depth levels

-- what is open is closed behind the nodes that are counted
pub skipped : (bytes : List ℕ) (nodes : List Node) (depth : ℕ) → NodesStand bytes nodes → outer depth (levels_at bytes nodes) ≡ levels_at bytes (drop (cbor_while_open depth (cbor_span depth nodes)) nodes)
skipped bytes nodes zero s = refl
skipped bytes [] (suc depth) s = outer_none depth
skipped bytes (n ∷ nodes) (suc depth) s =
    ap (outer (suc depth)) (first_levels bytes n nodes) ∙ own_outer n.kind (drop (node_offset n) bytes) (levels_at bytes nodes) depth s.0 ∙ skipped bytes nodes (cbor_depth_behind n.kind (suc depth)) s.1

-- ---- the first item

-- the first node of an item puts its value before those behind the item
own_first : (k : made_kind.Kind) (bytes : List ℕ) (levels : List CborLevel) → NodeBegins k bytes → is_first k ≡ true
    → (value : CborValue) × ((cbor_innermost_level (puts_calls (node_own_calls k bytes) levels)).values ≡ a_value value (cbor_innermost_level (outer (cbor_depth_behind k zero) levels)).values)
own_first kind.Item bytes levels s f = (s.1.value, ap (λ x. (cbor_innermost_level x).values) (s.1.puts_it levels))
own_first kind.Big bytes levels s f = (_, refl)
own_first kind.NegativeBig bytes levels s f = (_, refl)
own_first kind.Begin bytes levels s f = (s.1.of (cbor_innermost_level levels), ap (λ x. (cbor_innermost_level x).values) (s.1.closes_it levels))
own_first kind.TextPiece bytes levels s f = absurd (false≢true f)
own_first kind.BinaryPiece bytes levels s f = absurd (false≢true f)
own_first kind.EndText bytes levels s f = absurd (false≢true f)
own_first kind.EndBinary bytes levels s f = absurd (false≢true f)
own_first kind.EndSeq bytes levels s f = absurd (false≢true f)
own_first kind.EndMap bytes levels s f = absurd (false≢true f)

-- another node puts none
own_none : (k : made_kind.Kind) (bytes : List ℕ) (levels : List CborLevel) → NodeBegins k bytes → (is_first k ≡ true → ⊥) → (cbor_innermost_level (puts_calls (node_own_calls k bytes) levels)).values ≡ no_values
own_none kind.Item bytes levels s n = absurd (n refl)
own_none kind.Big bytes levels s n = absurd (n refl)
own_none kind.NegativeBig bytes levels s n = absurd (n refl)
own_none kind.Begin bytes levels s n = absurd (n refl)
own_none kind.TextPiece bytes levels s n = ap (λ made. (cbor_innermost_level (puts_calls made levels)).values) (one_chunk 3 bytes s).is
own_none kind.BinaryPiece bytes levels s n = ap (λ made. (cbor_innermost_level (puts_calls made levels)).values) (one_chunk 2 bytes s).is
own_none kind.EndText bytes levels s n = refl
own_none kind.EndBinary bytes levels s n = refl
own_none kind.EndSeq bytes levels s n = refl
own_none kind.EndMap bytes levels s n = refl

-- the values from an item on are its value, and those behind it
pub item_then : (bytes : List ℕ) (nodes behind : List Node) → NodesStand bytes nodes → IsBehindItem nodes behind → cbor_values_in (streamed_items bytes nodes) ≡ a_value (value_at bytes nodes) (cbor_values_in (streamed_items bytes behind))
item_then bytes [] behind s b = absurd b.begins
item_then bytes (n ∷ nodes) behind s b =
    let (value, own) = own_first n.kind (drop (node_offset n) bytes) (levels_at bytes nodes) s.0 b.begins in
    let left : CborValues = (cbor_innermost_level (outer (cbor_depth_behind n.kind zero) (levels_at bytes nodes))).values in
    let all : cbor_values_in (streamed_items bytes (n ∷ nodes)) ≡ a_value value left = ap (λ x. (cbor_innermost_level x).values) (first_levels bytes n nodes) ∙ own in
    let more : left ≡ cbor_values_in (streamed_items bytes behind) =
    ap (λ x. (cbor_innermost_level x).values) (skipped bytes nodes (cbor_depth_behind n.kind zero) s.1) ∙ ap (λ x. cbor_values_in (streamed_items bytes x)) (sym b.behind_is) in
    all ∙ ap (λ x. a_value x left) (sym (ap cbor_first_value all)) ∙ ap (a_value (value_at bytes (n ∷ nodes))) more

-- where no item begins there are no values
pub no_item_here : (bytes : List ℕ) (nodes : List Node) → NodesStand bytes nodes → (BeginsItem nodes → ⊥) → cbor_values_in (streamed_items bytes nodes) ≡ no_values
no_item_here bytes [] s n = refl
no_item_here bytes (node ∷ nodes) s n = ap (λ x. (cbor_innermost_level x).values) (first_levels bytes node nodes) ∙ own_none node.kind (drop (node_offset node) bytes) (levels_at bytes nodes) s.0 n

-- nodes behind others stand too
pub stand_behind : (bytes : List ℕ) (nodes : List Node) (count : ℕ) → NodesStand bytes nodes → NodesStand bytes (drop count nodes)
stand_behind bytes nodes zero s = s
stand_behind bytes [] (suc count) s = s
stand_behind bytes (n ∷ nodes) (suc count) s = stand_behind bytes nodes count s.1
