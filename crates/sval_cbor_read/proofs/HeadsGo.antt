-- What the reader of the code takes is a head of the front.
use Rattle.std.specs.Prelude.{◌≡◌, ℕ, zero, suc, ◌+◌, ◌<◌, ◌≤◌, Bool, true, false, ◌==◌, if◌then◌else◌, List, [], ◌∷◌, ◌++◌, length, drop, Option, Some, None, max, refl}
use Rattle.std.proofs.Common.{sym, ap, ◌∙◌, subst, arith}
use Rattle.std.proofs.lemmas.Bool.Decides.{nat_tests}
use Rattle.sval_cbor_read.specs.declared.node.Kind as made_kind
use Rattle.sval_cbor_read.specs.declared.node.Kind.TheVariants as kind
use Rattle.sval_cbor_read.specs.declared.node.Node.{Node}
use Rattle.sval_cbor_read.specs.declared.item.Item as made_item
use Rattle.sval_cbor_read.specs.declared.item.Item.TheVariants as item
use Rattle.sval_cbor_read.specs.declared.item.Medium as made_medium
use Rattle.sval_cbor_read.specs.declared.item.Medium.TheVariants as media
use Rattle.sval_cbor_read.specs.declared.reader.Expected as made_expected
use Rattle.sval_cbor_read.specs.declared.reader.Expected.TheVariants as expected
use Rattle.sval_cbor_read.specs.declared.reader.Reader.{Reader}
use Rattle.sval_cbor_read.specs.declared.node.Place.{Place}
use Rattle.sval_cbor_read.specs.Items.{IsDefiniteString}
use Rattle.sval_cbor_read.specs.HeadFronts.{so_many, chunks, TakesItem, one_of, another, HeadFront, head_front, NextHead, single, level, string, chunk, tag, all_taken, items_break, chunks_break, IsFrontOf, one_head_more}
use Rattle.sval_cbor_read.specs.Reading.{OpenItem, Items, Keys, Values, ItemState, Item, Ended, Move, moves, part_or_end}
use Rattle.sval_cbor_read.specs.SeenDue.{due_items, due_pairs, with_item, due_parts, due_behind, due_in_parts, is_begun, is_begun_behind}
use Rattle.sval_cbor_read.specs.SeenFrames.{frame_of, around_frame, changed, item_place_in}
use Rattle.sval_cbor_read.specs.SeenItems.{HeadIs, major_of}
use Rattle.sval_cbor_read.specs.SeenNodes.{item_node}
use Rattle.sval_cbor_read.specs.declared.part.NextPart.TheVariants.{Another, End}
use Rattle.sval_cbor_read.specs.SeenParts.{Follows}
use Rattle.sval_cbor_read.specs.SeenReader.{AddsItemNode, expected_after, opened_after, EndsItem, BeginsPart, KeepsItem, chunk_kind_of, end_kind_of, due_to, front_of, TakesHead, nothing_begun, node_begun, level_begun}

-- ---- what is due

pub takes_item : (frames : List OpenItem) → TakesItem (with_item (due_behind frames)) (due_behind frames)
takes_item [] = one_of
takes_item (Items None ∷ frames) = another
takes_item (Items (Some n) ∷ frames) = one_of
takes_item (Keys None ∷ frames) = another
takes_item (Keys (Some n) ∷ frames) = one_of
takes_item (Values None ∷ frames) = another
takes_item (Values (Some n) ∷ frames) = one_of

pub due_after : (frames : List OpenItem) → due_to (expected_after frames) (opened_after frames) ≡ due_behind frames
due_after [] = refl
due_after (Items left ∷ frames) = refl
due_after (Keys left ∷ frames) = refl
due_after (Values left ∷ frames) = refl

levels_after : (frames : List OpenItem) → length (opened_after frames) ≡ length frames
levels_after [] = refl
levels_after (Items left ∷ frames) = refl
levels_after (Keys left ∷ frames) = refl
levels_after (Values left ∷ frames) = refl

levels_around : (frames : List OpenItem) → length (around_frame frames) ≤ length frames
levels_around [] = omega arith
levels_around (frame ∷ frames) = omega arith

-- the lowest is the item itself
levels_due : (frames : List OpenItem) → length (due_behind frames) ≡ suc (length frames)
levels_due [] = refl
levels_due (Items left ∷ frames) = ap suc (levels_due frames)
levels_due (Keys None ∷ frames) = ap suc (levels_due frames)
levels_due (Keys (Some n) ∷ frames) = ap suc (levels_due frames)
levels_due (Values left ∷ frames) = ap suc (levels_due frames)

-- ---- the next part, or the end

-- one part more than so many, or a part up to a break
abbrev pub with_part : Option ℕ → Option ℕ
with_part None = None
with_part (Some n) = Some (suc n)

-- all parts have come, or the break has
pub data PartsEnd : Option ℕ → List ℕ → List ℕ → Type 0 where
  all_came : {here : List ℕ} → PartsEnd (Some zero) here here
  broken : {left : List ℕ} → PartsEnd None (255 ∷ left) left

-- what a move leaves, and the count of its innermost frame
abbrev left_by : Option Move → List ℕ
left_by None = []
left_by (Some move) = move.left

abbrev count_in : ItemState → Option ℕ
count_in (Item (Items left ∷ frames)) = left
count_in state = None

abbrev count_by : Option Move → Option ℕ
count_by None = None
count_by (Some move) = count_in move.next

no_moves : {made : List ℕ} {next : ItemState} → (let o : Option Move = None in o) ≡ moves [] made next → ⊥
no_moves e = cc e

ends_here : (left : Option ℕ) (here there : List ℕ)
    → ((part : Option ℕ → Option Move) (behind : List ℕ → Option Move) → part_or_end left here (behind here) part behind ≡ behind there) → PartsEnd left here there
ends_here (Some zero) here there f = subst (PartsEnd (Some zero) here) (ap left_by (f (λ more. None) (λ x. moves [] x (Ended [])))) all_came
ends_here (Some (suc n)) here there f = absurd (no_moves (f (λ more. None) (λ x. moves [] x (Ended []))))
ends_here None [] there f = absurd (no_moves (f (λ more. None) (λ x. moves [] x (Ended []))))
ends_here None (first ∷ rest) there f = go (first == 0xff) refl (f (λ more. None) (λ x. moves [] x (Ended [])))
  where
    go : (b : Bool) → (first == 0xff) ≡ b → (if b then moves [] rest (Ended []) else None) ≡ moves [] there (Ended []) → PartsEnd None (first ∷ rest) there
    go true e k =
        let is : first ≡ 0xff = grind (arith, nat_tests) in
        subst (λ x. PartsEnd None (x ∷ rest) there) (sym is) (subst (PartsEnd None (255 ∷ rest)) (ap left_by k) broken)
    go false e k = absurd (no_moves k)

pub parts_end : (left : Option ℕ) (bytes : List ℕ) (at next : ℕ) → Follows left bytes at (End next) → PartsEnd left (drop at bytes) (drop next bytes)
parts_end left bytes at next f = ends_here left (drop at bytes) (drop next bytes) f.0

goes_here : (left more : Option ℕ) (here : List ℕ)
    → ((ends : Option Move) (part : Option ℕ → Option Move) (broken : List ℕ → Option Move) → part_or_end left here ends part broken ≡ part more) → left ≡ with_part more
goes_here (Some zero) more here f = absurd (no_moves (f None (λ x. moves [] [] (Item (Items x ∷ []))) (λ x. None)))
goes_here (Some (suc n)) more here f = subst (λ x. Some (suc n) ≡ with_part x) (ap count_by (f None (λ x. moves [] [] (Item (Items x ∷ []))) (λ x. None))) refl
goes_here None more [] f = absurd (no_moves (f None (λ x. moves [] [] (Item (Items x ∷ []))) (λ x. None)))
goes_here None more (first ∷ rest) f = go (first == 0xff) (f None (λ x. moves [] [] (Item (Items x ∷ []))) (λ x. None))
  where
    go : (b : Bool) → (if b then None else moves [] [] (Item (Items None ∷ []))) ≡ moves [] [] (Item (Items more ∷ [])) → (let o : Option ℕ = None in o) ≡ with_part more
    go true k = absurd (no_moves k)
    go false k = subst (λ x. (let o : Option ℕ = None in o) ≡ with_part x) (ap count_by k) refl

pub part_goes_on : (left : Option ℕ) (bytes : List ℕ) (at : ℕ) (more : Option ℕ) → Follows left bytes at (Another more) → left ≡ with_part more
part_goes_on left bytes at more f = goes_here left more (drop at bytes) f

-- the next part of an array, and of a map, is due where it begins
pub item_is_due : (more : Option ℕ) (rest : List OpenItem) → with_item (due_behind (Items more ∷ rest)) ≡ due_in_parts (Items (with_part more) ∷ rest)
item_is_due None rest = refl
item_is_due (Some n) rest = refl

pub pair_is_due : (more : Option ℕ) (rest : List OpenItem) → with_item (due_behind (Keys more ∷ rest)) ≡ due_in_parts (Keys (with_part more) ∷ rest)
pair_is_due None rest = refl
pair_is_due (Some n) rest = let twice : suc (suc (n + n)) ≡ suc n + suc n = omega arith in ap (λ m. so_many m ∷ due_behind rest) twice

-- ---- nodes

begun_more : (nodes : List Node) (n : Node) → is_begun_behind (length nodes) (nodes ++ (n ∷ [])) ≡ is_begun n.kind
begun_more [] n = refl
begun_more (first ∷ nodes) n = begun_more nodes n

begun_none : (nodes : List Node) → is_begun_behind (length nodes) nodes ≡ false
begun_none [] = refl
begun_none (first ∷ nodes) = begun_none nodes

one_begun : (old new : Reader) (n : Node) → new.nodes.items ≡ old.nodes.items ++ (n ∷ []) → is_begun_behind (length old.nodes.items) new.nodes.items ≡ is_begun n.kind
one_begun old new n e = ap (is_begun_behind (length old.nodes.items)) e ∙ begun_more old.nodes.items n

none_begun : (old new : Reader) → new.nodes.items ≡ old.nodes.items → is_begun_behind (length old.nodes.items) new.nodes.items ≡ false
none_begun old new e = ap (is_begun_behind (length old.nodes.items)) e ∙ begun_none old.nodes.items

-- ---- fronts

-- the front of a reader by its fields
pub front_is : (bytes : List ℕ) (reader : Reader) (expects : made_expected.Expected) (frames : List OpenItem) (at deepest nodes : ℕ) → reader.expected ≡ expects → reader.opened ≡ frames → reader.at ≡ at
    → front_of bytes reader deepest nodes ≡ head_front (due_to expects frames) deepest nodes (drop at bytes)
front_is bytes reader expects frames at deepest nodes e o a = rw (e, o, a) refl

between : {front next first last : HeadFront} → front ≡ first → next ≡ last → NextHead first last → NextHead front next
between {next = next} {first = first} e f s = subst (λ x. NextHead x next) (sym e) (subst (NextHead first) (sym f) s)

module _ (bytes : List ℕ) (old new : Reader) where
  -- an item has ended, with the head that leads there
  pub ended_front : (frames : List OpenItem) (node : Node) (next deepest nodes : ℕ) → EndsItem frames old node next new → front_of bytes new deepest nodes ≡ head_front (due_behind frames) deepest nodes (drop next bytes)
  ended_front frames node next deepest nodes k =
      front_is bytes new (expected_after frames) (opened_after frames) next deepest nodes k.expected_is k.opened_is k.at_is ∙ ap (λ x. head_front x deepest nodes (drop next bytes)) (due_after frames)

  -- ---- items

  module _ (is : old.expected ≡ expected.AnItem) where
    due_front : (deepest nodes : ℕ) → front_of bytes old deepest nodes ≡ head_front (with_item (due_behind old.opened)) deepest nodes (drop old.at bytes)
    due_front deepest nodes = front_is bytes old expected.AnItem old.opened old.at deepest nodes is refl refl

    single_head : (node : Node) (next : ℕ) → is_begun node.kind ≡ true → HeadIs item.Whole (drop old.at bytes) (drop next bytes) → EndsItem old.opened old node next new → TakesHead bytes old new
    single_head node next b h k =
        node_begun (one_begun old new node k.nodes_are ∙ b) (let l = ap length k.opened_is ∙ levels_after old.opened in omega arith)
        (λ deepest nodes. between (due_front deepest nodes) (ended_front old.opened node next deepest (suc nodes) k) (single (takes_item old.opened) h))

    pub item_heads : (begun : made_item.Item) (at : ℕ) → HeadIs begun (drop old.at bytes) (drop at bytes) → KeepsItem old begun at new → TakesHead bytes old new
    item_heads item.Whole at h k = single_head (item_node kind.Item (item_place_in old.opened) old.at) at refl h k
    item_heads (item.Big from) at h k = single_head (item_node kind.Big (item_place_in old.opened) from) at refl h k
    item_heads (item.NegativeBig from) at h k = single_head (item_node kind.NegativeBig (item_place_in old.opened) from) at refl h k
    item_heads (item.Container frame) at h k =
        let levels : length (due_behind old.opened) ≡ length new.opened = levels_due old.opened ∙ sym (ap length k.opened_is) in
        level_begun (one_begun old new (item_node kind.Begin (item_place_in old.opened) old.at) k.nodes_are) (ap length k.opened_is)
        (λ deepest nodes. between (due_front deepest nodes)
        (front_is bytes new expected.APart (frame_of frame ∷ old.opened) at (max deepest (length new.opened)) (suc nodes) k.expected_is k.opened_is k.at_is
        ∙ ap (λ n. head_front (due_in_parts (frame_of frame ∷ old.opened)) (max deepest n) (suc nodes) (drop at bytes)) (sym levels))
        (level (takes_item old.opened) h))
    item_heads (item.Pieces medium) at h k =
        node_begun (one_begun old new (item_node kind.Begin (item_place_in old.opened) old.at) k.nodes_are) (let l = ap length k.opened_is in omega arith)
        (λ deepest nodes. between (due_front deepest nodes) (front_is bytes new (expected.APiece medium) old.opened at deepest (suc nodes) k.expected_is k.opened_is k.at_is) (string (takes_item old.opened) h))
    item_heads item.Tag at h k =
        nothing_begun (none_begun old new k.nodes_are) (let l = ap length k.opened_is in omega arith)
        (λ deepest nodes f. one_head_more f
        (between (due_front deepest nodes) (front_is bytes new expected.AnItem old.opened at deepest nodes (k.expected_is ∙ is) k.opened_is k.at_is) (tag (takes_item old.opened) h)))

  -- ---- parts of arrays and maps

  module _ (is : old.expected ≡ expected.APart) where
    parts_front : (deepest nodes : ℕ) → front_of bytes old deepest nodes ≡ head_front (due_in_parts old.opened) deepest nodes (drop old.at bytes)
    parts_front deepest nodes = front_is bytes old expected.APart old.opened old.at deepest nodes is refl refl

    -- the next part begins: it was due
    pub part_heads : (frame next : OpenItem) (rest : List OpenItem) → old.opened ≡ frame ∷ rest → with_item (due_behind (next ∷ rest)) ≡ due_in_parts (frame ∷ rest) → BeginsPart old next new → TakesHead bytes old new
    part_heads frame next rest o due k =
        nothing_begun (none_begun old new k.nodes_are) (let l : length new.opened ≡ suc (length rest) = ap length (k.opened_is ∙ ap (changed next) o) in let m : length old.opened ≡ suc (length rest) = ap length o in omega arith)
        (λ deepest nodes f.
        let same : front_of bytes old deepest nodes ≡ front_of bytes new deepest nodes =
        parts_front deepest nodes ∙ ap (λ x. head_front (due_in_parts x) deepest nodes (drop old.at bytes)) o ∙ ap (λ x. head_front x deepest nodes (drop old.at bytes)) (sym due)
        ∙ sym (front_is bytes new expected.AnItem (next ∷ rest) old.at deepest nodes k.expected_is (k.opened_is ∙ ap (changed next) o) k.at_is) in
        subst (IsFrontOf bytes) same f)

    -- the container ends: nothing is due in it, or its break comes
    pub end_heads : (node : Node) (next : ℕ) → is_begun node.kind ≡ false
        → ((deepest nodes : ℕ) → NextHead (head_front (due_in_parts old.opened) deepest nodes (drop old.at bytes)) (head_front (due_behind (around_frame old.opened)) deepest nodes (drop next bytes)))
        → EndsItem (around_frame old.opened) old node next new → TakesHead bytes old new
    end_heads node next b closes k =
        nothing_begun (one_begun old new node k.nodes_are ∙ b) (let l = ap length k.opened_is ∙ levels_after (around_frame old.opened) in let m = levels_around old.opened in omega arith)
        (λ deepest nodes f. one_head_more f (between (parts_front deepest nodes) (ended_front (around_frame old.opened) node next deepest nodes k) (closes deepest nodes)))

  -- ---- strings in pieces

  module _ (medium : made_medium.Medium) (is : old.expected ≡ expected.APiece medium) where
    chunks_front : (deepest nodes : ℕ) → front_of bytes old deepest nodes ≡ head_front (chunks (major_of medium) ∷ due_behind old.opened) deepest nodes (drop old.at bytes)
    chunks_front deepest nodes = front_is bytes old (expected.APiece medium) old.opened old.at deepest nodes is refl refl

    chunk_begun : (m : made_medium.Medium) → is_begun (chunk_kind_of m) ≡ true
    chunk_begun media.Text = refl
    chunk_begun media.Binary = refl

    end_begun : (m : made_medium.Medium) → is_begun (end_kind_of m) ≡ false
    end_begun media.Text = refl
    end_begun media.Binary = refl

    pub chunk_heads : (content : List ℕ) (place : Place) (next : ℕ) → IsDefiniteString (major_of medium) (drop old.at bytes) content (drop next bytes)
        → AddsItemNode old (item_node (chunk_kind_of medium) place old.at) next (expected.APiece medium) new → TakesHead bytes old new
    chunk_heads content place next s k =
        node_begun (one_begun old new (item_node (chunk_kind_of medium) place old.at) k.nodes_are ∙ chunk_begun medium) (let l = ap length k.opened_is in omega arith)
        (λ deepest nodes. between (chunks_front deepest nodes) (front_is bytes new (expected.APiece medium) old.opened next deepest (suc nodes) k.expected_is k.opened_is k.at_is) (chunk s))

    pub break_heads : (place : Place) → drop old.at bytes ≡ 255 ∷ drop (old.at + 1) bytes → EndsItem old.opened old (item_node (end_kind_of medium) place old.at) (old.at + 1) new → TakesHead bytes old new
    break_heads place here k =
        nothing_begun (one_begun old new (item_node (end_kind_of medium) place old.at) k.nodes_are ∙ end_begun medium) (let l = ap length k.opened_is ∙ levels_after old.opened in omega arith)
        (λ deepest nodes f. one_head_more f
        (between (chunks_front deepest nodes ∙ ap (head_front (chunks (major_of medium) ∷ due_behind old.opened) deepest nodes) here)
        (ended_front old.opened (item_node (end_kind_of medium) place old.at) (old.at + 1) deepest nodes k) chunks_break))

-- ---- the ends of arrays and maps

some_due : (rest : List OpenItem) → 0 < length (due_behind rest)
some_due rest = subst (λ n. 0 < n) (sym (levels_due rest)) (let some : 0 < suc (length rest) = omega arith in some)

seq_ends : {left : Option ℕ} {here there : List ℕ} (rest : List OpenItem) (deepest nodes : ℕ) → PartsEnd left here there → NextHead (head_front (due_items left ∷ due_behind rest) deepest nodes here) (head_front (due_behind rest) deepest nodes there)
seq_ends rest deepest nodes all_came = all_taken (some_due rest)
seq_ends rest deepest nodes broken = items_break

map_ends : {left : Option ℕ} {here there : List ℕ} (rest : List OpenItem) (deepest nodes : ℕ) → PartsEnd left here there → NextHead (head_front (due_pairs left ∷ due_behind rest) deepest nodes here) (head_front (due_behind rest) deepest nodes there)
map_ends rest deepest nodes all_came = all_taken (some_due rest)
map_ends rest deepest nodes broken = items_break

pub seq_closes : (bytes : List ℕ) (at next : ℕ) (left : Option ℕ) (frames rest : List OpenItem) (deepest nodes : ℕ) → frames ≡ Items left ∷ rest → PartsEnd left (drop at bytes) (drop next bytes)
    → NextHead (head_front (due_in_parts frames) deepest nodes (drop at bytes)) (head_front (due_behind (around_frame frames)) deepest nodes (drop next bytes))
seq_closes bytes at next left frames rest deepest nodes o ends =
    subst (λ x. NextHead (head_front (due_in_parts x) deepest nodes (drop at bytes)) (head_front (due_behind (around_frame x)) deepest nodes (drop next bytes))) (sym o) (seq_ends rest deepest nodes ends)

pub map_closes : (bytes : List ℕ) (at next : ℕ) (left : Option ℕ) (frames rest : List OpenItem) (deepest nodes : ℕ) → frames ≡ Keys left ∷ rest → PartsEnd left (drop at bytes) (drop next bytes)
    → NextHead (head_front (due_in_parts frames) deepest nodes (drop at bytes)) (head_front (due_behind (around_frame frames)) deepest nodes (drop next bytes))
map_closes bytes at next left frames rest deepest nodes o ends =
    subst (λ x. NextHead (head_front (due_in_parts x) deepest nodes (drop at bytes)) (head_front (due_behind (around_frame x)) deepest nodes (drop next bytes))) (sym o) (map_ends rest deepest nodes ends)
