-- The reader of the code goes on as the steps do.
use Rattle.std.specs.Prelude.{◌≡◌, ◌≢◌, ℕ, ◌+◌, ◌<◌, ◌≤◌, true, false, List, [], ◌∷◌, ◌++◌, length, drop, get_or, Option, None, refl}
use Rattle.std.proofs.Common.{sym, ap, ◌∙◌, subst, arith, append-nil, length-append}
use Rattle.sval_label.specs.Calls.{Call}
use Rattle.sval_label.specs.Calls as calls
use Rattle.sval_cbor_read.specs.declared.node.Kind as made_kind
use Rattle.sval_cbor_read.specs.declared.node.Kind.TheVariants as kind
use Rattle.sval_cbor_read.specs.declared.node.Node.{Node}
use Rattle.sval_cbor_read.specs.declared.item.Item as made_item
use Rattle.sval_cbor_read.specs.declared.item.Item.TheVariants as item
use Rattle.sval_cbor_read.specs.declared.item.Medium as made_medium
use Rattle.sval_cbor_read.specs.declared.item.Medium.TheVariants as media
use Rattle.sval_cbor_read.specs.declared.item.Begun.{Begun}
use Rattle.sval_cbor_read.specs.declared.part.NextPart.TheVariants.{Another, End, Nothing}
use Rattle.sval_cbor_read.specs.declared.reader.Expected as made_expected
use Rattle.sval_cbor_read.specs.declared.reader.Expected.TheVariants as expected
use Rattle.sval_cbor_read.specs.declared.reader.Reader.{Reader}
use Rattle.sval_cbor_read.specs.declared.node.Place.{Place}
use Rattle.sval_cbor_read.specs.Items.{IsDefiniteString, ArePieces}
use Rattle.sval_cbor_read.specs.Reading.{OpenItem, Items, Keys, ItemState, Item, Ended, Pieces, moves, item_step, part_step, fragment_call, string_end, part_or_end, piece_step, reading_step}
use Rattle.sval_cbor_read.specs.Steps.{Spot, spot, ItemSteps, one_step, at_once, IsStuckWith, MakesSomeCall}
use Rattle.sval_cbor_read.specs.SeenStops.{ItemStops}
use Rattle.sval_cbor_read.specs.HeadFronts.{head_front, NextHead, at_its_head}
use Rattle.sval_cbor_read.specs.SeenDue.{with_item, due_behind, due_in_parts, is_begun}
use Rattle.sval_cbor_read.proofs.HeadsGo.{item_heads, part_heads, end_heads, chunk_heads, break_heads}
use Rattle.sval_cbor_read.proofs.BegunItems.{begins_nothing_stuck}
use Rattle.sval_cbor_read.proofs.Stops.{no_piece_step}
use Rattle.sval_cbor_read.specs.SeenNodes.{item_node, item_begins_before, node_own_calls, piece_calls, item_ends_behind, item_place_begins, item_place_ends, step_calls, streamed_items, NodeBegins, NodesStand}
use Rattle.sval_cbor_read.specs.SeenFrames.{frame_of, around_frame, changed, item_place_in}
use Rattle.sval_cbor_read.specs.SeenItems.{state_behind, item_begin_calls, IsBegun, IsNoTag, Begins, BeginsNothing, major_of}
use Rattle.sval_cbor_read.specs.SeenParts.{Follows}
use Rattle.sval_cbor_read.specs.SeenReader.{item_state_of, calls_before, spot_of, AddsItemNode, expected_after, opened_after, EndsItem, BeginsPart, KeepsItem, KeepsNode, chunk_kind_of, end_kind_of, ReadsItemsOn}
use Rattle.sval_cbor_read.proofs.KeptNodes.{own_some, begin_some, kept-add, with_made, begins_with, ends_with}
use Rattle.sval_cbor_read.specs.SeenStrings.{IsStringAt, HasNoString}
use Rattle.sval_cbor_read.proofs.Bignums.{bytes_at, nothing_at, no_pieces_left, no_first_piece}
use Rattle.sval_cbor_read.proofs.Strings.{piece_goes, piece_read}
use Rattle.sval_cbor_read.proofs.Sound.{pieces_need}
use Rattle.sval_cbor_read.proofs.Complete.{front_is_read}
use Rattle.sval_cbor_read.proofs.OneReading.{reads_after, stops_in_front}

-- ---- spots

-- the spot of a reader by its fields
pub spot_is : (bytes : List ℕ) (reader : Reader) (expects : made_expected.Expected) (frames : List OpenItem) (at : ℕ) (nodes : List Node) → reader.expected ≡ expects → reader.opened ≡ frames → reader.at ≡ at
    → reader.nodes.items ≡ nodes → spot_of bytes reader ≡ spot (item_state_of expects frames) (drop at bytes) (streamed_items bytes nodes ++ calls_before expects frames)
spot_is bytes reader expects frames at nodes e o a n = rw (e, o, a, n) refl

-- steps up to a reader, by its fields
pub to_spot : {first : Spot} (bytes : List ℕ) (reader : Reader) (expects : made_expected.Expected) (frames : List OpenItem) (at : ℕ) (nodes : List Node) → reader.expected ≡ expects → reader.opened ≡ frames → reader.at ≡ at
    → reader.nodes.items ≡ nodes → ItemSteps first (spot (item_state_of expects frames) (drop at bytes) (streamed_items bytes nodes ++ calls_before expects frames)) → ItemSteps first (spot_of bytes reader)
to_spot {first = first} bytes reader expects frames at nodes e o a n s = subst (ItemSteps first) (sym (spot_is bytes reader expects frames at nodes e o a n)) s

-- steps from a reader on, by its fields
pub from_spot : {last : Spot} (bytes : List ℕ) (reader : Reader) (expects : made_expected.Expected) → reader.expected ≡ expects
    → ItemSteps (spot (item_state_of expects reader.opened) (drop reader.at bytes) (streamed_items bytes reader.nodes.items ++ calls_before expects reader.opened)) last → ItemSteps (spot_of bytes reader) last
from_spot {last = last} bytes reader expects e s = subst (λ x. ItemSteps x last) (sym (spot_is bytes reader expects reader.opened reader.at reader.nodes.items e refl refl refl)) s

pub stuck_at : (bytes : List ℕ) (reader : Reader) (expects : made_expected.Expected) → reader.expected ≡ expects
    → (left : List ℕ) → IsStuckWith (spot (item_state_of expects reader.opened) (drop reader.at bytes) (streamed_items bytes reader.nodes.items ++ calls_before expects reader.opened)) left → IsStuckWith (spot_of bytes reader) left
stuck_at bytes reader expects e left s = subst (λ x. IsStuckWith x left) (sym (spot_is bytes reader expects reader.opened reader.at reader.nodes.items e refl refl refl)) s

pub makes_at : (bytes : List ℕ) (reader : Reader) (expects : made_expected.Expected) → reader.expected ≡ expects
    → MakesSomeCall (spot (item_state_of expects reader.opened) (drop reader.at bytes) (streamed_items bytes reader.nodes.items ++ calls_before expects reader.opened)) → MakesSomeCall (spot_of bytes reader)
makes_at bytes reader expects e s = subst MakesSomeCall (sym (spot_is bytes reader expects reader.opened reader.at reader.nodes.items e refl refl refl)) s

-- where calls were made
pub makes_calls : {first : Spot} (state : ItemState) (left : List ℕ) (made calls : List Call) → ItemSteps first (spot state left (made ++ calls)) → 0 < length calls → MakesSomeCall first
makes_calls state left made calls s l = record { second = spot state left (made ++ calls); steps = s; some = omega (arith, length-append made calls) }

-- ---- items

-- what is kept, where a node was added that stands in the bytes
kept_by : (bytes : List ℕ) (old new : Reader) (k : made_kind.Kind) (place : Place) (at : ℕ) → new.nodes.items ≡ old.nodes.items ++ (item_node k place at ∷ []) → NodeBegins k (drop at bytes)
    → NodesStand bytes old.nodes.items → NodesStand bytes new.nodes.items
kept_by bytes old new k place at e s all = subst (NodesStand bytes) (sym e) (kept-add bytes old.nodes.items k place at all s)

module _ (bytes : List ℕ) (old new : Reader) (at : ℕ) where
  -- the calls before an item, and those that it begins with
  abbrev made_with : made_item.Item → List Call
  made_with begun = streamed_items bytes old.nodes.items ++ item_place_begins (item_place_in old.opened) ++ item_begin_calls begun bytes (item_step (drop old.at bytes) [])

  steps_on : {first : Spot} (begun : made_item.Item) → old.expected ≡ expected.AnItem → ItemSteps first (spot (state_behind begun old.opened) (drop at bytes) (made_with begun)) → KeepsItem old begun at new
      → ItemSteps first (spot_of bytes new)
  steps_on item.Whole e s k =
      to_spot bytes new (expected_after old.opened) (opened_after old.opened) at (old.nodes.items ++ (item_node kind.Item (item_place_in old.opened) old.at ∷ [])) k.expected_is k.opened_is k.at_is k.nodes_are
      (ends_with bytes old.opened old.nodes.items kind.Item old.at (item_place_begins (item_place_in old.opened)) refl refl s)
  steps_on (item.Big from) e s k =
      to_spot bytes new (expected_after old.opened) (opened_after old.opened) at (old.nodes.items ++ (item_node kind.Big (item_place_in old.opened) from ∷ [])) k.expected_is k.opened_is k.at_is k.nodes_are
      (ends_with bytes old.opened old.nodes.items kind.Big from (item_place_begins (item_place_in old.opened)) refl refl s)
  steps_on (item.NegativeBig from) e s k =
      to_spot bytes new (expected_after old.opened) (opened_after old.opened) at (old.nodes.items ++ (item_node kind.NegativeBig (item_place_in old.opened) from ∷ [])) k.expected_is k.opened_is k.at_is k.nodes_are
      (ends_with bytes old.opened old.nodes.items kind.NegativeBig from (item_place_begins (item_place_in old.opened)) refl refl s)
  steps_on (item.Container frame) e s k =
      to_spot bytes new expected.APart (frame_of frame ∷ old.opened) at (old.nodes.items ++ (item_node kind.Begin (item_place_in old.opened) old.at ∷ [])) k.expected_is k.opened_is k.at_is k.nodes_are
      (begins_with bytes old.nodes.items kind.Begin (item_place_in old.opened) old.at (item_place_begins (item_place_in old.opened)) refl refl s)
  steps_on (item.Pieces medium) e s k =
      to_spot bytes new (expected.APiece medium) old.opened at (old.nodes.items ++ (item_node kind.Begin (item_place_in old.opened) old.at ∷ [])) k.expected_is k.opened_is k.at_is k.nodes_are
      (begins_with bytes old.nodes.items kind.Begin (item_place_in old.opened) old.at (item_place_begins (item_place_in old.opened)) refl refl s)
  steps_on item.Tag e s k =
      to_spot bytes new expected.AnItem old.opened at old.nodes.items (k.expected_is ∙ e) k.opened_is k.at_is k.nodes_are
      (with_made (append-nil (streamed_items bytes old.nodes.items ++ item_place_begins (item_place_in old.opened))) s)

  all_kept : (begun : made_item.Item) → IsBegun begun bytes (item_step (drop old.at bytes) []) → KeepsItem old begun at new → NodesStand bytes old.nodes.items → NodesStand bytes new.nodes.items
  all_kept item.Whole s k all = kept_by bytes old new kind.Item (item_place_in old.opened) old.at k.nodes_are s all
  all_kept (item.Big from) s k all = kept_by bytes old new kind.Big (item_place_in old.opened) from k.nodes_are s all
  all_kept (item.NegativeBig from) s k all = kept_by bytes old new kind.NegativeBig (item_place_in old.opened) from k.nodes_are s all
  all_kept (item.Container frame) s k all = kept_by bytes old new kind.Begin (item_place_in old.opened) old.at k.nodes_are s all
  all_kept (item.Pieces medium) s k all = kept_by bytes old new kind.Begin (item_place_in old.opened) old.at k.nodes_are s all
  all_kept item.Tag s k all = subst (NodesStand bytes) (sym k.nodes_are) all

  at_kept : (begun : made_item.Item) → KeepsItem old begun at new → at ≤ length bytes → new.at ≤ length bytes
  at_kept item.Whole k w = let a = k.at_is in omega arith
  at_kept (item.Big from) k w = let a = k.at_is in omega arith
  at_kept (item.NegativeBig from) k w = let a = k.at_is in omega arith
  at_kept (item.Container frame) k w = let a = k.at_is in omega arith
  at_kept (item.Pieces medium) k w = let a = k.at_is in omega arith
  at_kept item.Tag k w = let a = k.at_is in omega arith

-- the begin of an item
pub item_goes_on : (bytes : List ℕ) (old new : Reader) (begun : Begun) → old.expected ≡ expected.AnItem → Begins bytes old.at begun → KeepsNode old begun new → ReadsItemsOn bytes old new true
item_goes_on bytes old new begun e b k = record {
  goes = from_spot bytes old expected.AnItem e (steps_on bytes old new begun.next begun.item e (b.leads old.opened (streamed_items bytes old.nodes.items ++ item_place_begins (item_place_in old.opened))) k);
  heads = item_heads bytes old new e begun.item begun.next b.head_is k;
  within = at_kept bytes old new begun.next begun.item k b.within;
  kept = all_kept bytes old new begun.next begun.item b.is k;
}

pub item_stuck : (bytes : List ℕ) (old : Reader) (stop : ℕ) → old.expected ≡ expected.AnItem → BeginsNothing bytes old.at → ItemStops bytes old.at stop → ReadsItemsOn bytes old (record old { at = stop }) false
item_stuck bytes old stop e b s = record {
  goes =
      stuck_at bytes old expected.AnItem e (drop stop bytes)
      (record {
        no_item = begins_nothing_stuck old.opened (streamed_items bytes old.nodes.items ++ item_place_begins (item_place_in old.opened)) b;
        stops = s.stops old.opened (streamed_items bytes old.nodes.items ++ item_place_begins (item_place_in old.opened));
      });
  heads = s.fails;
  within = s.within;
  kept = λ all. all;
}

pub item_makes : (bytes : List ℕ) (old : Reader) (begun : Begun) → old.expected ≡ expected.AnItem → Begins bytes old.at begun → IsNoTag begun.item → MakesSomeCall (spot_of bytes old)
item_makes bytes old begun e b n =
    let calls = item_begin_calls begun.item bytes (item_step (drop old.at bytes) []) in
    makes_at bytes old expected.AnItem e (makes_calls (state_behind begun.item old.opened) (drop begun.next bytes) (streamed_items bytes old.nodes.items ++ item_place_begins (item_place_in old.opened)) calls
    (b.leads old.opened (streamed_items bytes old.nodes.items ++ item_place_begins (item_place_in old.opened))) (begin_some begun.item bytes (item_step (drop old.at bytes) []) b.is n))

-- ---- parts of arrays and maps

module _ (bytes : List ℕ) (old : Reader) (is : old.expected ≡ expected.APart) where
  -- the next part begins
  pub part_begins : (new : Reader) (frame next : OpenItem) (rest : List OpenItem) → old.opened ≡ frame ∷ rest
      → part_step (drop old.at bytes) (frame ∷ rest) ≡ moves (item_place_begins (item_place_in (next ∷ rest))) (drop old.at bytes) (Item (next ∷ rest))
      → with_item (due_behind (next ∷ rest)) ≡ due_in_parts (frame ∷ rest) → old.at ≤ length bytes → BeginsPart old next new → ReadsItemsOn bytes old new true
  part_begins new frame next rest o e due w k = record {
    goes =
        from_spot bytes old expected.APart is
        (to_spot bytes new expected.AnItem (next ∷ rest) old.at old.nodes.items k.expected_is (k.opened_is ∙ ap (changed next) o) k.at_is k.nodes_are
        (with_made (ap (λ x. x ++ item_place_begins (item_place_in (next ∷ rest))) (append-nil (streamed_items bytes old.nodes.items))) (one_step (ap (part_step (drop old.at bytes)) o ∙ e))));
    heads = part_heads bytes old new is frame next rest o due k;
    within = let a = k.at_is in omega arith;
    kept = λ all. subst (NodesStand bytes) (sym k.nodes_are) all;
  }

  -- the array or map ends with this node
  pub part_ends : (new : Reader) (k : made_kind.Kind) (next : ℕ) → part_step (drop old.at bytes) old.opened ≡ moves (node_own_calls k (drop old.at bytes)) (drop next bytes) (Ended (around_frame old.opened))
      → item_begins_before k (item_place_in (around_frame old.opened)) ≡ [] → item_ends_behind k (item_place_in (around_frame old.opened)) ≡ item_place_ends (item_place_in (around_frame old.opened)) → NodeBegins k (drop old.at bytes) → is_begun k ≡ false
      → ((deepest nodes : ℕ) → NextHead (head_front (due_in_parts old.opened) deepest nodes (drop old.at bytes)) (head_front (due_behind (around_frame old.opened)) deepest nodes (drop next bytes)))
      → next ≤ length bytes → EndsItem (around_frame old.opened) old (item_node k (item_place_in (around_frame old.opened)) old.at) next new → ReadsItemsOn bytes old new true
  part_ends new k next e b f s begun closes w ends = record {
    goes =
        from_spot bytes old expected.APart is
        (to_spot bytes new (expected_after (around_frame old.opened)) (opened_after (around_frame old.opened)) next (old.nodes.items ++ (item_node k (item_place_in (around_frame old.opened)) old.at ∷ [])) ends.expected_is ends.opened_is ends.at_is
        ends.nodes_are (ends_with bytes (around_frame old.opened) old.nodes.items k old.at [] b f (one_step e)));
    heads = end_heads bytes old new is (item_node k (item_place_in (around_frame old.opened)) old.at) next begun closes ends;
    within = let a = ends.at_is in omega arith;
    kept = kept_by bytes old new k (item_place_in (around_frame old.opened)) old.at ends.nodes_are s;
  }

  pub part_makes : (k : made_kind.Kind) (next : ℕ) → part_step (drop old.at bytes) old.opened ≡ moves (node_own_calls k (drop old.at bytes)) (drop next bytes) (Ended (around_frame old.opened)) → NodeBegins k (drop old.at bytes)
      → MakesSomeCall (spot_of bytes old)
  part_makes k next e s =
      makes_at bytes old expected.APart is
      (makes_calls (Ended (around_frame old.opened)) (drop next bytes) (streamed_items bytes old.nodes.items ++ []) (node_own_calls k (drop old.at bytes)) (one_step e) (own_some k (drop old.at bytes) s))

  pub part_stuck : part_step (drop old.at bytes) old.opened ≡ None → old.at ≤ length bytes → ReadsItemsOn bytes old old false
  part_stuck e w = record {
    goes =
        stuck_at bytes old expected.APart is (drop old.at bytes)
        (record {
          no_item = λ start reached tree rest is_item. stops_in_front reached e (λ f. cc f) is_item;
          stops = at_once e;
        });
    heads = at_its_head;
    within = w;
    kept = λ all. all;
  }

-- ---- what follows in an array or a map

-- where the next part is to come, arrays and maps differ in their frames and in their ends alone
pub record GoesOnBy (holds : Option ℕ → OpenItem) (head : calls.Head) : Type 0 where
  pub step : (left : Option ℕ) (bytes : List ℕ) (rest : List OpenItem)
      → part_step bytes (holds left ∷ rest) ≡ part_or_end left bytes (moves (Call.End head ∷ []) bytes (Ended rest))
      (λ more. moves (item_place_begins (item_place_in (holds more ∷ rest))) bytes (Item (holds more ∷ rest))) (λ after. moves (Call.End head ∷ []) after (Ended rest))

pub arrays_go_on : GoesOnBy Items calls.Seq
arrays_go_on = record { step = λ left bytes rest. refl }

pub maps_go_on : GoesOnBy Keys calls.Map
maps_go_on = record { step = λ left bytes rest. refl }

module _ {holds : Option ℕ → OpenItem} {head : calls.Head} (by : GoesOnBy holds head) (left : Option ℕ) (bytes : List ℕ) (at : ℕ) where
  pub frame_ends : (next : ℕ) (frames rest : List OpenItem) → frames ≡ holds left ∷ rest → Follows left bytes at (End next)
      → part_step (drop at bytes) frames ≡ moves (Call.End head ∷ []) (drop next bytes) (Ended (around_frame frames))
  frame_ends next frames rest o (f, l, k) =
      ap (part_step (drop at bytes)) o ∙ by.step left (drop at bytes) rest
      ∙ f (λ more. moves (item_place_begins (item_place_in (holds more ∷ rest))) (drop at bytes) (Item (holds more ∷ rest))) (λ after. moves (Call.End head ∷ []) after (Ended rest))
      ∙ ap (λ x. moves (Call.End head ∷ []) (drop next bytes) (Ended (around_frame x))) (sym o)

  pub frame_stuck : (frames rest : List OpenItem) → frames ≡ holds left ∷ rest → Follows left bytes at Nothing → part_step (drop at bytes) frames ≡ None
  frame_stuck frames rest o f = ap (part_step (drop at bytes)) o ∙ by.step left (drop at bytes) rest ∙ f _ _ _

  pub frame_goes_on : (more : Option ℕ) (rest : List OpenItem) → Follows left bytes at (Another more)
      → part_step (drop at bytes) (holds left ∷ rest) ≡ moves (item_place_begins (item_place_in (holds more ∷ rest))) (drop at bytes) (Item (holds more ∷ rest))
  frame_goes_on more rest f = by.step left (drop at bytes) rest ∙ f _ _ _

-- ---- strings in pieces

module _ (bytes : List ℕ) (old : Reader) (medium : made_medium.Medium) (is : old.expected ≡ expected.APiece medium) where
  -- the step of a piece
  piece_is : (content : List ℕ) (next : ℕ) → IsStringAt (major_of medium) bytes old.at content next
      → (node_own_calls (chunk_kind_of medium) (drop old.at bytes) ≡ fragment_call (major_of medium) content ∷ []) × NodeBegins (chunk_kind_of medium) (drop old.at bytes)
  piece_is content next s = by_medium medium s.stands
    where
      goes_by : (major : ℕ) → IsDefiniteString major (drop old.at bytes) content (drop next bytes) → piece_calls major (drop old.at bytes) ≡ fragment_call major content ∷ []
      goes_by major t = ap step_calls (piece_goes major (drop old.at bytes) content (drop next bytes) (λ piece left. moves (fragment_call major piece ∷ []) left (Ended [])) t)

      some_by : (major : ℕ) → IsDefiniteString major (drop old.at bytes) content (drop next bytes) → 0 < length (piece_calls major (drop old.at bytes))
      some_by major t = subst (λ x. 0 < length x) (sym (goes_by major t)) (let l : 0 < length (fragment_call major content ∷ []) = omega arith in l)

      by_medium : (m : made_medium.Medium) → IsDefiniteString (major_of m) (drop old.at bytes) content (drop next bytes)
          → (node_own_calls (chunk_kind_of m) (drop old.at bytes) ≡ fragment_call (major_of m) content ∷ []) × NodeBegins (chunk_kind_of m) (drop old.at bytes)
      by_medium media.Text t = (goes_by 3 t, some_by 3 t)
      by_medium media.Binary t = (goes_by 2 t, some_by 2 t)

  piece_step_is : (content : List ℕ) (next : ℕ) → IsStringAt (major_of medium) bytes old.at content next
      → reading_step (Pieces (major_of medium) old.opened) (drop old.at bytes) ≡ moves (node_own_calls (chunk_kind_of medium) (drop old.at bytes)) (drop next bytes) (Pieces (major_of medium) old.opened)
  piece_step_is content next s =
      piece_read (major_of medium) (drop old.at bytes) content (drop next bytes) old.opened s.stands
      ∙ ap (λ x. moves x (drop next bytes) (Pieces (major_of medium) old.opened)) (sym (piece_is content next s).0)

  -- a piece stands in no part
  no_begin : (m : made_medium.Medium) (place : Place) → item_begins_before (chunk_kind_of m) place ≡ []
  no_begin media.Text place = refl
  no_begin media.Binary place = refl

  no_end : (m : made_medium.Medium) (place : Place) → item_ends_behind (chunk_kind_of m) place ≡ []
  no_end media.Text place = refl
  no_end media.Binary place = refl

  -- a piece
  pub piece_goes_on : (new : Reader) (content : List ℕ) (next : ℕ) → IsStringAt (major_of medium) bytes old.at content next
      → AddsItemNode old (item_node (chunk_kind_of medium) (item_place_in old.opened) old.at) next (expected.APiece medium) new → ReadsItemsOn bytes old new true
  piece_goes_on new content next s k = record {
    goes =
        from_spot bytes old (expected.APiece medium) is
        (to_spot bytes new (expected.APiece medium) old.opened next (old.nodes.items ++ (item_node (chunk_kind_of medium) (item_place_in old.opened) old.at ∷ [])) k.expected_is k.opened_is k.at_is k.nodes_are
        (begins_with bytes old.nodes.items (chunk_kind_of medium) (item_place_in old.opened) old.at [] (no_begin medium (item_place_in old.opened)) (no_end medium (item_place_in old.opened)) (one_step (piece_step_is content next s))));
    heads = chunk_heads bytes old new medium is content (item_place_in old.opened) next s.stands k;
    within = let a = k.at_is in let w = s.within in omega arith;
    kept = kept_by bytes old new (chunk_kind_of medium) (item_place_in old.opened) old.at k.nodes_are (piece_is content next s).1;
  }

  pub piece_makes : (content : List ℕ) (next : ℕ) → IsStringAt (major_of medium) bytes old.at content next → MakesSomeCall (spot_of bytes old)
  piece_makes content next s =
      makes_at bytes old (expected.APiece medium) is
      (makes_calls (Pieces (major_of medium) old.opened) (drop next bytes) (streamed_items bytes old.nodes.items ++ []) (node_own_calls (chunk_kind_of medium) (drop old.at bytes)) (one_step (piece_step_is content next s))
      (own_some (chunk_kind_of medium) (drop old.at bytes) (piece_is content next s).1))

  -- the break
  break_is : old.at < length bytes → get_or bytes old.at 0 ≡ 255
      → reading_step (Pieces (major_of medium) old.opened) (drop old.at bytes) ≡ moves (node_own_calls (end_kind_of medium) (drop old.at bytes)) (drop (old.at + 1) bytes) (Ended old.opened)
  break_is l e =
      ap (λ x. piece_step (major_of medium) x old.opened) (bytes_at bytes old.at l ∙ ap (λ x. x ∷ drop (old.at + 1) bytes) e)
      ∙ ap (λ x. moves x (drop (old.at + 1) bytes) (Ended old.opened)) (end_calls medium)
    where
      end_calls : (m : made_medium.Medium) → string_end (major_of m) ∷ [] ≡ node_own_calls (end_kind_of m) (drop old.at bytes)
      end_calls media.Text = refl
      end_calls media.Binary = refl

  an_end_stands : (m : made_medium.Medium) → NodeBegins (end_kind_of m) (drop old.at bytes)
  an_end_stands media.Text = tt
  an_end_stands media.Binary = tt

  pub pieces_end_with : (new : Reader) → old.at < length bytes → get_or bytes old.at 0 ≡ 255 → EndsItem old.opened old (item_node (end_kind_of medium) (item_place_in old.opened) old.at) (old.at + 1) new → ReadsItemsOn bytes old new true
  pieces_end_with new l e k = record {
    goes =
        from_spot bytes old (expected.APiece medium) is
        (to_spot bytes new (expected_after old.opened) (opened_after old.opened) (old.at + 1) (old.nodes.items ++ (item_node (end_kind_of medium) (item_place_in old.opened) old.at ∷ [])) k.expected_is k.opened_is k.at_is k.nodes_are
        (ends_with bytes old.opened old.nodes.items (end_kind_of medium) old.at [] (starts_none medium (item_place_in old.opened)) (an_end medium (item_place_in old.opened)) (one_step (break_is l e))));
    heads = break_heads bytes old new medium is (item_place_in old.opened) (bytes_at bytes old.at l ∙ ap (λ x. x ∷ drop (old.at + 1) bytes) e) k;
    within = let a = k.at_is in omega arith;
    kept = kept_by bytes old new (end_kind_of medium) (item_place_in old.opened) old.at k.nodes_are (an_end_stands medium);
  }
    where
      starts_none : (m : made_medium.Medium) (place : Place) → item_begins_before (end_kind_of m) place ≡ []
      starts_none media.Text place = refl
      starts_none media.Binary place = refl

      an_end : (m : made_medium.Medium) (place : Place) → item_ends_behind (end_kind_of m) place ≡ item_place_ends place
      an_end media.Text place = refl
      an_end media.Binary place = refl

  pub pieces_end_makes : old.at < length bytes → get_or bytes old.at 0 ≡ 255 → MakesSomeCall (spot_of bytes old)
  pieces_end_makes l e =
      makes_at bytes old (expected.APiece medium) is
      (makes_calls (Ended old.opened) (drop (old.at + 1) bytes) (streamed_items bytes old.nodes.items ++ []) (node_own_calls (end_kind_of medium) (drop old.at bytes)) (one_step (break_is l e))
      (own_some (end_kind_of medium) (drop old.at bytes) (an_end_stands medium)))

  -- neither
  pieces_stuck : ((content rest : List ℕ) → ArePieces (major_of medium) (drop old.at bytes) content rest → ⊥) → piece_step (major_of medium) (drop old.at bytes) old.opened ≡ None → old.at ≤ length bytes → ReadsItemsOn bytes old old false
  pieces_stuck h e w = record {
    goes =
        stuck_at bytes old (expected.APiece medium) is (drop old.at bytes)
        (record {
          no_item = λ start reached tree rest is_item. let (content, behind, p) = pieces_need (reads_after reached (front_is_read rest start tree is_item).0).1 in h content behind p;
          stops = at_once e;
        });
    heads = at_its_head;
    within = w;
    kept = λ all. all;
  }

  pub no_piece : old.at < length bytes → get_or bytes old.at 0 ≢ 255 → HasNoString (major_of medium) (drop old.at bytes) → ReadsItemsOn bytes old old false
  no_piece l n h = pieces_stuck (λ content rest p. no_first_piece (bytes_at bytes old.at l) n h p) (no_piece_step (major_of medium) (drop old.at bytes) old.opened (λ left e. n (let f = sym (bytes_at bytes old.at l) ∙ e in cc f)) h) (omega arith)

  pub no_piece_left : length bytes ≤ old.at → old.at ≤ length bytes → ReadsItemsOn bytes old old false
  no_piece_left l w = pieces_stuck (λ content rest p. no_pieces_left (subst (λ x. ArePieces (major_of medium) x content rest) (nothing_at bytes old.at l) p)) (ap (λ x. piece_step (major_of medium) x old.opened) (nothing_at bytes old.at l)) w
