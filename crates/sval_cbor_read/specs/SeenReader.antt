-- What the reader of the code stands for: a spot of the bytes, and a front of them.
use Rattle.std.specs.Prelude.{◌≡◌, ◌≢◌, ℕ, suc, ◌≤◌, Bool, true, false, List, [], ◌∷◌, ◌++◌, length, drop, max}
use Rattle.sval_label.specs.Calls.{Call}
use Rattle.sval_cbor_read.specs.declared.node.Node.{Node}
use Rattle.sval_cbor_read.specs.declared.node.Kind.{Kind}
use Rattle.sval_cbor_read.specs.declared.node.Kind.TheVariants as kind
use Rattle.sval_cbor_read.specs.declared.item.Medium as made_medium
use Rattle.sval_cbor_read.specs.declared.item.Medium.TheVariants as medium
use Rattle.sval_cbor_read.specs.declared.item.Item as made_item
use Rattle.sval_cbor_read.specs.declared.item.Item.TheVariants as item
use Rattle.sval_cbor_read.specs.declared.item.Begun.{Begun}
use Rattle.sval_cbor_read.specs.declared.reader.Expected as made_expected
use Rattle.sval_cbor_read.specs.declared.reader.Expected.TheVariants as expected
use Rattle.sval_cbor_read.specs.declared.reader.Reader.{Reader}
use Rattle.sval_cbor_read.specs.Reading.{OpenItem, Items, Keys, Values, ItemState, Item, Part, Ended, Pieces}
use Rattle.sval_cbor_read.specs.Steps.{Spot, spot, StepsLead}
use Rattle.sval_cbor_read.specs.SeenNodes.{item_node, item_place_begins, streamed_items, NodesStand}
use Rattle.sval_cbor_read.specs.SeenFrames.{frame_of, item_place_in, changed}
use Rattle.sval_cbor_read.specs.SeenItems.{major_of}
use Rattle.sval_cbor_read.specs.HeadFronts.{DueItems, so_many, chunks, HeadFront, head_front, NextHead, IsFrontOf, FailsFrom}
use Rattle.sval_cbor_read.specs.SeenDue.{due_behind, due_in_parts, with_item, is_begun_behind}

-- what comes next, over what is open
abbrev pub item_state_of : made_expected.Expected → List OpenItem → ItemState
item_state_of expected.AnItem frames = Item frames
item_state_of expected.APart frames = Part frames
item_state_of (expected.APiece medium) frames = Pieces (major_of medium) frames
item_state_of expected.Nothing frames = Ended []

-- the calls that were made before an item, of which no node is kept yet
abbrev pub calls_before : made_expected.Expected → List OpenItem → List Call
calls_before expected.AnItem frames = item_place_begins (item_place_in frames)
calls_before _ frames = []

-- the spot of a reader
abbrev pub spot_of : List ℕ → Reader → Spot
spot_of bytes reader =
    spot (item_state_of reader.expected reader.opened) (drop reader.at bytes) (streamed_items bytes reader.nodes.items ++ calls_before reader.expected reader.opened)

-- one node more
pub record AddsItemNode (old : Reader) (node : Node) (next : ℕ) (expects : made_expected.Expected) (new : Reader) : Type 0 where
  pub at_is : new.at ≡ next
  pub expected_is : new.expected ≡ expects
  pub opened_is : new.opened ≡ old.opened
  pub nodes_are : new.nodes.items ≡ old.nodes.items ++ (node ∷ [])

-- what comes next where an item has ended in these
abbrev pub expected_after : List OpenItem → made_expected.Expected
expected_after [] = expected.Nothing
expected_after (Items left ∷ frames) = expected.APart
expected_after (Keys left ∷ frames) = expected.AnItem
expected_after (Values left ∷ frames) = expected.APart

-- what is open then: behind a key its value is to come
abbrev pub opened_after : List OpenItem → List OpenItem
opened_after (Keys left ∷ frames) = Values left ∷ frames
opened_after (Values left ∷ frames) = Keys left ∷ frames
opened_after frames = frames

-- the last node of an item, which has ended in these
pub record EndsItem (frames : List OpenItem) (old : Reader) (node : Node) (next : ℕ) (new : Reader) : Type 0 where
  pub at_is : new.at ≡ next
  pub expected_is : new.expected ≡ expected_after frames
  pub opened_is : new.opened ≡ opened_after frames
  pub nodes_are : new.nodes.items ≡ old.nodes.items ++ (node ∷ [])

-- a tag is passed over
pub record PassesTag (old : Reader) (next : ℕ) (new : Reader) : Type 0 where
  pub at_is : new.at ≡ next
  pub expected_is : new.expected ≡ old.expected
  pub opened_is : new.opened ≡ old.opened
  pub nodes_are : new.nodes.items ≡ old.nodes.items

-- the next part begins
pub record BeginsPart (old : Reader) (frame : OpenItem) (new : Reader) : Type 0 where
  pub at_is : new.at ≡ old.at
  pub expected_is : new.expected ≡ expected.AnItem
  pub opened_is : new.opened ≡ changed frame old.opened
  pub nodes_are : new.nodes.items ≡ old.nodes.items

-- an array or a map is opened
pub record OpensItem (old : Reader) (node : Node) (frame : OpenItem) (next : ℕ) (new : Reader) : Type 0 where
  pub at_is : new.at ≡ next
  pub expected_is : new.expected ≡ expected.APart
  pub opened_is : new.opened ≡ frame ∷ old.opened
  pub nodes_are : new.nodes.items ≡ old.nodes.items ++ (node ∷ [])

-- what an item begins with is kept
abbrev pub KeepsItem : Reader → made_item.Item → ℕ → Reader → Type 0
KeepsItem old item.Whole next new = EndsItem old.opened old (item_node kind.Item (item_place_in old.opened) old.at) next new
KeepsItem old (item.Big from) next new = EndsItem old.opened old (item_node kind.Big (item_place_in old.opened) from) next new
KeepsItem old (item.NegativeBig from) next new = EndsItem old.opened old (item_node kind.NegativeBig (item_place_in old.opened) from) next new
KeepsItem old (item.Container frame) next new = OpensItem old (item_node kind.Begin (item_place_in old.opened) old.at) (frame_of frame) next new
KeepsItem old (item.Pieces medium) next new = AddsItemNode old (item_node kind.Begin (item_place_in old.opened) old.at) next (expected.APiece medium) new
KeepsItem old item.Tag next new = PassesTag old next new

-- the same, up to the place behind it
abbrev pub KeepsNode : Reader → Begun → Reader → Type 0
KeepsNode old begun new = KeepsItem old begun.item begun.next new

-- a piece, and the end, of what is in pieces
abbrev pub chunk_kind_of : made_medium.Medium → Kind
chunk_kind_of medium.Text = kind.TextPiece
chunk_kind_of medium.Binary = kind.BinaryPiece

abbrev pub end_kind_of : made_medium.Medium → Kind
end_kind_of medium.Text = kind.EndText
end_kind_of medium.Binary = kind.EndBinary

-- what is due to a reader
abbrev pub due_to : made_expected.Expected → List OpenItem → List DueItems
due_to expected.AnItem frames = with_item (due_behind frames)
due_to expected.APart frames = due_in_parts frames
due_to (expected.APiece medium) frames = chunks (major_of medium) ∷ due_behind frames
due_to expected.Nothing frames = so_many 0 ∷ []

-- the front that a reader has read, with so many levels at once and so many nodes
abbrev pub front_of : List ℕ → Reader → ℕ → ℕ → HeadFront
front_of bytes reader deepest nodes = head_front (due_to reader.expected reader.opened) deepest nodes (drop reader.at bytes)

-- the front has grown by a head at most: nothing has begun, or a node that opens no level, or one that opens a level
pub data TakesHead (bytes : List ℕ) (old new : Reader) : Type 0 where
  nothing_begun : is_begun_behind (length old.nodes.items) new.nodes.items ≡ false → length new.opened ≤ length old.opened
      → ((deepest nodes : ℕ) → IsFrontOf bytes (front_of bytes old deepest nodes) → IsFrontOf bytes (front_of bytes new deepest nodes)) → TakesHead bytes old new
  node_begun : is_begun_behind (length old.nodes.items) new.nodes.items ≡ true → length new.opened ≤ length old.opened
      → ((deepest nodes : ℕ) → NextHead (front_of bytes old deepest nodes) (front_of bytes new deepest (suc nodes))) → TakesHead bytes old new
  level_begun : is_begun_behind (length old.nodes.items) new.nodes.items ≡ true → length new.opened ≡ suc (length old.opened)
      → ((deepest nodes : ℕ) → NextHead (front_of bytes old deepest nodes) (front_of bytes new (max deepest (length new.opened)) (suc nodes))) → TakesHead bytes old new

-- the front has grown, or an item fails behind it
abbrev pub HeadsGo : List ℕ → Reader → Reader → Bool → Type 0
HeadsGo bytes old new true = TakesHead bytes old new
HeadsGo bytes old new false = FailsFrom bytes old.at new.at

-- the reader has gone on within the bytes, or it is stuck
pub record ReadsItemsOn (bytes : List ℕ) (old new : Reader) (taken : Bool) : Type 0 where
  pub goes : StepsLead (spot_of bytes old) (spot_of bytes new) taken
  pub heads : HeadsGo bytes old new taken
  pub within : new.at ≤ length bytes
  pub kept : NodesStand bytes old.nodes.items → NodesStand bytes new.nodes.items

-- nothing more is to be read, or something is
abbrev pub HasEnded : made_expected.Expected → Bool → Type 0
HasEnded expects true = expects ≡ expected.Nothing
HasEnded expects false = expects ≢ expected.Nothing
