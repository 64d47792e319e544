-- What the code finds where an item begins, as steps of the reader.
use Rattle.std.specs.Prelude.{◌≡◌, ℕ, ◌<◌, ◌≤◌, List, [], ◌∷◌, ◌++◌, length, drop, Option, Some, None, ⊤}
use Rattle.sval_label.specs.Calls.{Call}
use Rattle.sval_cbor_read.specs.declared.head.Head as made_head
use Rattle.sval_cbor_read.specs.Items.{ItemHead, head, head_at_front}
use Rattle.sval_cbor_read.specs.declared.item.Medium as made_medium
use Rattle.sval_cbor_read.specs.declared.item.Medium.TheVariants as medium
use Rattle.sval_cbor_read.specs.declared.item.Item as made_item
use Rattle.sval_cbor_read.specs.declared.item.Item.TheVariants as item
use Rattle.sval_cbor_read.specs.declared.item.Begun.{Begun}
use Rattle.sval_cbor_read.specs.Reading as reading
use Rattle.sval_cbor_read.specs.Reading.{OpenItem, ItemState, Move, mark_of, first_step, item_step, body_step, number_call, reading_step}
use Rattle.sval_cbor_read.specs.SeenNodes.{byte_string, step_calls, IsBignum, AreWhole, AreBegin}
use Rattle.sval_cbor_read.specs.SeenFrames.{frame_of}
use Rattle.sval_cbor_read.specs.HeadFronts.{IsSingle, OpensLevel, BeginsChunks, BeginsTag}
use Rattle.sval_cbor_read.specs.SeenDue.{due_parts}
use Rattle.sval_cbor_read.specs.Steps.{ItemSteps, spot}
use Rattle.sval_cbor_read.specs.SeenStops.{IsNumberTag, LacksNumber}

-- the major type of what is in pieces
abbrev pub major_of : made_medium.Medium → ℕ
major_of medium.Text = 3
major_of medium.Binary = 2

-- what comes behind the begin of an item
abbrev pub state_behind : made_item.Item → List OpenItem → ItemState
state_behind item.Whole frames = reading.Ended frames
state_behind (item.Big from) frames = reading.Ended frames
state_behind (item.NegativeBig from) frames = reading.Ended frames
state_behind (item.Container frame) frames = reading.Part (frame_of frame ∷ frames)
state_behind (item.Pieces medium) frames = reading.Pieces (major_of medium) frames
state_behind item.Tag frames = reading.Item frames

-- the calls that an item begins with, by the step there, or by the byte string of a number
abbrev pub item_begin_calls : made_item.Item → List ℕ → Option Move → List Call
item_begin_calls item.Whole bytes move = step_calls move
item_begin_calls (item.Big from) bytes move = number_call 2 (byte_string (drop from bytes)) ∷ []
item_begin_calls (item.NegativeBig from) bytes move = number_call 3 (byte_string (drop from bytes)) ∷ []
item_begin_calls (item.Container frame) bytes move = step_calls move
item_begin_calls (item.Pieces medium) bytes move = step_calls move
item_begin_calls item.Tag bytes move = []

-- a call is made by the step there, or by the byte string of a number
abbrev pub IsBegun : made_item.Item → List ℕ → Option Move → Type 0
IsBegun item.Whole bytes move = AreWhole (step_calls move)
IsBegun (item.Big from) bytes move = IsBignum 2 (drop from bytes)
IsBegun (item.NegativeBig from) bytes move = IsBignum 3 (drop from bytes)
IsBegun (item.Container frame) bytes move = AreBegin (step_calls move)
IsBegun (item.Pieces medium) bytes move = AreBegin (step_calls move)
IsBegun item.Tag bytes move = ⊤

-- what an item begins with is the head there, with these bytes behind it
abbrev pub HeadIs : made_item.Item → List ℕ → List ℕ → Type 0
HeadIs item.Whole bytes left = IsSingle bytes left
HeadIs (item.Big from) bytes left = IsSingle bytes left
HeadIs (item.NegativeBig from) bytes left = IsSingle bytes left
HeadIs (item.Container frame) bytes left = OpensLevel bytes (due_parts (frame_of frame)) left
HeadIs (item.Pieces medium) bytes left = BeginsChunks bytes (major_of medium) left
HeadIs item.Tag bytes left = BeginsTag bytes left

-- something is kept of it
abbrev pub IsNoTag : made_item.Item → Type 0
IsNoTag item.Tag = ⊥
IsNoTag _ = ⊤

-- where an item is expected, this move and some further steps lead to what is behind its begin
abbrev pub LeadsBehind : Option Move → List OpenItem → made_item.Item → List Call → List ℕ → Type 0
LeadsBehind move frames item calls behind =
    (left : List ℕ) (made : List Call) → reading_step (reading.Item frames) left ≡ move → ItemSteps (spot (reading.Item frames) left made) (spot (state_behind item frames) behind (made ++ calls))

-- the item that a first byte begins by itself
pub record IsMarked (first : ℕ) (item : made_item.Item) : Type 0 where
  pub moves : (all bytes : List ℕ) (begun : Option ItemHead) (frames : List OpenItem)
      → first_step (mark_of first) bytes begun frames ≡ reading.moves (item_begin_calls item all (first_step (mark_of first) bytes begun [])) bytes (state_behind item frames)
  pub is : (all bytes : List ℕ) (begun : Option ItemHead) → IsBegun item all (first_step (mark_of first) bytes begun [])
  pub head_is : (bytes : List ℕ) → HeadIs item (first ∷ bytes) bytes

-- what is found behind a head leads on
pub record BeginsBehind (bytes : List ℕ) (h : made_head.Head) (begun : Begun) : Type 0 where
  pub leads : (frames : List OpenItem)
      → LeadsBehind (body_step h.major h.number (drop h.next bytes) frames) frames begun.item (item_begin_calls begun.item bytes (body_step h.major h.number (drop h.next bytes) [])) (drop begun.next bytes)
  pub is : IsBegun begun.item bytes (body_step h.major h.number (drop h.next bytes) [])
  pub head_is : (here : List ℕ) → head_at_front here ≡ Some (head h.major h.number (drop h.next bytes)) → HeadIs begun.item here (drop begun.next bytes)
  pub later : h.next ≤ begun.next
  pub within : begun.next ≤ length bytes

-- no item begins with this head: no step leads on, or it is the tag of a number that doesn't stand behind it
pub data BeginsNothingBehind (bytes : List ℕ) (h : made_head.Head) : Type 0 where
  no_step_behind : ((frames : List OpenItem) → body_step h.major h.number (drop h.next bytes) frames ≡ None) → BeginsNothingBehind bytes h
  no_number_behind : h.major ≡ 6 → IsNumberTag h.number → LacksNumber h.number (drop h.next bytes) → BeginsNothingBehind bytes h

-- what is found at a place leads on
pub record Begins (bytes : List ℕ) (at : ℕ) (begun : Begun) : Type 0 where
  pub leads : (frames : List OpenItem) (made : List Call)
      → ItemSteps (spot (reading.Item frames) (drop at bytes) made)
      (spot (state_behind begun.item frames) (drop begun.next bytes) (made ++ item_begin_calls begun.item bytes (item_step (drop at bytes) [])))
  pub is : IsBegun begun.item bytes (item_step (drop at bytes) [])
  pub head_is : HeadIs begun.item (drop at bytes) (drop begun.next bytes)
  pub later : at < begun.next
  pub within : begun.next ≤ length bytes

-- no item begins the bytes: no step leads on, or they begin with the tag of a number that doesn't stand behind it
pub data BeginsNoItem (bytes : List ℕ) : Type 0 where
  no_step : ((frames : List OpenItem) → item_step bytes frames ≡ None) → BeginsNoItem bytes
  no_number : {tag : ℕ} {after : List ℕ} → head_at_front bytes ≡ Some (head 6 tag after) → IsNumberTag tag → LacksNumber tag after → BeginsNoItem bytes

-- no item begins at a place
abbrev pub BeginsNothing : List ℕ → ℕ → Type 0
BeginsNothing bytes at = BeginsNoItem (drop at bytes)
