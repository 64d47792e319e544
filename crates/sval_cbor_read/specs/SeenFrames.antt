-- What the stack of the code stands for.
use Rattle.std.specs.Prelude.{◌≡◌, List, [], ◌∷◌, Option, Some, None}
use Rattle.sval_cbor_read.specs.declared.stack.Frame as made_frame
use Rattle.sval_cbor_read.specs.declared.stack.Frame.TheVariants as made
use Rattle.sval_cbor_read.specs.declared.node.Place.{Place}
use Rattle.sval_cbor_read.specs.declared.node.Place.TheVariants as place
use Rattle.sval_cbor_read.specs.Reading.{OpenItem, Items, Keys, Values}

-- a frame of the code
abbrev pub frame_of : made_frame.Frame → OpenItem
frame_of (made.Items left) = Items left
frame_of (made.Keys left) = Keys left
frame_of (made.Values left) = Values left

-- what is open, by the innermost frame and those around it
abbrev pub open_frames : Option made_frame.Frame → List OpenItem → List OpenItem
open_frames None outer = []
open_frames (Some top) outer = frame_of top ∷ outer

-- the innermost frame, if something is open
abbrev pub TopFrameIs : Option made_frame.Frame → List OpenItem → Type 0
TopFrameIs None frames = frames ≡ []
TopFrameIs (Some top) frames = (outer : List OpenItem) × (frames ≡ frame_of top ∷ outer)

-- what is open around the innermost frame
abbrev pub around_frame : List OpenItem → List OpenItem
around_frame [] = []
around_frame (top ∷ frames) = frames

-- another frame in the place of the innermost one
abbrev pub changed : OpenItem → List OpenItem → List OpenItem
changed frame [] = []
changed frame (top ∷ frames) = frame ∷ frames

-- the place of an item directly in these
abbrev pub item_place_in : List OpenItem → Place
item_place_in [] = place.Alone
item_place_in (Items _ ∷ _) = place.Item
item_place_in (Keys _ ∷ _) = place.Key
item_place_in (Values _ ∷ _) = place.Value
