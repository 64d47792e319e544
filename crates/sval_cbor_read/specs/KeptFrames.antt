-- How the frames around the innermost one are kept.
use Rattle.std.specs.Prelude.{◌≡◌, ℕ, Bool, true, false, List, [], ◌∷◌, drop, Option, Some, None}
use Rattle.sval_cbor_read.specs.declared.stack.Frame as made_frame
use Rattle.sval_cbor_read.specs.declared.outer.Kept as made_kept
use Rattle.sval_cbor_read.specs.declared.outer.Kept.TheVariants as kept
use Rattle.sval_cbor_read.specs.Reading.{OpenItem, Items, Keys, Values}
use Rattle.sval_cbor_read.specs.SeenFrames.{frame_of}

-- a count is kept beside such a frame
abbrev pub is_counted : made_kept.Kept → Bool
is_counted kept.Items = true
is_counted kept.NoItems = false
is_counted kept.ItemsToBreak = false
is_counted kept.Keys = true
is_counted kept.NoKeys = false
is_counted kept.KeysToBreak = false
is_counted kept.Values = true
is_counted kept.LastValue = false
is_counted kept.ValuesToBreak = false

-- the frame that is kept so, with this count beside it
abbrev pub kept_frame : made_kept.Kept → ℕ → OpenItem
kept_frame kept.Items count = Items (Some count)
kept_frame kept.NoItems count = Items (Some 0)
kept_frame kept.ItemsToBreak count = Items None
kept_frame kept.Keys count = Keys (Some count)
kept_frame kept.NoKeys count = Keys (Some 0)
kept_frame kept.KeysToBreak count = Keys None
kept_frame kept.Values count = Values (Some count)
kept_frame kept.LastValue count = Values (Some 0)
kept_frame kept.ValuesToBreak count = Values None

-- the first of some counts
abbrev pub first_count : List ℕ → ℕ
first_count [] = 0
first_count (count ∷ counts) = count

-- the counts behind those of a frame
abbrev pub counts_behind : Bool → List ℕ → List ℕ
counts_behind true counts = drop 1 counts
counts_behind false counts = counts

-- all frames that are kept so, with these counts beside them
abbrev pub kept_frames : List made_kept.Kept → List ℕ → List OpenItem
kept_frames [] counts = []
kept_frames (frame ∷ frames) counts = kept_frame frame (first_count counts) ∷ kept_frames frames (counts_behind (is_counted frame) counts)

-- the innermost frame is taken, if there is one
abbrev pub TakesFrame : Option made_frame.Frame → List OpenItem → List OpenItem → Type 0
TakesFrame None old new = old ≡ []
TakesFrame (Some frame) old new = old ≡ frame_of frame ∷ new
