-- What the code finds where it tells well-formed bytes from others.
use Rattle.std.specs.Prelude.{◌≡◌, ℕ, ◌<◌, ◌≤◌, ◌⊎◌, List, [], ◌∷◌, length, drop, Option, Some, None}
use Rattle.sval_cbor_read.specs.declared.stack.Frame as made_frame
use Rattle.sval_cbor_read.specs.declared.well_formed.Front.{Front}
use Rattle.sval_cbor_read.specs.declared.well_formed.Front.TheVariants as front
use Rattle.sval_cbor_read.specs.declared.well_formed.InFrame.{InFrame}
use Rattle.sval_cbor_read.specs.declared.well_formed.InFrame.TheVariants as inside
use Rattle.sval_cbor_read.specs.declared.well_formed.Behind.{Behind}
use Rattle.sval_cbor_read.specs.declared.well_formed.Behind.TheVariants as behind
use Rattle.sval_cbor_read.specs.Reading.{OpenItem, Items, Keys, Values}
use Rattle.sval_cbor_read.specs.SeenFrames.{frame_of}
use Rattle.sval_cbor_read.specs.WellFormed.{IsWellFormed, HasItems, HasPairs, HoldsItems}

-- a rest is one of the first bytes exactly where it is one of the second
pub record SameRests (first second : List ℕ → Type 0) : Type 0 where
  pub there : (rest : List ℕ) → first rest → second rest
  pub back : (rest : List ℕ) → second rest → first rest

-- there is no rest
abbrev pub HasNoRest : (List ℕ → Type 0) → Type 0
HasNoRest first = (rest : List ℕ) → first rest → ⊥

-- ---- what is open

-- what is still to come in an array or a map, and the rest behind it
abbrev pub Finishes : OpenItem → List ℕ → List ℕ → Type 0
Finishes (Items left) bytes rest = HasItems left bytes rest
Finishes (Keys left) bytes rest = HasPairs left bytes rest
Finishes (Values left) bytes rest = (after : List ℕ) × IsWellFormed bytes after × HasPairs left after rest

-- an item, and then what is still to come in the array or the map around it
abbrev pub ItemFinishes : OpenItem → List ℕ → List ℕ → Type 0
ItemFinishes frame bytes rest = (after : List ℕ) × IsWellFormed bytes after × Finishes frame after rest

-- what is still to come in all that is open, the innermost first
abbrev pub Completes : List OpenItem → List ℕ → List ℕ → Type 0
Completes [] bytes rest = bytes ≡ rest
Completes (frame ∷ frames) bytes rest = (after : List ℕ) × Finishes frame bytes after × Completes frames after rest

-- an item, and then what is still to come in all that is open around it
abbrev pub ItemCompletes : List OpenItem → List ℕ → List ℕ → Type 0
ItemCompletes frames bytes rest = (after : List ℕ) × IsWellFormed bytes after × Completes frames after rest

-- ---- what the functions answer

-- a place behind another one, within the bytes
pub record IsFurther (bytes : List ℕ) (at next : ℕ) : Type 0 where
  pub later : at < next
  pub within : next ≤ length bytes

-- up to this place, or there is no rest
abbrev pub EndsAt : (List ℕ → List ℕ → Type 0) → List ℕ → ℕ → Option ℕ → Type 0
EndsAt Is bytes at (Some next) = Is (drop at bytes) (drop next bytes) × IsFurther bytes at next
EndsAt Is bytes at None = HasNoRest (Is (drop at bytes))

-- a string in chunks of this major type begins with this byte
abbrev pub BeginsChunksOf : ℕ → ℕ → Type 0
BeginsChunksOf first major = ((first ≡ 0x5f) × (major ≡ 2)) ⊎ ((first ≡ 0x7f) × (major ≡ 3))

-- what a well-formed item begins with at a place
abbrev pub IsFrontAt : List ℕ → ℕ → Front → Type 0
IsFrontAt bytes at (front.Whole next) = IsWellFormed (drop at bytes) (drop next bytes) × IsFurther bytes at next
IsFrontAt bytes at (front.Tag next) =
    SameRests (IsWellFormed (drop at bytes)) (IsWellFormed (drop next bytes)) × IsFurther bytes at next × (HoldsItems (drop next bytes) → HoldsItems (drop at bytes))
IsFrontAt bytes at (front.Opens frame next) =
    SameRests (IsWellFormed (drop at bytes)) (Finishes (frame_of frame) (drop next bytes)) × IsFurther bytes at next × HoldsItems (drop at bytes)

-- the same, or no well-formed item begins there
abbrev pub FrontIs : List ℕ → ℕ → Option Front → Type 0
FrontIs bytes at (Some found) = IsFrontAt bytes at found
FrontIs bytes at None = HasNoRest (IsWellFormed (drop at bytes))

-- what comes next in an array or a map
abbrev pub IsNextIn : made_frame.Frame → List ℕ → ℕ → InFrame → Type 0
IsNextIn frame bytes at (inside.Item behind) = SameRests (Finishes (frame_of frame) (drop at bytes)) (ItemFinishes (frame_of behind) (drop at bytes))
IsNextIn frame bytes at (inside.End next) = SameRests (Finishes (frame_of frame) (drop at bytes)) (λ rest. drop next bytes ≡ rest) × (at ≤ next) × (next ≤ length bytes)
IsNextIn frame bytes at inside.Nothing = HasNoRest (Finishes (frame_of frame) (drop at bytes))

-- what comes behind an item, where these are open, and what is open then
abbrev pub ComesBehind : List ℕ → List OpenItem → ℕ → List OpenItem → Behind → Type 0
ComesBehind bytes old at new (behind.Item next) =
    SameRests (Completes old (drop at bytes)) (ItemCompletes new (drop next bytes)) × (at ≤ next) × (next ≤ length bytes) × (old ≡ [] → ⊥)
ComesBehind bytes old at new (behind.End next) = SameRests (Completes old (drop at bytes)) (λ rest. drop next bytes ≡ rest) × (at ≤ next) × (next ≤ length bytes)
ComesBehind bytes old at new behind.Nothing = HasNoRest (Completes old (drop at bytes))

-- ---- the whole

-- up to this place the bytes are a well-formed item, or none begins them
abbrev pub WellFormedUpTo : List ℕ → Option ℕ → Type 0
WellFormedUpTo bytes (Some end) = IsWellFormed bytes (drop end bytes) × (end ≤ length bytes)
WellFormedUpTo bytes None = HasNoRest (IsWellFormed bytes)

-- an item is due here, and in these; memory is taken for what is open in them alone
pub record IsDueAt (bytes : List ℕ) (frames : List OpenItem) (at : ℕ) : Type 0 where
  pub same : SameRests (IsWellFormed bytes) (ItemCompletes frames (drop at bytes))
  pub within : at ≤ length bytes
  pub first : frames ≡ [] → HoldsItems (drop at bytes) → HoldsItems bytes
  pub holds : (frames ≡ [] → ⊥) → HoldsItems bytes

-- what a step has found: where the next item is due, where the whole one ends, or that there is none
abbrev pub GoesOn : List ℕ → ℕ → List OpenItem → Behind → Type 0
GoesOn bytes at frames (behind.Item next) = IsDueAt bytes frames next × (at < next)
GoesOn bytes at frames (behind.End end) = IsWellFormed bytes (drop end bytes) × (end ≤ length bytes)
GoesOn bytes at frames behind.Nothing = HasNoRest (IsWellFormed bytes)
