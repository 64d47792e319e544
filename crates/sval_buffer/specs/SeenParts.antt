-- What the parts of the program are.
use Rattle.std.specs.Prelude.{◌≡◌, ℕ, zero, suc, ◌<◌, ◌≤◌, Bool, true, false, List, [], ◌∷◌, ◌++◌, length, map, Option, Some, None, Result, Ok, Err, slice_range, IsUtf8, ⊤}
use Rattle.std.specs.Borrow.{Bor}
use Rattle.sval_label.specs.Calls as call
use Rattle.sval_label.specs.Calls.{Call}
use Rattle.sval_label.specs.Grouped.{int_call}
use Rattle.sval_label.specs.declared.grouped.Fragment as grouped
use Rattle.sval_label.specs.declared.grouped.Fragment.TheVariants.{Borrowed, Computed}
use Rattle.sval_label.specs.declared.grouped.Int.TheVariants as int
use Rattle.sval_buffer.specs.Pushes.{HeldBytes}
use Rattle.sval_buffer.specs.Forest.{Forest, Node, Text, Binary, no_bytes, outside, push_may_grow}
use Rattle.sval_buffer.specs.Flat as flat
use Rattle.sval_buffer.specs.Flat.{FlatKind, FlatPart, flat_part}
use Rattle.sval_buffer.specs.FlatForest.{open_places, forest_of}
use Rattle.sval_buffer.specs.Holders.{holders}
use Rattle.sval_buffer.specs.SeenHolder.{held_place}
use Rattle.sval_buffer.specs.SeenInts.{wide_int}
use Rattle.sval_buffer.specs.SeenNames.{call_at}
use Rattle.sval_buffer.specs.SeenStores.{SeenStores}
use Rattle.sval_buffer.specs.declared.holder.Holder.{Holder}
use Rattle.sval_buffer.specs.declared.part.Single.{Single}
use Rattle.sval_buffer.specs.declared.part.Single.TheVariants as single
use Rattle.sval_buffer.specs.declared.part.Begin.{Begin}
use Rattle.sval_buffer.specs.declared.part.Begin.TheVariants as begin
use Rattle.sval_buffer.specs.declared.part.Keeping.{Keeping}
use Rattle.sval_buffer.specs.declared.part.Keeping.TheVariants as keeping
use Rattle.sval_buffer.specs.declared.part.Medium.{Medium}
use Rattle.sval_buffer.specs.declared.part.Medium.TheVariants as media
use Rattle.sval_buffer.specs.declared.part.Part.{Part}
use Rattle.sval_buffer.specs.declared.part.Part.TheVariants as part
use Rattle.sval_buffer.specs.declared.error.ErrorKind.{ErrorKind}
use Rattle.sval_buffer.specs.Capture.{WantsMemory, error_of}
use Rattle.sval_buffer.specs.Owned.{owned_bytes, owned_kind}

-- ---- a part as replay sees it

-- what it is, the number of parts after it that it holds, and the place of what holds it
pub record SeenPart : Type 0 where
  pub kind : FlatKind
  pub holds : ℕ
  pub holder : Option ℕ

-- as the flat list has it
abbrev pub flat_part_of : SeenPart → FlatPart
flat_part_of p = flat_part p.kind p.holds

-- the place of what holds it
abbrev pub holder : SeenPart → Option ℕ
holder p = p.holder

-- the parts, the places of the containers without an end, and the place of what holds each part are the forest's
pub record TellsForest (parts : List SeenPart) (places : List ℕ) (f : Forest) : Type 0 where
  pub parts_are : map flat_part_of parts ≡ flat.flat f
  pub places_are : places ≡ open_places f.nodes f.spine
  pub holders_are : map holder parts ≡ holders f

-- the forest that parts tell
abbrev pub told : List SeenPart → List ℕ → Bool → Forest
told parts places within = forest_of (map flat_part_of parts) places within

-- a container that holds this many parts
abbrev pub closed_kind : FlatKind → ℕ → ℕ → ℕ
closed_kind (flat.Holder begin) parts holds = parts
closed_kind _ parts holds = holds

-- this part, where it holds so many if it is a container
abbrev pub with_length : SeenPart → ℕ → SeenPart
with_length p parts = record p { holds = closed_kind p.kind parts p.holds }

-- ---- the containers without an end

-- the place of what holds the part at a place
abbrev pub holder_at : List SeenPart → ℕ → Option ℕ
holder_at [] i = None
holder_at (p ∷ parts) zero = p.holder
holder_at (p ∷ parts) (suc i) = holder_at parts i

-- the place of this container and of those around it, at most so many, the oldest first
abbrev pub places_within : ℕ → List SeenPart → Option ℕ → List ℕ
places_within most parts None = []
places_within zero parts (Some place) = []
places_within (suc most) parts (Some place) = places_within most parts (holder_at parts place) ++ (place ∷ [])

-- the places of all of them, by that of the newest: there are no more of them than parts
abbrev pub places_around : List SeenPart → Option ℕ → List ℕ
places_around parts newest = places_within (suc (length parts)) parts newest

-- ---- the parts of the program

-- the call that this is
abbrev pub single_call : Single → Call
single_call single.Null = call.Null
single_call (single.Bool b) = call.Truth b
single_call (single.U8 n) = int_call (int.U8 n)
single_call (single.U16 n) = int_call (int.U16 n)
single_call (single.U32 n) = int_call (int.U32 n)
single_call (single.U64 n) = int_call (int.U64 n)
single_call (single.I8 n) = int_call (int.I8 n)
single_call (single.I16 n) = int_call (int.I16 n)
single_call (single.I32 n) = int_call (int.I32 n)
single_call (single.I64 n) = int_call (int.I64 n)

-- the begin that this is, with this size where it gives one
abbrev pub begin_call : Begin → ℕ → Call
begin_call begin.Seq size = call.Begin call.Seq None
begin_call begin.SizedSeq size = call.Begin call.Seq (Some size)
begin_call begin.Map size = call.Begin call.Map None
begin_call begin.SizedMap size = call.Begin call.Map (Some size)
begin_call begin.Item size = call.PartBegin call.Item
begin_call begin.Key size = call.PartBegin call.Key
begin_call begin.Value size = call.PartBegin call.Value

-- a text or a binary of these bytes
abbrev pub of_medium : Medium → HeldBytes → FlatKind
of_medium media.Text held = flat.Words held
of_medium media.Binary held = flat.Bytes held

-- bytes that are borrowed, and bytes that are copied
abbrev pub borrowed_bytes : List ℕ → HeldBytes
borrowed_bytes bytes = record { borrowed = true; bytes = bytes }

abbrev pub copied_bytes : List ℕ → HeldBytes
copied_bytes bytes = record { borrowed = false; bytes = bytes }

-- what a part is, by what it speaks of
abbrev pub flat_kind : SeenStores → Part → FlatKind
flat_kind s (part.Single holder single) = flat.One (single_call single)
flat_kind s (part.Wide signed holder number) = flat.One (int_call (wide_int signed number))
flat_kind s (part.Named holder at) = flat.One (call_at s.calls at)
flat_kind s (part.Borrowed medium holder bytes) = of_medium medium (borrowed_bytes bytes.now)
flat_kind s (part.Stored medium holder start end) = of_medium medium (copied_bytes (slice_range s.bytes start end))
flat_kind s (part.Container begin holder size holds) = flat.Holder (begin_call begin size)
flat_kind s (part.NamedContainer holder at holds) = flat.Holder (call_at s.calls at)

-- the number of parts after it that a part holds
abbrev pub holds_of : Part → ℕ
holds_of (part.Container begin holder size holds) = holds
holds_of (part.NamedContainer holder at holds) = holds
holds_of _ = 0

-- the place of what holds it
abbrev pub holder_of : Part → Option ℕ
holder_of (part.Single holder single) = held_place holder
holder_of (part.Wide signed holder number) = held_place holder
holder_of (part.Named holder at) = held_place holder
holder_of (part.Borrowed medium holder bytes) = held_place holder
holder_of (part.Stored medium holder start end) = held_place holder
holder_of (part.Container begin holder size holds) = held_place holder
holder_of (part.NamedContainer holder at holds) = held_place holder

-- a part of the program, by what it speaks of
abbrev pub seen_part : SeenStores → Part → SeenPart
seen_part s p = record { kind = flat_kind s p; holds = holds_of p; holder = holder_of p }

-- as the flat list has it
abbrev pub stored_part : SeenStores → Part → FlatPart
stored_part s p = flat_part_of (seen_part s p)

-- the same of all parts
abbrev pub seen_parts : SeenStores → List Part → List SeenPart
seen_parts s parts = map (seen_part s) parts

-- the same part, where its text or binary is owned
abbrev pub owned_part : SeenPart → SeenPart
owned_part p = record p { kind = owned_kind p.kind }

-- a text is UTF-8
abbrev pub Suits : Medium → List ℕ → Type 0
Suits media.Text bytes = IsUtf8 bytes
Suits media.Binary bytes = ⊤

-- bytes between two places of the store
pub record IsStored (bytes : List ℕ) (medium : Medium) (start end : ℕ) : Type 0 where
  pub order : start ≤ end
  pub within : end ≤ length bytes
  pub suits : Suits medium (slice_range bytes start end)

-- what it speaks of is there
abbrev pub IsKept : SeenStores → Part → Type 0
IsKept s (part.Named holder at) = at < length s.calls
IsKept s (part.NamedContainer holder at holds) = at < length s.calls
IsKept s (part.Borrowed medium holder bytes) = Suits medium bytes.now
IsKept s (part.Stored medium holder start end) = IsStored s.bytes medium start end
IsKept s _ = ⊤

-- a text or a binary of this medium and these bytes, held by what stands at this place
pub record HoldsBytes (s : SeenStores) (medium : Medium) (around : Holder) (held : HeldBytes) (p : Part) : Type 0 where
  pub kind : flat_kind s p ≡ of_medium medium held
  pub holds : holds_of p ≡ 0
  pub holder : holder_of p ≡ held_place around
  pub kept : IsKept s p

-- the same of all parts
abbrev pub AllKept : SeenStores → List Part → Type 0
AllKept s [] = ⊤
AllKept s (p ∷ parts) = IsKept s p × AllKept s parts

-- the parts tell a forest, and what they speak of is there
pub record PartsTell (s : SeenStores) (parts : List Part) (places : List ℕ) (within : Bool) : Type 0 where
  pub tells : TellsForest (seen_parts s parts) places (told (seen_parts s parts) places within)
  pub kept : AllKept s parts

-- what a text or a binary holds before its first fragment, which counts as borrowed where fragments are kept by reference
abbrev pub first_bytes : Keeping → HeldBytes
first_bytes keeping.ByReference = no_bytes
first_bytes keeping.ByCopy = owned_bytes no_bytes

-- a part without fragments, as the forest has it
abbrev pub no_fragments : Medium → Keeping → Node
no_fragments media.Text keeps = Text (first_bytes keeps)
no_fragments media.Binary keeps = Binary (first_bytes keeps)

-- a fragment with whether it is borrowed
abbrev pub fragment_bytes : grouped.Fragment (Bor (List ℕ)) (Bor (List ℕ)) → HeldBytes
fragment_bytes (Borrowed text) = record { borrowed = true; bytes = text.now }
fragment_bytes (Computed text) = record { borrowed = false; bytes = text.now }

-- a container that holds this many parts
abbrev pub with_holds : Part → ℕ → Part
with_holds (part.Container begin holder size holds) parts = part.Container begin holder size parts
with_holds (part.NamedContainer holder at holds) parts = part.NamedContainer holder at parts
with_holds other parts = other

-- ---- a fragment that is pushed

-- the part is now of this kind, and else as it was
pub record Pushed (taken : Option FlatKind) (old new : SeenPart) : Type 0 where
  pub kind : taken ≡ Some new.kind
  pub holds : new.holds ≡ old.holds
  pub holder : new.holder ≡ old.holder

-- Why a part refuses a fragment, by what it holds of the medium: that is nothing, or memory was wanting where the push
-- may take some.
abbrev pub IsPushCause : Medium → HeldBytes → Option HeldBytes → ErrorKind → Type 0
IsPushCause medium fragment (Some held) why = WantsMemory (push_may_grow fragment.borrowed (Some held)) why
IsPushCause medium fragment None why = why ≡ error_of (outside medium)

-- the fragment was pushed into the part, or the part refused it and is as it was
abbrev pub FragmentPushes : Medium → SeenPart → HeldBytes → Result (Unit {0}) ErrorKind → SeenPart → Type 0
FragmentPushes medium old fragment (Ok done) new = Pushed (flat.push_part medium fragment old.kind) old new
FragmentPushes medium old fragment (Err why) new = (new ≡ old) × IsPushCause medium fragment (flat.held_part medium old.kind) why
