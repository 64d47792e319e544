-- What replay keeps at each part: the place of the newest container that goes on, from which the places of those around it follow.
use Rattle.std.specs.Prelude.{◌≡◌, ℕ, ◌+◌, ◌≤◌, ◌<◌, ◌==◌, nat_le, Bool, true, false, if◌then◌else◌, List, [], ◌∷◌, map, Option, Some, None, Result, Ok, Err, slice_get, ⊤}
use Rattle.sval_label.specs.Calls.{Call}
use Rattle.sval_buffer.specs.Forest.{end_of}
use Rattle.sval_buffer.specs.Flat as flat
use Rattle.sval_buffer.specs.Flat.{FlatKind, FlatPart, flat_part}
use Rattle.sval_label.specs.declared.error.Error.{Error}
use Rattle.sval_core.specs.Law.{Law, Standing, Streams, Stops}
use Rattle.sval_buffer.specs.Replay.{Pending, end_calls_before}
use Rattle.sval_core.specs.Values.{makes}
use Rattle.sval_buffer.specs.SeenParts.{SeenPart, flat_part_of, holder}

-- a container that was begun and has no end yet, with its place
pub record Going : Type 0 where
  pub place : ℕ
  pub pending : Pending

-- these containers without their places
abbrev pub pendings : List Going → List Pending
pendings gs = map (λ g. g.pending) gs

-- those that go on at the part at place i
abbrev pub still : ℕ → List Going → List Going
still i [] = []
still i (newest ∷ older) = if nat_le newest.pending.stop i then still i older else newest ∷ older

-- with the container that the part at place i is, if it is one
abbrev pub opens_part : ℕ → ℕ → FlatKind → List Going → List Going
opens_part i holds (flat.One call) gs = gs
opens_part i holds (flat.Words held) gs = gs
opens_part i holds (flat.Bytes held) gs = gs
opens_part i holds (flat.Holder begin) gs = record { place = i; pending = record { stop = i + 1 + holds; end = end_of begin } } ∷ gs

-- the place of the newest of them
abbrev pub newest_place_of : List Going → Option ℕ
newest_place_of [] = None
newest_place_of (newest ∷ older) = Some newest.place

-- the place of the container that holds a part in replay: none, where that container has no end
abbrev pub outer_at : ℕ → Option FlatPart → Option ℕ
outer_at place None = None
outer_at place (Some p) = if p.holds == 0 then None else Some place

-- the same, by the place of what holds the part
abbrev pub outer_of : List FlatPart → Option ℕ → Option ℕ
outer_of whole None = None
outer_of whole (Some place) = outer_at place (slice_get whole place)

-- there is no such place, or it is below the limit
abbrev pub IsBelow : Option ℕ → ℕ → Type 0
IsBelow None limit = ⊤
IsBelow (Some place) limit = place < limit

-- the newest container that goes on is this part, at this place
pub record Link (parts : List SeenPart) (going : Option ℕ) (newest : Going) : Type 0 where
  pub part : SeenPart
  pub at : going ≡ Some newest.place
  pub found : slice_get parts newest.place ≡ Some part
  pub begin : Call
  pub kind : part.kind ≡ flat.Holder begin
  pub pending : newest.pending ≡ record { stop = newest.place + 1 + part.holds; end = end_of begin }
  pub below : IsBelow (outer_of (map flat_part_of parts) part.holder) newest.place

-- the containers that go on, by the place of the newest
abbrev pub Linked : List SeenPart → Option ℕ → List Going → Type 0
Linked parts going [] = going ≡ None
Linked parts going (newest ∷ older) = (link : Link parts going newest) × Linked parts (outer_of (map flat_part_of parts) link.part.holder) older

-- some containers go on whose newest stands there
abbrev pub IsLinked : List SeenPart → Option ℕ → Type 0
IsLinked parts going = (gs : List Going) × Linked parts going gs

-- all of them end before place i
abbrev pub AllStop : ℕ → List Going → Type 0
AllStop i [] = ⊤
AllStop i (newest ∷ older) = (newest.pending.stop ≤ i) × AllStop i older

-- each part from place i on is held by the newest container that goes on there
abbrev pub Nested : List FlatPart → ℕ → List Going → List FlatPart → List (Option ℕ) → Type 0
Nested whole i gs [] hs = AllStop i gs
Nested whole i gs (p ∷ parts) [] = ⊥
Nested whole i gs (p ∷ parts) (h ∷ hs) = (outer_of whole h ≡ newest_place_of (still i gs)) × Nested whole (i + 1) (opens_part i p.holds p.kind (still i gs)) parts hs

-- the holders of all parts are those that replay needs
abbrev pub IsNested : List SeenPart → Type 0
IsNested parts = Nested (map flat_part_of parts) 0 [] (map flat_part_of parts) (map holder parts)

-- what ends a part that is a container
abbrev pub ends_of_part : FlatKind → List Call
ends_of_part (flat.One call) = []
ends_of_part (flat.Words held) = []
ends_of_part (flat.Bytes held) = []
ends_of_part (flat.Holder begin) = end_of begin ∷ []

-- this part is a container
abbrev pub is_holder : FlatKind → Bool
is_holder (flat.One call) = false
is_holder (flat.Words held) = false
is_holder (flat.Bytes held) = false
is_holder (flat.Holder begin) = true

-- the ends that come before a place were made, and this is the newest container that goes on there
pub record MakesEnds {V : Type 0} (law : Law V) (parts : List SeenPart) (place : ℕ) (gs : List Going) (old : Standing V) (next : Option ℕ) (new : Standing V) : Type 0 where
  pub streams : Streams law old (makes (end_calls_before place (pendings gs))) new
  pub linked : Linked parts next (still place gs)

-- what a walk over the containers that go on answers: it made the ends, or the stream refused one of them
abbrev pub EndsAreMade : {V : Type 0} → Law V → List SeenPart → ℕ → List Going → Standing V → Result (Option ℕ) Error → Standing V → Type 0
EndsAreMade law parts place gs old (Ok next) new = MakesEnds law parts place gs old next new
EndsAreMade law parts place gs old (Err refusal) new = Stops law old (makes (end_calls_before place (pendings gs))) new
