-- Fronts of an item, head by head (RFC 8949, section 3): how many arrays and maps are open in one, and how many nodes it has.
use Rattle.std.specs.Prelude.{◌≡◌, ◌≢◌, ℕ, zero, suc, ◌+◌, ◌^◌, ◌<◌, ◌≤◌, List, [], ◌∷◌, length, drop, Some, max}
use Rattle.sval_cbor_read.specs.Items.{head, head_at_front, big_endian, IsDefiniteString, IsByteString}

-- what is due where a front ends: so many items, items up to a break, or chunks of this major type up to a break
pub data DueItems : Type 0 where
  so_many : ℕ → DueItems
  up_to_break : DueItems
  chunks : ℕ → DueItems

-- an item is due, and this behind it; what is open comes with the innermost first
pub data TakesItem : List DueItems → List DueItems → Type 0 where
  one_of : {n : ℕ} {due : List DueItems} → TakesItem (so_many (suc n) ∷ due) (so_many n ∷ due)
  another : {due : List DueItems} → TakesItem (up_to_break ∷ due) (up_to_break ∷ due)

-- the bytes begin with an item that holds no other, and these are left behind it
pub data IsSingle : List ℕ → List ℕ → Type 0 where
  unsigned : {n : ℕ} {bytes left : List ℕ} → head_at_front bytes ≡ Some (head 0 n left) → IsSingle bytes left
  negative : {n : ℕ} {bytes left : List ℕ} → head_at_front bytes ≡ Some (head 1 n left) → IsSingle bytes left
  binary : {bytes content left : List ℕ} → IsDefiniteString 2 bytes content left → IsSingle bytes left
  text : {bytes content left : List ℕ} → IsDefiniteString 3 bytes content left → IsSingle bytes left
  big : {bytes after content left : List ℕ} → head_at_front bytes ≡ Some (head 6 2 after) → IsByteString after content left
      → big_endian content < 2 ^ 128 → IsSingle bytes left
  negative_big : {bytes after content left : List ℕ} → head_at_front bytes ≡ Some (head 6 3 after) → IsByteString after content left
      → big_endian content < 2 ^ 127 → IsSingle bytes left
  falsehood : {left : List ℕ} → IsSingle (244 ∷ left) left
  truth : {left : List ℕ} → IsSingle (245 ∷ left) left
  null : {left : List ℕ} → IsSingle (246 ∷ left) left

-- the bytes begin with the head of an array or a map: what is due in it, and the bytes behind the head; a pair is two items
pub data OpensLevel : List ℕ → DueItems → List ℕ → Type 0 where
  array : {n : ℕ} {bytes left : List ℕ} → head_at_front bytes ≡ Some (head 4 n left) → OpensLevel bytes (so_many n) left
  map : {n : ℕ} {bytes left : List ℕ} → head_at_front bytes ≡ Some (head 5 n left) → OpensLevel bytes (so_many (n + n)) left
  array_up_to_break : {left : List ℕ} → OpensLevel (159 ∷ left) up_to_break left
  map_up_to_break : {left : List ℕ} → OpensLevel (191 ∷ left) up_to_break left

-- the bytes begin with the head of a string of indefinite length of this major type
pub data BeginsChunks : List ℕ → ℕ → List ℕ → Type 0 where
  byte_chunks : {left : List ℕ} → BeginsChunks (95 ∷ left) 2 left
  text_chunks : {left : List ℕ} → BeginsChunks (127 ∷ left) 3 left

-- the bytes begin with the head of a tag that is passed over
pub data BeginsTag : List ℕ → List ℕ → Type 0 where
  other_tag : {tag : ℕ} {bytes left : List ℕ} → head_at_front bytes ≡ Some (head 6 tag left) → tag ≢ 2 → tag ≢ 3 → BeginsTag bytes left

-- a front: what is due behind it, the item itself last, how many arrays and maps were open in it at once, how many nodes it has, and the bytes behind it
pub record HeadFront : Type 0 where
  pub due : List DueItems
  pub deepest : ℕ
  pub nodes : ℕ
  pub left : List ℕ

-- a front by its four parts
abbrev pub head_front : List DueItems → ℕ → ℕ → List ℕ → HeadFront
head_front due deepest nodes left = record { due = due; deepest = deepest; nodes = nodes; left = left }

-- a front goes on: each item and each chunk is a node, and an array or a map opens a level; a tag and an end are neither
pub data NextHead : HeadFront → HeadFront → Type 0 where
  single : {due behind : List DueItems} {deepest nodes : ℕ} {bytes left : List ℕ} → TakesItem due behind → IsSingle bytes left
      → NextHead (head_front due deepest nodes bytes) (head_front behind deepest (suc nodes) left)
  level : {due behind : List DueItems} {inside : DueItems} {deepest nodes : ℕ} {bytes left : List ℕ} → TakesItem due behind → OpensLevel bytes inside left
      → NextHead (head_front due deepest nodes bytes) (head_front (inside ∷ behind) (max deepest (length behind)) (suc nodes) left)
  string : {due behind : List DueItems} {major deepest nodes : ℕ} {bytes left : List ℕ} → TakesItem due behind → BeginsChunks bytes major left
      → NextHead (head_front due deepest nodes bytes) (head_front (chunks major ∷ behind) deepest (suc nodes) left)
  chunk : {due : List DueItems} {major deepest nodes : ℕ} {bytes content left : List ℕ} → IsDefiniteString major bytes content left
      → NextHead (head_front (chunks major ∷ due) deepest nodes bytes) (head_front (chunks major ∷ due) deepest (suc nodes) left)
  tag : {due behind : List DueItems} {deepest nodes : ℕ} {bytes left : List ℕ} → TakesItem due behind → BeginsTag bytes left
      → NextHead (head_front due deepest nodes bytes) (head_front due deepest nodes left)
  all_taken : {due : List DueItems} {deepest nodes : ℕ} {left : List ℕ} → 0 < length due → NextHead (head_front (so_many zero ∷ due) deepest nodes left) (head_front due deepest nodes left)
  items_break : {due : List DueItems} {deepest nodes : ℕ} {left : List ℕ} → NextHead (head_front (up_to_break ∷ due) deepest nodes (255 ∷ left)) (head_front due deepest nodes left)
  chunks_break : {due : List DueItems} {major deepest nodes : ℕ} {left : List ℕ} → NextHead (head_front (chunks major ∷ due) deepest nodes (255 ∷ left)) (head_front due deepest nodes left)

-- a front of these bytes: one item is due before the first head
pub data IsFrontOf (bytes : List ℕ) : HeadFront → Type 0 where
  no_heads : IsFrontOf bytes (head_front (so_many 1 ∷ []) 0 0 bytes)
  one_head_more : {front next : HeadFront} → IsFrontOf bytes front → NextHead front next → IsFrontOf bytes next

-- where an item fails whose first head stands at a place: there, or in the byte string under a tag for numbers
pub data FailsFrom (bytes : List ℕ) (from : ℕ) : ℕ → Type 0 where
  at_its_head : FailsFrom bytes from from
  in_big : {at : ℕ} {after : List ℕ} → head_at_front (drop from bytes) ≡ Some (head 6 2 after) → from ≤ at → FailsFrom bytes from at
  in_negative_big : {at : ℕ} {after : List ℕ} → head_at_front (drop from bytes) ≡ Some (head 6 3 after) → from ≤ at → FailsFrom bytes from at
