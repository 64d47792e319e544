-- What reading bytes answers.
use Rattle.std.specs.Prelude.{◌≡◌, ℕ, ◌<◌, ◌≤◌, ◌⊎◌, List, [], length, take, drop, None}
use Rattle.sval_label.specs.Calls.{Call}
use Rattle.sval_core.specs.Trees.{Tree}
use Rattle.sval_core.specs.Spells.{Spells}
use Rattle.sval_cbor_read.specs.declared.document.CborReadError.{CborReadError}
use Rattle.sval_cbor_read.specs.declared.document.CborReadError.TheVariants.{Malformed, Unsupported, NoMemory}
use Rattle.sval_cbor_read.specs.Items.{IsItem, IsItemOf}
use Rattle.sval_cbor_read.specs.WellFormed.{IsWellFormed, HoldsItems}
use Rattle.sval_cbor_read.specs.Document.{cbor_calls, cbor_document_calls}
use Rattle.sval_cbor_read.specs.Reading.{ItemState, reading_step, Reached}
use Rattle.sval_cbor_read.specs.Steps.{Spot, IsReached}

-- the bytes are an item, these are its calls, and they spell its tree
pub record IsReadItem (bytes : List ℕ) (calls : List Call) : Type 0 where
  pub tree : Tree
  pub item : IsItemOf bytes tree
  pub same : calls ≡ cbor_document_calls item
  pub spells : Spells calls tree

-- after some steps from the first byte on a call was made
pub record MakesSome (bytes : List ℕ) : Type 0 where
  pub spot : Spot
  pub reached : IsReached bytes spot
  pub some : 0 < length spot.made

-- so many first bytes are an item, alone and before the rest, these are its calls, and they spell its tree
pub record IsReadFront (bytes : List ℕ) (calls : List Call) (used : ℕ) : Type 0 where
  pub tree : Tree
  pub item : IsItem bytes tree (drop used bytes)
  pub alone : IsItemOf (take used bytes) tree
  pub same : calls ≡ cbor_calls item []
  pub spells : Spells calls tree
  pub within : used ≤ length bytes

-- the reader's steps over the bytes stop at this place: none leads on from there
pub record StepsStopAt (bytes : List ℕ) (at : ℕ) : Type 0 where
  pub state : ItemState
  pub calls : List Call
  pub reached : Reached bytes state (drop at bytes) calls
  pub stops : reading_step state (drop at bytes) ≡ None
  pub within : at ≤ length bytes

-- the bytes are an item of no tree, and the steps stop at this place
pub record IsBadCbor (bytes : List ℕ) (at : ℕ) : Type 0 where
  pub no_item : (tree : Tree) → IsItemOf bytes tree → ⊥
  pub stops_at : StepsStopAt bytes at

-- they begin with an item of no tree, and the steps stop at this place
pub record IsBadFront (bytes : List ℕ) (at : ℕ) : Type 0 where
  pub no_item : (tree : Tree) (rest : List ℕ) → IsItem bytes tree rest → ⊥
  pub stops_at : StepsStopAt bytes at

-- something is kept of them, or in looking for the cause they are found to hold items
abbrev pub WantsMemory : List ℕ → Type 0
WantsMemory bytes = MakesSome bytes ⊎ HoldsItems bytes

-- the cause of each error: the bytes are an item of no tree and fail there, and are no well-formed item or one; or they want memory
abbrev pub IsCborReadError : List ℕ → CborReadError → Type 0
IsCborReadError bytes (Malformed at) = IsBadCbor bytes at × (IsWellFormed bytes [] → ⊥)
IsCborReadError bytes (Unsupported at) = IsBadCbor bytes at × IsWellFormed bytes []
IsCborReadError bytes NoMemory = WantsMemory bytes

-- the same where an item is read from the front of the bytes
abbrev pub IsCborFrontError : List ℕ → CborReadError → Type 0
IsCborFrontError bytes (Malformed at) = IsBadFront bytes at × ((rest : List ℕ) → IsWellFormed bytes rest → ⊥)
IsCborFrontError bytes (Unsupported at) = IsBadFront bytes at × ((rest : List ℕ) × IsWellFormed bytes rest)
IsCborFrontError bytes NoMemory = WantsMemory bytes
