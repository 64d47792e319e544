-- Where the definite strings stand that the code reads.
use Rattle.std.specs.Prelude.{◌≡◌, ℕ, ◌+◌, ◌<◌, ◌≤◌, List, length, take, drop}
use Rattle.sval_cbor_read.specs.declared.head.Head.{Head}
use Rattle.sval_cbor_read.specs.Items.{IsDefiniteString}

-- as many bytes as a head says stand behind it, up to this place
pub record IsBehind (bytes : List ℕ) (h : Head) (content : List ℕ) (next : ℕ) : Type 0 where
  pub content_is : content ≡ take h.number (drop h.next bytes)
  pub next_is : next ≡ h.next + h.number
  pub within : next ≤ length bytes

-- a definite string stands at a place, up to another
pub record IsStringAt (major : ℕ) (bytes : List ℕ) (at : ℕ) (content : List ℕ) (next : ℕ) : Type 0 where
  pub stands : IsDefiniteString major (drop at bytes) content (drop next bytes)
  pub later : at < next
  pub within : next ≤ length bytes

-- no definite string begins the bytes
abbrev pub HasNoString : ℕ → List ℕ → Type 0
HasNoString major bytes = (content rest : List ℕ) → IsDefiniteString major bytes content rest → ⊥
