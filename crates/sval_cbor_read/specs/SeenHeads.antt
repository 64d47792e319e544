-- What the heads of the code stand for.
use Rattle.std.specs.Prelude.{◌≡◌, ℕ, ◌≤◌, List, length, drop, Option, Some}
use Rattle.sval_cbor_read.specs.declared.head.Head.{Head}
use Rattle.sval_cbor_read.specs.Items as items

-- a head at a place of the bytes: the one that is begun there, with the bytes behind it
abbrev pub IsHead : List ℕ → ℕ → Head → Option items.ItemHead → Type 0
IsHead bytes at h begun = (begun ≡ Some (items.head h.major h.number (drop h.next bytes))) × (at ≤ h.next) × (h.next ≤ length bytes)
