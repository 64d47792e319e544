-- Why the code has read no item.
use Rattle.std.specs.Prelude.{List, ℕ}
use Rattle.sval_cbor_read.specs.declared.document.unread.Unread.{Unread}
use Rattle.sval_cbor_read.specs.declared.document.unread.Unread.TheVariants.{At, NoMemory}
use Rattle.sval_cbor_read.specs.ReadErrors.{MakesSome, IsBadFront}

-- no item begins the bytes, and they fail there, or something is kept of them
abbrev pub IsUnread : List ℕ → Unread → Type 0
IsUnread bytes (At at) = IsBadFront bytes at
IsUnread bytes NoMemory = MakesSome bytes
