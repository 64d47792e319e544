-- What the parts of a captured value speak of.
use Rattle.std.specs.Prelude.{◌≡◌, ℕ, List, [], ◌++◌, Result, is_ok, if◌then◌else◌}
use Rattle.sval_label.specs.Calls.{Call}
use Rattle.sval_buffer.specs.SeenNames.{Extends}

-- the calls with names, and the bytes of the texts and binaries that are copied
pub record SeenStores : Type 0 where
  pub calls : List Call
  pub bytes : List ℕ

-- nothing of either
abbrev pub no_stores : SeenStores
no_stores = record { calls = []; bytes = [] }

-- the stores with these bytes behind the others
abbrev pub with_bytes : SeenStores → List ℕ → SeenStores
with_bytes s more = record { calls = s.calls; bytes = s.bytes ++ more }

-- bytes were put behind the others, or nothing changed
abbrev pub Appends : {E : Type 0} → SeenStores → List ℕ → Result (Unit {0}) E → SeenStores → Type 0
Appends old more result new = new ≡ (if is_ok result then with_bytes old more else old)

-- the stores with calls and bytes behind the others, or as they were
pub record Grows (old new : SeenStores) : Type 0 where
  pub calls : Extends old.calls new.calls
  pub more : List ℕ
  pub bytes : new.bytes ≡ old.bytes ++ more
