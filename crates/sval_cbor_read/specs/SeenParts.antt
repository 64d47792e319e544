-- What follows in an array or a map, as steps of the reader.
use Rattle.std.specs.Prelude.{◌≡◌, ℕ, ◌≤◌, List, length, drop, Option, None}
use Rattle.sval_cbor_read.specs.declared.part.NextPart.{NextPart}
use Rattle.sval_cbor_read.specs.declared.part.NextPart.TheVariants.{Another, End, Nothing}
use Rattle.sval_cbor_read.specs.Reading.{Move, part_or_end}

-- the container goes on, ends up to this place, or neither
abbrev pub Follows : Option ℕ → List ℕ → ℕ → NextPart → Type 0
Follows left bytes at (Another more) = (ends : Option Move) (part : Option ℕ → Option Move) (broken : List ℕ → Option Move) → part_or_end left (drop at bytes) ends part broken ≡ part more
Follows left bytes at (End next) =
    ((part : Option ℕ → Option Move) (behind : List ℕ → Option Move) → part_or_end left (drop at bytes) (behind (drop at bytes)) part behind ≡ behind (drop next bytes))
    × (at ≤ next) × (next ≤ length bytes)
Follows left bytes at Nothing = (ends : Option Move) (part : Option ℕ → Option Move) (broken : List ℕ → Option Move) → part_or_end left (drop at bytes) ends part broken ≡ None
