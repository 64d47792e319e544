-- What is joined before a sink takes it.
use Rattle.std.specs.Prelude.{◌≡◌, ℕ, Bool, true, false, List, ◌++◌}

-- the answer tells whether a piece was joined to what was, or all is as before
abbrev pub IsJoined : Bool → (old piece new : List ℕ) → Type 0
IsJoined true old piece new = new ≡ old ++ piece
IsJoined false old piece new = new ≡ old
