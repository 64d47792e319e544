-- What taking the first of some chunks gives.
use Rattle.std.specs.Prelude.{◌≡◌, ℕ, List, [], ◌∷◌, Option, Some, None}

-- the first chunk, where there is one, and what is left
abbrev pub TakesFirstChunk : Option (List ℕ) → (old new : List (List ℕ)) → Type 0
TakesFirstChunk None old new = (old ≡ []) × (new ≡ [])
TakesFirstChunk (Some chunk) old new = old ≡ chunk ∷ new
