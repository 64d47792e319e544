-- What reading with limits answers.
use Rattle.std.specs.Prelude.{◌≡◌, ℕ, ◌+◌, ◌<◌, ◌≤◌, List, length, take, IsUtf8}
use Rattle.std.specs.Str.{IsValidUpTo}
use Rattle.sval_json.specs.Fronts.{IsFront}
use Rattle.sval_io.specs.declared.limits.Limits.{Limits}
use Rattle.sval_json_read.specs.declared.document.ReadError.TheVariants.{NotUtf8, BadJson, NoMemory}
use Rattle.sval_json_read.specs.declared.document.limited.LimitedError.{LimitedError}
use Rattle.sval_json_read.specs.declared.document.limited.LimitedError.TheVariants.{Read, TooDeep, TooMany}
use Rattle.sval_json_read.specs.Documents.{IsBadJson}
use Rattle.sval_json_read.specs.ReadErrors.{KeepsSome}
use Rattle.sval_json_read.specs.Outlines.{open_levels, begun_nodes}

-- none of the first n bytes opens more levels or begins more values and names than allowed
abbrev pub IsWithinTo : List ℕ → Limits → ℕ → Type 0
IsWithinTo bytes limits n = (m : ℕ) → m ≤ n → (open_levels (take m bytes) ≤ limits.depth) × (begun_nodes (take m bytes) ≤ limits.nodes)

-- no byte passes a limit
abbrev pub IsWithin : List ℕ → Limits → Type 0
IsWithin bytes limits = IsWithinTo bytes limits (length bytes)

-- some text that denotes a value goes on with the byte at this place, which opens one level too many; no byte before it passes a limit
pub record IsTooDeep (bytes : List ℕ) (limits : Limits) (at : ℕ) : Type 0 where
  pub inside : at < length bytes
  pub front : IsFront (take (at + 1) bytes)
  pub passes : open_levels (take (at + 1) bytes) ≡ limits.depth + 1
  pub before : IsWithinTo bytes limits at

-- some text that denotes a value goes on with the byte at this place, which begins one value or name too many but opens no level too many; no byte before it passes a limit
pub record IsTooMany (bytes : List ℕ) (limits : Limits) (at : ℕ) : Type 0 where
  pub inside : at < length bytes
  pub front : IsFront (take (at + 1) bytes)
  pub passes : begun_nodes (take (at + 1) bytes) ≡ limits.nodes + 1
  pub not_deeper : open_levels (take (at + 1) bytes) ≤ limits.depth
  pub before : IsWithinTo bytes limits at

-- the cause of each error of a text, which is UTF-8: it denotes no value and fails before a limit is passed, some node is kept of it, or it passes a limit there
abbrev pub IsLimitedTextError : List ℕ → Limits → LimitedError → Type 0
IsLimitedTextError bytes limits (Read (NotUtf8 at)) = ⊥
IsLimitedTextError bytes limits (Read (BadJson at)) = IsBadJson bytes at × IsWithinTo bytes limits at
IsLimitedTextError bytes limits (Read NoMemory) = KeepsSome bytes
IsLimitedTextError bytes limits (TooDeep at) = IsTooDeep bytes limits at
IsLimitedTextError bytes limits (TooMany at) = IsTooMany bytes limits at

-- the cause of each error: the bytes are no UTF-8 and their longest front that is ends there, or they are UTF-8 and it is that of a text
abbrev pub IsLimitedJsonError : List ℕ → Limits → LimitedError → Type 0
IsLimitedJsonError bytes limits (Read (NotUtf8 at)) = (IsUtf8 bytes → ⊥) × IsValidUpTo bytes at
IsLimitedJsonError bytes limits error = IsUtf8 bytes × IsLimitedTextError bytes limits error
