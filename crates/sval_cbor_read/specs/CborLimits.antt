-- What reading with limits answers.
use Rattle.std.specs.Prelude.{◌≡◌, ℕ, suc, ◌≤◌, List, [], ◌∷◌, length, drop}
use Rattle.sval_io.specs.declared.limits.Limits.{Limits}
use Rattle.sval_cbor_read.specs.declared.document.CborReadError.TheVariants.{Malformed, Unsupported, NoMemory}
use Rattle.sval_cbor_read.specs.declared.document.limited.CborLimitedError.{CborLimitedError}
use Rattle.sval_cbor_read.specs.declared.document.limited.CborLimitedError.TheVariants.{Read, TooDeep, TooMany}
use Rattle.sval_cbor_read.specs.HeadFronts.{so_many, HeadFront, head_front, NextHead, IsFrontOf, FailsFrom}
use Rattle.sval_cbor_read.specs.ReadErrors.{WantsMemory, IsCborReadError}

-- a front of the bytes opens no more levels than allowed, and has no more nodes
pub record IsFrontWithin (bytes : List ℕ) (limits : Limits) (front : HeadFront) : Type 0 where
  pub is_front : IsFrontOf bytes front
  pub depth : front.deepest ≤ limits.depth
  pub nodes : front.nodes ≤ limits.nodes

-- so does the front with which the item of the bytes ends, where this is left
pub record EndsWithin (bytes : List ℕ) (limits : Limits) (left : List ℕ) : Type 0 where
  pub deepest : ℕ
  pub nodes : ℕ
  pub front : IsFrontWithin bytes limits (head_front (so_many 0 ∷ []) deepest nodes left)

-- so does a front behind which the bytes fail at this place
pub record FailsWithin (bytes : List ℕ) (limits : Limits) (at : ℕ) : Type 0 where
  pub front : HeadFront
  pub within : IsFrontWithin bytes limits front
  pub from : ℕ
  pub from_is : front.left ≡ drop from bytes
  pub fails : FailsFrom bytes from at

-- a front within the limits ends at this place, and with the head there it opens one level too many
pub record OpensTooMany (bytes : List ℕ) (limits : Limits) (at : ℕ) : Type 0 where
  pub front : HeadFront
  pub within : IsFrontWithin bytes limits front
  pub at_is : front.left ≡ drop at bytes
  pub next : HeadFront
  pub goes_on : NextHead front next
  pub passes : next.deepest ≡ suc limits.depth
  pub inside : at ≤ length bytes

-- a front within the limits ends at this place, and with the head there it has one node too many, but opens no level too many
pub record HasTooMany (bytes : List ℕ) (limits : Limits) (at : ℕ) : Type 0 where
  pub front : HeadFront
  pub within : IsFrontWithin bytes limits front
  pub at_is : front.left ≡ drop at bytes
  pub next : HeadFront
  pub goes_on : NextHead front next
  pub passes : next.nodes ≡ suc limits.nodes
  pub not_deeper : next.deepest ≤ limits.depth
  pub inside : at ≤ length bytes

-- the cause of each error of the bytes: they can't be read, and fail before a limit is passed; they want memory; or they pass a limit there
abbrev pub IsLimitedCborError : List ℕ → Limits → CborLimitedError → Type 0
IsLimitedCborError bytes limits (Read (Malformed at)) = IsCborReadError bytes (Malformed at) × FailsWithin bytes limits at
IsLimitedCborError bytes limits (Read (Unsupported at)) = IsCborReadError bytes (Unsupported at) × FailsWithin bytes limits at
IsLimitedCborError bytes limits (Read NoMemory) = WantsMemory bytes
IsLimitedCborError bytes limits (TooDeep at) = OpensTooMany bytes limits at
IsLimitedCborError bytes limits (TooMany at) = HasTooMany bytes limits at
