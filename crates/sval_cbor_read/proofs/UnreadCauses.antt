-- The cause of bytes that are not read.
use Rattle.std.specs.Prelude.{ℕ, ◌<◌, ◌≤◌, List, [], length, drop, Some, None}
use Rattle.std.proofs.Common.{ap, subst, arith}
use Rattle.std.proofs.lemmas.List.{length-drop}
use Rattle.sval_io.specs.declared.limits.Limits.{Limits}
use Rattle.sval_label.specs.Calls.{Call}
use Rattle.sval_cbor_read.specs.declared.document.CborReadError.{CborReadError}
use Rattle.sval_cbor_read.specs.declared.document.CborReadError.TheVariants.{Malformed, Unsupported, NoMemory}
use Rattle.sval_cbor_read.specs.declared.document.limited.CborLimitedError.TheVariants.{Read}
use Rattle.sval_cbor_read.specs.CborLimits.{FailsWithin, IsLimitedCborError}
use Rattle.sval_cbor_read.specs.Reading.{Ended, Reached}
use Rattle.sval_cbor_read.specs.ReadErrors.{IsReadFront, IsBadCbor, IsBadFront, IsCborReadError, IsCborFrontError}
use Rattle.sval_cbor_read.specs.SeenWellFormed.{WellFormedUpTo}
use Rattle.sval_cbor_read.specs.WellFormed.{IsWellFormed}
use Rattle.sval_cbor_read.proofs.Bignums.{nothing_at}
use Rattle.sval_cbor_read.proofs.Loop.{more_is_bad}
use Rattle.sval_cbor_read.proofs.OnePlace.{one_place}
use Rattle.sval_cbor_read.proofs.WellFormed.{one_rest, item_is_well_formed}

-- what fails in the front fails in the whole
whole_is_bad : (bytes : List ℕ) (at : ℕ) → IsBadFront bytes at → IsBadCbor bytes at
whole_is_bad bytes at b = record { no_item = λ tree item. b.no_item tree [] item; stops_at = b.stops_at }

-- behind a well-formed item bytes are left over
left_over : (bytes : List ℕ) (end : ℕ) → IsWellFormed bytes (drop end bytes) → end < length bytes → IsWellFormed bytes [] → ⊥
left_over bytes end w l v = let e = ap length (one_rest v w) in omega (arith, e, length-drop end bytes)

pub malformed_behind : (bytes : List ℕ) (at end : ℕ) → IsBadFront bytes at → WellFormedUpTo bytes (Some end) → end < length bytes → IsCborReadError bytes (Malformed at)
malformed_behind bytes at end b w l = (whole_is_bad bytes at b, left_over bytes end w.0 l)

-- bytes follow an item
pub malformed_more : (bytes : List ℕ) (calls : List Call) (at : ℕ) → IsReadFront bytes calls at → Reached bytes (Ended []) (drop at bytes) calls → at < length bytes → IsCborReadError bytes (Malformed at)
malformed_more bytes calls at f r l = (more_is_bad bytes calls at f r l, left_over bytes at (item_is_well_formed bytes (drop at bytes) f.tree f.item) l)

-- the error is that of the place where the front within limits fails
pub limited_cause : (bytes : List ℕ) (limits : Limits) (at : ℕ) (error : CborReadError) → IsBadFront bytes at → FailsWithin bytes limits at → IsCborReadError bytes error → IsLimitedCborError bytes limits (Read error)
limited_cause bytes limits at (Malformed other) b f c = (c, subst (FailsWithin bytes limits) (one_place bytes at other b.stops_at c.0.stops_at) f)
limited_cause bytes limits at (Unsupported other) b f c = (c, subst (FailsWithin bytes limits) (one_place bytes at other b.stops_at c.0.stops_at) f)
limited_cause bytes limits at NoMemory b f c = c
