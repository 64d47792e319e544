-- A buffer with room is enough.
use Rattle.std.specs.Prelude.{◌≡◌, ◌≤◌, ◌<◌, true, false, length, Ok, Err, refl}
use Rattle.std.proofs.Common.{sym, ap, ◌∙◌, subst, arith}
use Rattle.sval_core.specs.Law.{Emission, Rose}
use Rattle.sval_io.specs.Filled.{Filled, room_of, filled_told}
use Rattle.sval_json.specs.declared.style.Variants.{Variants}
use Rattle.sval_json.specs.declared.error.ErrorKind.{ErrorKind}
use Rattle.sval_json.specs.declared.error.ErrorKind.TheVariants.{Generic, IO}
use Rattle.sval_json.specs.declared.error.ErrorKind.TheVariants as kind
use Rattle.sval_json.specs.ErrorKinds.{refusal_kind}
use Rattle.sval_json.specs.Number.{Refusal, InvalidKey, InvalidNumber}
use Rattle.sval_json.specs.Json.{Json, compact}
use Rattle.sval_json.specs.Laws.{IsWrittenAs}
use Rattle.sval_json.specs.Steps.{written_in}
use Rattle.sval_json.specs.Written.{StreamsJson}
use Rattle.sval_json.specs.Room.{EmitsJson, RoomIsEnough}
use Rattle.sval_json.proofs.WritingPlain.{spelling_written}

calm : Rose 0 0 → ⊥
calm rose = omega (arith, rose)

-- no error has a cause
module _ {style : Variants} {e : Emission} (old new : Filled) (found : ErrorKind) (streams : StreamsJson style e (Err found) (filled_told old) (filled_told new))
    (json : Json) (spelled : EmitsJson style e json) (fits : length (compact json) ≤ room_of old) where
  written : IsWrittenAs (Ok json) (written_in style e.calls)
  written = subst (λ shape. IsWrittenAs shape (written_in style e.calls)) spelled.shape (spelling_written style e.calls spelled.tree spelled.spells)

  never_refused : (why : Refusal) → found ≡ refusal_kind why → ⊥
  never_refused why is = let apart : Ok json ≡ Err why = sym spelled.shape ∙ streams.tree_refused why (ap Err is) spelled.tree spelled.spells in cc apart

  never_full : length (written_in style e.calls).written ≤ room_of old
  never_full = subst (λ text. length text ≤ room_of old) (sym written.0) fits

  never : (k : ErrorKind) → found ≡ k → ⊥
  never Generic is = let both : true ≡ false = sym (streams.generic (ap Err is)).refuses ∙ spelled.refuses in cc both
  never IO is = let lacks : room_of old < length (written_in style e.calls).written = streams.io_room (ap Err is) in omega (arith, lacks, never_full)
  never kind.InvalidKey is = never_refused InvalidKey is
  never kind.InvalidNumber is = never_refused InvalidNumber is
  never kind.NoMemory is = calm (streams.no_memory (ap Err is))

pub room_is_enough : RoomIsEnough
room_is_enough style e (Ok done) old new streams json spelled fits = refl
room_is_enough style e (Err found) old new streams json spelled fits = absurd (never old new found streams json spelled fits found refl)
