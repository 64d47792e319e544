-- What streaming answers, with Generic in place of IO.
use Rattle.std.specs.Prelude.{◌≡◌, ◌⊎◌, Ok, Err, refl}
use Rattle.std.proofs.Common.{ap, inl, inr}
use Rattle.sval_core.specs.Law.{Emission}
use Rattle.sval_io.specs.Sinks.{Told}
use Rattle.sval_json.specs.declared.style.Variants.{Variants}
use Rattle.sval_json.specs.declared.error.ErrorKind.{ErrorKind}
use Rattle.sval_json.specs.declared.error.ErrorKind.TheVariants.{Generic, IO}
use Rattle.sval_json.specs.declared.error.ErrorKind.TheVariants as kind
use Rattle.sval_json.specs.Written.{EndsRefused, StreamsJson}
use Rattle.sval_json.specs.ErrorKinds.{without_io}
use Rattle.sval_json.specs.ToFmt.{IsFaulty, StreamsToFmt}

pub done_to_fmt : {style : Variants} {e : Emission} {old new : Told} → StreamsJson style e (Ok tt) old new → StreamsToFmt style e (Ok tt) old new
done_to_fmt s = record { answer = Ok tt; streams = s; is = refl; generic = λ f. cc f; io = λ f. cc f }

-- an error but IO is answered as it is
module _ {style : Variants} {e : Emission} {old new : Told} (found : ErrorKind) (s : StreamsJson style e (Err found) old new) where
  generic_cause : (k : ErrorKind) → found ≡ k → without_io k ≡ Generic → EndsRefused style e old new ⊎ IsFaulty style e old new
  generic_cause Generic is f = inl (s.generic (ap Err is))
  generic_cause IO is f = inr (record { faults = s.io (ap Err is); room = s.io_room (ap Err is) })
  generic_cause kind.InvalidKey is f = cc f
  generic_cause kind.InvalidNumber is f = cc f
  generic_cause kind.NoMemory is f = cc f

  never_io : (k : ErrorKind) → without_io k ≡ IO → ⊥
  never_io Generic f = cc f
  never_io IO f = cc f
  never_io kind.InvalidKey f = cc f
  never_io kind.InvalidNumber f = cc f
  never_io kind.NoMemory f = cc f

  pub stopped_to_fmt : StreamsToFmt style e (Err (without_io found)) old new
  stopped_to_fmt = record {
    answer = Err found;
    streams = s;
    is = refl;
    generic = λ f. let same : without_io found ≡ Generic = cc f in generic_cause found refl same;
    io = λ f. let same : without_io found ≡ IO = cc f in never_io found same;
  }
