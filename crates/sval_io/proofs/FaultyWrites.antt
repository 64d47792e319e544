-- What a sink that fails where it is told to takes by the sink in memory that it holds.
use Rattle.std.specs.Prelude.{◌≡◌, ℕ, ◌≤◌, ◌<◌, List, length, take, min, Result, Ok, Err, refl}
use Rattle.std.proofs.Common.{ap, ◌∙◌, sym, arith}
use Rattle.std.proofs.lemmas.List.{length-take, take-take}
use Rattle.sval_io.specs.declared.sink.SinkError.{SinkError}
use Rattle.sval_io.specs.declared.sink.SinkError.TheVariants.{Failed, NoMemory}
use Rattle.sval_io.specs.Sinks.{Told, appended, Writes}
use Rattle.sval_io.specs.Taken.{Taken, taken_told}
use Rattle.sval_io.specs.FaultPlans.{Plan}
use Rattle.sval_io.specs.Faulty.{Faulty, faulty_told}

-- what the sink in memory holds, beside a plan
abbrev beside : Taken → Plan → Told
beside taken plan = faulty_told (record { bytes = taken.bytes; plan = plan; wants = taken.wants })

-- a first part of a piece that isn't empty was written into the sink in memory, and a call that doesn't fail leaves the faults as they are
pub written_beside : (result : Result ℕ SinkError) (old new : Taken) (before after : Plan) (piece : List ℕ) (count : ℕ) → (0 < length piece → 0 < count) → after.faults ≡ before.faults
    → Writes result (taken_told old) (take count piece) (taken_told new) → Writes result (beside old before) piece (beside new after)
written_beside (Ok taken) old new before after piece count some same w =
    let size = length-take count piece in
    let front : take taken (take count piece) ≡ take taken piece = take-take taken count piece (omega (arith, size, w.within)) in
    record {
      within = omega (arith, size, w.within);
      progress = λ there. w.progress (omega (arith, size, there, some there));
      appends = record {
        fits = w.appends.fits;
        text = w.appends.text ∙ ap (appended (taken_told old).text) front;
        room = w.appends.room;
      };
      steady = record { faults = same; wants = w.steady.wants };
    }
written_beside (Err Failed) old new before after piece count some same w = absurd (omega (arith, w.declines.cause))
written_beside (Err NoMemory) old new before after piece count some same w = record {
  declines = record {
    text = w.declines.text;
    room = w.declines.room;
    cause = w.declines.cause;
    counts = record { faults = omega (arith, same); wants = w.declines.counts.wants };
  };
  full = λ failed. absurd (cc failed);
}
