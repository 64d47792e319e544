-- What checking a value, and writing it to a sink that only counts, tell of its JSON.
use Rattle.std.specs.Prelude.{◌≡◌, ◌⊎◌, ℕ, true, false, Ok, Err, refl}
use Rattle.std.proofs.Common.{sym, ◌∙◌, arith, inl, inr}
use Rattle.sval_core.specs.Law.{Emission}
use Rattle.sval_io.specs.Counted.{counted_told}
use Rattle.sval_io.specs.Sinks.{Told}
use Rattle.sval_check.specs.Checks.{IsOneValue, NeedsMemory, CheckAnswer}
use Rattle.sval_check.specs.declared.error.CheckError.{CheckError}
use Rattle.sval_check.specs.declared.error.CheckError.TheVariants as check
use Rattle.sval_json.specs.declared.error.ErrorKind.{ErrorKind}
use Rattle.sval_json.specs.declared.error.ErrorKind.TheVariants as kind
use Rattle.sval_json.specs.declared.style.Variants.TheVariants.{Inside}
use Rattle.sval_json.specs.Number.{InvalidKey, InvalidNumber}
use Rattle.sval_json.specs.Written.{WritesSpelledTree, StreamsJson}
use Rattle.event_log.specs.Events.{unfit, HasJson, HasNoJson, IsRecordCause}

pub has_json : {e : Emission} {old new : Told} → IsOneValue e → WritesSpelledTree Inside e.calls old new → HasJson e
has_json one writes =
    let wrote = writes one.spells.0 one.spells.1 in
    record { willing = one.willing; tree = one.spells.0; spells = one.spells.1; json = wrote.json; shape = wrote.shape }

-- a sink that counts has no faults and no wants, and the value doesn't refuse
pub has_no_json : {e : Emission} (before after : ℕ) (found : ErrorKind) → IsOneValue e → StreamsJson Inside e (Err found) (counted_told before) (counted_told after) → HasNoJson e
has_no_json before after kind.Generic one streams = let never : true ≡ false = sym (streams.generic refl).refuses ∙ one.willing in cc never
has_no_json before after kind.IO one streams = let rose = streams.io refl in absurd (omega arith)
has_no_json before after kind.NoMemory one streams = let rose = streams.no_memory refl in absurd (omega arith)
has_no_json before after kind.InvalidKey one streams = record {
  willing = one.willing;
  tree = one.spells.0;
  spells = one.spells.1;
  why = InvalidKey;
  shape = streams.tree_refused InvalidKey refl one.spells.0 one.spells.1;
}
has_no_json before after kind.InvalidNumber one streams = record {
  willing = one.willing;
  tree = one.spells.0;
  spells = one.spells.1;
  why = InvalidNumber;
  shape = streams.tree_refused InvalidNumber refl one.spells.0 one.spells.1;
}

-- why a value that didn't pass the check is no event
pub check_cause : (e : Emission) (found : CheckError) → (IsOneValue e → (◌≡◌ {A = CheckAnswer} (Err found) (Ok tt)) ⊎ (◌≡◌ {A = CheckAnswer} (Err found) (Err check.NoMemory)))
    → (◌≡◌ {A = CheckAnswer} (Err found) (Err check.NoMemory) → NeedsMemory e.calls) → IsRecordCause (unfit found) e
check_cause e check.NoMemory comes needs = inl (needs refl)
check_cause e (check.BadCall at) comes needs = λ one. elim (comes one) [ inl is ↦ cc | inr is ↦ cc ]
check_cause e check.Refused comes needs = λ one. elim (comes one) [ inl is ↦ cc | inr is ↦ cc ]
check_cause e check.Unfinished comes needs = λ one. elim (comes one) [ inl is ↦ cc | inr is ↦ cc ]
