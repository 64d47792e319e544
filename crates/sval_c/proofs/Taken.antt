-- What a sink in memory that was empty holds.
use Rattle.std.specs.Prelude.{◌≡◌, ℕ, ◌++◌, List, [], Some}
use Rattle.std.proofs.Common.{ap, ◌∙◌, arith}
use Rattle.sval_core.specs.Law.{Rose}
use Rattle.sval_io.specs.Sinks.{Appends}
use Rattle.sval_io.specs.Taken.{Taken, taken_told}

pub no_rise : Rose 0 0 → ⊥
no_rise rose = omega (arith, rose)

-- the bytes that were appended
pub taken_whole : (old new : Taken) (bytes : List ℕ) → old.bytes ≡ [] → Appends (taken_told old) bytes (taken_told new) → new.bytes ≡ bytes
taken_whole old new bytes empty appends =
    let taken : Some new.bytes ≡ Some (old.bytes ++ bytes) = appends.text in
    let same : new.bytes ≡ old.bytes ++ bytes = cc taken in
    same ∙ ap (λ front. front ++ bytes) empty
