-- What follows the number of a call.
use Rattle.std.proofs.Common.{◌≡◌, ℕ, ◌≤◌, List, None, ap}
use Rattle.std.specs.Prelude.{option_and_then}
use Rattle.std.proofs.lemmas.Option.{slice_get_past}
use Rattle.sval_label.specs.Calls.{Call}
use Rattle.sval_tape.specs.Reading.{ReadsAtFront, tape_forms, operands_at}

-- no form follows a greater number than the 48 have
pub no_form : (number : ℕ) (bytes : List ℕ) → 48 ≤ number → operands_at number bytes ≡ None
unfolding operands_at tape_forms
no_form number bytes past = ap (option_and_then (λ (form : ReadsAtFront Call). form bytes)) (slice_get_past tape_forms number past)
