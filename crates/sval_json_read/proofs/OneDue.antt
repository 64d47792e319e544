-- Of an input at most one thing is due.
use Rattle.std.specs.Prelude.{◌≡◌, ℕ, List, [], Option, Some, None, refl, IsUtf8}
use Rattle.std.proofs.Common.{sym, ap}
use Rattle.sval_program.specs.declared.failure.Fault.{Fault}
use Rattle.sval_program.specs.declared.failure.Fault.TheVariants as fault
use Rattle.sval_program.specs.Jobs.{OneDue}
use Rattle.sval_program.specs.declared.form.ReadForm.{ReadForm}
use Rattle.sval_json_read.specs.Documents.{IsBadJson}
use Rattle.sval_json_read.specs.Serves.{IsJsonTextDue, JsonReadDue, a_text, no_utf8, no_json, json_read_terms}
use Rattle.sval_json_read.proofs.DueTexts.{one_text}
use Rattle.sval_json_read.proofs.Fails.{fails-once}

-- of bytes that denote a value only its text is due
of_value : (asked : ReadForm) (input text : List ℕ) → IsJsonTextDue text input asked → (found : Option Fault) (bytes : List ℕ) → JsonReadDue asked input found bytes → (found ≡ None) × (bytes ≡ text)
of_value asked input text due _ bytes (a_text also) = (refl, one_text input asked bytes text also due)
of_value asked input text due _ _ (no_utf8 cause) = absurd (cause due.denotes.utf8)
of_value asked input text due _ _ (no_json bad) = absurd (bad.denotes_none due.value due.denotes)

-- and of others the one fault that they have
of_no_utf8 : (asked : ReadForm) (input : List ℕ) → (IsUtf8 input → ⊥) → (found : Option Fault) (bytes : List ℕ) → JsonReadDue asked input found bytes → (found ≡ Some fault.NotUtf8) × (bytes ≡ [])
of_no_utf8 asked input cause _ bytes (a_text due) = absurd (cause due.denotes.utf8)
of_no_utf8 asked input cause _ _ (no_utf8 also) = (refl, refl)
of_no_utf8 asked input cause _ _ (no_json bad) = absurd (cause bad.utf8)

of_no_json : (asked : ReadForm) (input : List ℕ) (at : ℕ) → IsBadJson input at → (found : Option Fault) (bytes : List ℕ) → JsonReadDue asked input found bytes → (found ≡ Some (fault.BadJson at)) × (bytes ≡ [])
of_no_json asked input at bad _ bytes (a_text due) = absurd (bad.denotes_none due.value due.denotes)
of_no_json asked input at bad _ _ (no_utf8 cause) = absurd (cause bad.utf8)
of_no_json asked input at bad _ _ (no_json {at = place} also) = (ap (λ (n : ℕ). Some (fault.BadJson n)) (fails-once input place at also.fails_at bad.fails_at), refl)

pub one_due : OneDue json_read_terms
one_due asked input _ other bytes others (a_text due) also = let same = of_value asked input bytes due other others also in (sym same.0, sym same.1)
one_due asked input _ other _ others (no_utf8 cause) also = let same = of_no_utf8 asked input cause other others also in (sym same.0, sym same.1)
one_due asked input _ other _ others (no_json {at = at} bad) also = let same = of_no_json asked input at bad other others also in (sym same.0, sym same.1)
