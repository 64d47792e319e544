-- An answer that is due, or want of memory where it may come.
use Rattle.std.specs.Prelude.{◌≡◌, ◌⊎◌, ℕ, Result, Ok, Err}
use Rattle.std.proofs.Common.{sym, ◌∙◌, subst, inl, inr}
use Rattle.sval_check.specs.declared.error.CheckError.{CheckError}
use Rattle.sval_check.specs.declared.error.CheckError.TheVariants as error

abbrev pub IsDueOrWant : {A : Type 0} → (Result A CheckError → Type 0) → (Needs : Type 0) → Result A CheckError → Type 0
IsDueOrWant Due Needs result = Due result ⊎ ((result ≡ Err error.NoMemory) × Needs)

due_of : {A : Type 0} (Due : Result A CheckError → Type 0) (Needs : Type 0) (result due : Result A CheckError) → result ≡ due → (due ≡ Err error.NoMemory → ⊥) → IsDueOrWant Due Needs result → Due due
due_of Due Needs result due same other (inl is) = subst Due same is
due_of Due Needs result due same other (inr is) = absurd (other (sym same ∙ is.0))

pub bad_call : {A : Type 0} (Due : Result A CheckError → Type 0) (Needs : Type 0) (result : Result A CheckError) (at : ℕ) → result ≡ Err (error.BadCall at) → IsDueOrWant Due Needs result → Due (Err (error.BadCall at))
bad_call Due Needs result at same a = due_of Due Needs result (Err (error.BadCall at)) same (λ never. cc never) a

pub refused : {A : Type 0} (Due : Result A CheckError → Type 0) (Needs : Type 0) (result : Result A CheckError) → result ≡ Err error.Refused → IsDueOrWant Due Needs result → Due (Err error.Refused)
refused Due Needs result same a = due_of Due Needs result (Err error.Refused) same (λ never. cc never) a

pub unfinished : {A : Type 0} (Due : Result A CheckError → Type 0) (Needs : Type 0) (result : Result A CheckError) → result ≡ Err error.Unfinished → IsDueOrWant Due Needs result → Due (Err error.Unfinished)
unfinished Due Needs result same a = due_of Due Needs result (Err error.Unfinished) same (λ never. cc never) a

pub no_memory : {A : Type 0} (Due : Result A CheckError → Type 0) (Needs : Type 0) → (Due (Err error.NoMemory) → ⊥) → (result : Result A CheckError) → result ≡ Err error.NoMemory → IsDueOrWant Due Needs result → Needs
no_memory Due Needs never result same (inl is) = absurd (never (subst Due same is))
no_memory Due Needs never result same (inr is) = is.1

pub comes : {A : Type 0} (Due : Result A CheckError → Type 0) (Needs : Type 0) → ((first second : Result A CheckError) → Due first → Due second → first ≡ second) → (result due : Result A CheckError)
    → IsDueOrWant Due Needs result → Due due → (result ≡ due) ⊎ (result ≡ Err error.NoMemory)
comes Due Needs one result due (inl is) d = inl (one result due is d)
comes Due Needs one result due (inr is) d = inr is.0
