-- What errors say.
use Rattle.std.specs.Prelude.{ℕ, List, ◌++◌, codes}
use Rattle.std.specs.Fmt.{decimal}
use Rattle.sval_check.specs.declared.error.CheckError.{CheckError}
use Rattle.sval_check.specs.declared.error.CheckError.TheVariants as error
use Rattle.sval_check.specs.declared.checked.Why.{Why}
use Rattle.sval_check.specs.declared.checked.Why.TheVariants as why
use Rattle.sval_check.specs.declared.machine.Refusal.{Refusal}
use Rattle.sval_check.specs.declared.machine.Refusal.TheVariants as refusal

-- the text of an error of a check
abbrev pub check_error_text : CheckError → List ℕ
check_error_text (error.BadCall at) = codes "no value goes on with call " ++ decimal at
check_error_text error.Refused = codes "the value refused"
check_error_text error.Unfinished = codes "the calls are unfinished"
check_error_text error.NoMemory = codes "cannot allocate for a check"

-- the text of why a call was refused
abbrev pub why_text : Why → List ℕ
why_text why.NotViable = codes "no value goes on with the call"
why_text why.NoMemory = codes "cannot allocate for a check"
why_text why.Inner = codes "the inner stream refused the call"

-- the text of why the machine doesn't go on
abbrev pub refusal_text : Refusal → List ℕ
refusal_text refusal.NotViable = codes "no value goes on with the call"
refusal_text refusal.NoMemory = codes "cannot allocate for a check"
