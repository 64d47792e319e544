-- Statuses of programs.
use Rattle.std.specs.Prelude.{ℕ, ◌==◌, Bool, List}
use Rattle.std.specs.List.{list_any}
use Rattle.sval_io.specs.declared.input_error.InputError.{InputError}
use Rattle.sval_io.specs.declared.input_error.InputError.TheVariants as input
use Rattle.sval_program.specs.declared.status.TheConstants.{READ, NO_MEMORY, TOO_LONG}

-- the status is one of these
abbrev pub is_among : ℕ → List ℕ → Bool
is_among status statuses = list_any (λ s. s == status) statuses

-- the status where an input wasn't read
abbrev pub status_of_input : InputError → ℕ
status_of_input input.ReadFault = READ
status_of_input input.TooLong = TOO_LONG
status_of_input input.NoMemory = NO_MEMORY
