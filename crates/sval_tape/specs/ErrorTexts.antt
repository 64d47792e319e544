-- What an error of reading says.
use Rattle.std.specs.Prelude.{ℕ, List, ◌++◌, codes}
use Rattle.std.specs.Fmt.{decimal}
use Rattle.sval_tape.specs.declared.tape.TapeError.{TapeError}
use Rattle.sval_tape.specs.declared.tape.TapeError.TheVariants as error

-- the text of an error
abbrev pub tape_error_text : TapeError → List ℕ
tape_error_text (error.Bad at) = codes "invalid tape at byte " ++ decimal at
