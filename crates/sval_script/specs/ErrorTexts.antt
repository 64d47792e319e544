-- What an error of reading says.
use Rattle.std.specs.Prelude.{ℕ, List, ◌++◌, codes}
use Rattle.std.specs.Fmt.{decimal}
use Rattle.sval_script.specs.declared.script.ScriptError.{ScriptError}
use Rattle.sval_script.specs.declared.script.ScriptError.TheVariants as error

-- the text of an error
abbrev pub script_error_text : ScriptError → List ℕ
script_error_text (error.BadLine line) = codes "line " ++ (decimal line ++ codes ": not a call")
script_error_text error.NoMemory = codes "cannot allocate for a script"
