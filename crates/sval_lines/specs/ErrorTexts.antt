-- What errors read as.
use Rattle.std.specs.Prelude.{ℕ, List, codes}
use Rattle.sval_lines.specs.declared.error.LineError.{LineError}
use Rattle.sval_lines.specs.declared.error.LineError.TheVariants.{ReadFault, TooManyLines, NoMemory}

abbrev pub line_error_text : LineError → List ℕ
line_error_text ReadFault = codes "read fault"
line_error_text TooManyLines = codes "too many lines"
line_error_text NoMemory = codes "out of memory"
