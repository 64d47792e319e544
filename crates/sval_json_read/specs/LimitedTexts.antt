-- What an error of reading with limits says.
use Rattle.std.specs.Prelude.{ℕ, List, ◌++◌, codes}
use Rattle.std.specs.Fmt.{decimal}
use Rattle.sval_json_read.specs.declared.document.limited.LimitedError.{LimitedError}
use Rattle.sval_json_read.specs.declared.document.limited.LimitedError.TheVariants as limited
use Rattle.sval_json_read.specs.ErrorTexts.{read_error_text}

-- the text of an error
abbrev pub limited_error_text : LimitedError → List ℕ
limited_error_text (limited.Read error) = read_error_text error
limited_error_text (limited.TooDeep at) = codes "nested too deeply at byte " ++ decimal at
limited_error_text (limited.TooMany at) = codes "too many values at byte " ++ decimal at
