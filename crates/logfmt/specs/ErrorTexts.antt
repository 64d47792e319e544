-- What an error says.
use Rattle.std.specs.Prelude.{ℕ, List, codes}
use Rattle.logfmt.specs.declared.LogfmtError.{LogfmtError}
use Rattle.logfmt.specs.declared.LogfmtError.TheVariants as error

-- the text of an error
abbrev pub logfmt_error_text : LogfmtError → List ℕ
logfmt_error_text error.NotFlat = codes "the value is not a record of leaves"
logfmt_error_text error.InvalidKey = codes "a key cannot stand in a line"
logfmt_error_text error.Refused = codes "the value refused"
logfmt_error_text error.Unfinished = codes "the calls are not one whole record"
logfmt_error_text error.NoMemory = codes "cannot allocate for a line"
