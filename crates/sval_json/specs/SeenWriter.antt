-- What the writer in code is seen as.
use Rattle.std.specs.Prelude.{ℕ, List, Option, option_map, if◌then◌else◌}
use Rattle.sval_json.specs.declared.writer.Handler as program
use Rattle.sval_json.specs.declared.writer.Handler.TheVariants as handler
use Rattle.sval_json.specs.declared.writer.short.Quoted.{Quoted}
use Rattle.sval_json.specs.Actions.{Handler, escapes, copies, reads}
use Rattle.sval_json.specs.Escape.{escaped}
use Rattle.sval_json.specs.SeenNumber.{seen_machine}

-- the handler of the definitions that a handler of the program is
abbrev pub seen_handler : program.Handler → Handler
seen_handler handler.Escapes = escapes
seen_handler handler.Copies = copies
seen_handler (handler.Reads machine) = reads (seen_machine machine)

-- what is written of a text between its quotes
abbrev pub quoted_text : Quoted → List ℕ
quoted_text quoted = if quoted.raw then quoted.text.now else escaped quoted.text.now
