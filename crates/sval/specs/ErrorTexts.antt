-- What errors say.
use Rattle.std.specs.Prelude.{ℕ, List, codes}
use Rattle.sval.specs.declared.render.RenderError.{RenderError}
use Rattle.sval.specs.declared.render.RenderError.TheVariants as render
use Rattle.sval.specs.declared.shown.DisplayError.{DisplayError}
use Rattle.sval.specs.declared.shown.DisplayError.TheVariants as display

-- the text of an error of printing
abbrev pub render_error_text : RenderError → List ℕ
render_error_text render.Format = codes "the value cannot be printed"
render_error_text render.NoMemory = codes "cannot allocate for a text"

-- the text of an error of streaming what is printed
abbrev pub display_error_text : DisplayError → List ℕ
display_error_text display.Format = codes "the value cannot be printed"
display_error_text display.Refused = codes "the stream refused a call"
display_error_text display.NoMemory = codes "cannot allocate for a text"
