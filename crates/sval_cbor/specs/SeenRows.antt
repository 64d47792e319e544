-- What the open containers of the code stand for.
use Rattle.std.specs.Prelude.{◌≡◌, List, [], ◌∷◌, Option, Some, None, reverse}
use Rattle.sval_cbor.specs.declared.open_rows.OpenRow.{OpenRow}

-- what is open, by the innermost container and those around it, which come with the outermost first
abbrev pub open_rows : Option OpenRow → List OpenRow → List OpenRow
open_rows None around = []
open_rows (Some innermost) around = innermost ∷ reverse around

-- the innermost container, if one is open
abbrev pub InnermostIs : Option OpenRow → List OpenRow → Type 0
InnermostIs None rows = rows ≡ []
InnermostIs (Some innermost) rows = (around : List OpenRow) × (rows ≡ innermost ∷ around)

-- what is open around the innermost container
abbrev pub around_row : List OpenRow → List OpenRow
around_row [] = []
around_row (innermost ∷ rows) = rows
