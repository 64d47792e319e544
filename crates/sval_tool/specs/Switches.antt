-- The table of the options, as the parser reads it.
use Rattle.std.specs.Prelude.{ℕ, zero, suc, Bool, true, false, if◌then◌else◌, List, [], ◌∷◌, codes, Option, Some, None, bytes_eq}
use Rattle.sval_tool.specs.declared.switch.OptionRow.{OptionRow}
use Rattle.sval_tool.specs.declared.switch.Switch.{Switch}
use Rattle.sval_tool.specs.declared.switch.Switch.TheVariants as switch
use Rattle.sval_tool.specs.declared.switch.Flag.TheVariants as flag
use Rattle.sval_tool.specs.declared.switch.Setting.TheVariants as setting

-- an option, its name, its short form and whether `sval check` has it
pub record SeenRow : Type 0 where
  pub switch : Switch
  pub name : List ℕ
  pub short : List ℕ
  pub checks : Bool

-- a row of the table
abbrev pub seen_row : OptionRow → SeenRow
seen_row row = record { switch = row.switch; name = row.name.now; short = row.short.now; checks = row.checks }

abbrev pub row : Switch → List ℕ → List ℕ → Bool → SeenRow
row option name short checks = record { switch = option; name = name; short = short; checks = checks }

-- the rows of the table: each option with its name, its short form and whether `sval check` has it
unfoldable pub option_rows : List SeenRow
option_rows =
    row (switch.Setting setting.From) (codes "from") [] true ∷
    row (switch.Setting setting.To) (codes "to") [] false ∷
    row (switch.Flag flag.Lines) (codes "lines") [] true ∷
    row (switch.Setting setting.Keep) (codes "keep") [] false ∷
    row (switch.Setting setting.Drop) (codes "drop") [] false ∷
    row (switch.Setting setting.Pointer) (codes "pointer") [] false ∷
    row (switch.Flag flag.Beside) (codes "beside") [] false ∷
    row (switch.Flag flag.Progress) (codes "progress") [] true ∷
    row (switch.Flag flag.Help) (codes "help") (codes "h") true ∷
    row (switch.Flag flag.Version) (codes "version") (codes "V") true ∷
    []

-- the row with this name
abbrev pub row_named : List ℕ → List SeenRow → Option SeenRow
row_named name [] = None
row_named name (first ∷ rows) = if bytes_eq first.name name then Some first else row_named name rows

-- the row with this short form
abbrev pub row_shortened : List ℕ → List SeenRow → Option SeenRow
row_shortened letters [] = None
row_shortened letters (first ∷ rows) = if bytes_eq first.short letters then Some first else row_shortened letters rows

-- where an option stands in the table
abbrev pub option_row : Switch → ℕ
option_row (switch.Setting setting.From) = 0
option_row (switch.Setting setting.To) = 1
option_row (switch.Flag flag.Lines) = 2
option_row (switch.Setting setting.Keep) = 3
option_row (switch.Setting setting.Drop) = 4
option_row (switch.Setting setting.Pointer) = 5
option_row (switch.Flag flag.Beside) = 6
option_row (switch.Flag flag.Progress) = 7
option_row (switch.Flag flag.Help) = 8
option_row (switch.Flag flag.Version) = 9

-- the name in the row at an index, or this past the last row
abbrev pub option_name_at : List ℕ → ℕ → List SeenRow → List ℕ
option_name_at past index [] = past
option_name_at past zero (first ∷ rows) = first.name
option_name_at past (suc index) (first ∷ rows) = option_name_at past index rows

-- the name of an option
abbrev pub option_name : Switch → List ℕ
option_name option = option_name_at [] (option_row option) option_rows
