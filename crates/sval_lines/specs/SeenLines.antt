-- What clauses see of the lines of a source.
use Rattle.std.specs.Prelude.{ℕ, List, Option}
use Rattle.sval_io.specs.Sources.{Supply}
use Rattle.sval_io.specs.declared.source.Source.{Ghosts}
use Rattle.sval_lines.specs.declared.lines.Lines.{Lines}
use Rattle.sval_lines.specs.SourceLines.{unread, ahead_of}

-- all bytes that are still to come as lines, where the source tells them
abbrev pub bytes_left : {I : Type 0} {ghosts : Ghosts I} → (I → Supply) → Lines I ghosts → Option (List ℕ)
bytes_left told lines = ahead_of (unread lines.chunk.items lines.from lines.upto) (told lines.source)

-- what the source tells
abbrev pub supply_of_lines : {I : Type 0} {ghosts : Ghosts I} → (I → Supply) → Lines I ghosts → Supply
supply_of_lines told lines = told lines.source

-- the line that was taken last
abbrev pub last_line : {I : Type 0} {ghosts : Ghosts I} → Lines I ghosts → List ℕ
last_line lines = lines.line.items

-- how many lines were taken
abbrev pub lines_taken : {I : Type 0} {ghosts : Ghosts I} → Lines I ghosts → ℕ
lines_taken lines = lines.number
