-- What a cursor over the fields of a script's line stands for.
use Rattle.std.specs.Prelude.{ℕ, ◌==◌, List, [], ◌∷◌, Option, Some, None, option_map, if◌then◌else◌}
use Rattle.sval_script.specs.Lines.{cut_at}
use Rattle.sval_script.specs.declared.fields.Fields.TheInside.{Inside}

-- the fields that are left of a line, and what stands behind its line feed, if one ends it
abbrev pub LineLeft : Type 0
LineLeft = Option (List (List ℕ) × List ℕ)

-- the bytes before the first line feed, and those behind it
abbrev pub cut_line : List ℕ → Option (List ℕ × List ℕ)
cut_line [] = None
cut_line (byte ∷ bytes) = if byte == 10 then Some ([], bytes) else option_map (λ line. (byte ∷ line.0, line.1)) (cut_line bytes)

-- the line that a script begins with
abbrev pub line_ahead : List ℕ → LineLeft
line_ahead script = option_map (λ line. (cut_at 32 line.0, line.1)) (cut_line script)

-- what a cursor has left of its line, which is over where its line feed was read
abbrev pub line_left : Inside → LineLeft
line_left fields = if fields.is_over then Some ([], fields.rest.now) else line_ahead fields.rest.now
