-- The line and the column of a place in a text.
use Rattle.std.specs.Prelude.{ℕ, suc, ◌==◌, if◌then◌else◌, List, [], ◌∷◌}

-- how many line feeds there are
abbrev pub line_feeds : List ℕ → ℕ
line_feeds [] = 0
line_feeds (byte ∷ bytes) = if byte == 10 then suc (line_feeds bytes) else line_feeds bytes

-- how many bytes there are behind the last line feed. Without one they are all, and `before` more
abbrev pub behind_line_feed : ℕ → List ℕ → ℕ
behind_line_feed before [] = before
behind_line_feed before (byte ∷ bytes) = if byte == 10 then behind_line_feed 0 bytes else behind_line_feed (suc before) bytes
