use Rattle.std.proofs.Common.{◌≡◌, ◌≤◌, drop, length, map, string_bytes}
use Rattle.sval_tool.specs.WordReading.{before_words, reading_in, reads_from}
use Rattle.sval_tool.proofs.words.read_words.Given as goal

-- the words that are left decide
abbrev pub invariant-loop-at : goal.invariant-loop-at
invariant-loop-at l =
    (l.at ≤ length l.words) × (reads_from l.at (reading_in l.reader) (map string_bytes (drop l.at l.words)) ≡ reads_from 0 before_words (map string_bytes l.words))
