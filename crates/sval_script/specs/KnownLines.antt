-- Lines that are remembered, and what they leave in the store.
use Rattle.std.specs.Prelude.{◌≡◌, ℕ, ◌≤◌, List, [], Some, length, take, drop}
use Rattle.sval_script.specs.LineCalls.{Stored, call_with, own_len, own_count, IsUtf8Line}
use Rattle.sval_script.specs.MadeLines.{IsMade}
use Rattle.sval_script.specs.NextFields.{first_call}
use Rattle.sval_script.specs.declared.known.KeptLine.{KeptLine}
use Rattle.sval_script.specs.declared.line.Line.{Line}

-- the bytes are one line, which spells the call of this line with these own bytes and numbers
pub record SaysLine (spelled bytes numbers : List ℕ) (line : Line) : Type 0 where
  pub spells : first_call spelled ≡ Some (call_with bytes numbers line, [])
  pub has_text : IsUtf8Line line bytes
  pub has_len : length bytes ≡ own_len line numbers
  pub has_count : length numbers ≡ own_count line

-- the same, where the line's own bytes and numbers are the first of those that are kept
pub record IsKeptLine (spelled : List ℕ) (kept : KeptLine) : Type 0 where
  pub few_bytes : kept.text_len ≤ 16
  pub few_numbers : kept.count ≤ 2
  pub says : SaysLine spelled (take kept.text_len kept.text) (take kept.count kept.numbers) kept.line

-- the same, where the line's own bytes and numbers are those of the store from these places on
pub record StoresLine (spelled : List ℕ) (start count : ℕ) (store : Stored) (line : Line) : Type 0 where
  pub bytes_within : start ≤ length store.bytes
  pub numbers_within : count ≤ length store.numbers
  pub says : SaysLine spelled (drop start store.bytes) (drop count store.numbers) line

-- the first bytes are the line that is kept
pub record IsKnownLine (bytes : List ℕ) (len : ℕ) (kept : KeptLine) : Type 0 where
  pub is_within : len ≤ 80
  pub is_kept : IsKeptLine (take len bytes) kept

-- the script begins with this line of that length, whose own was put behind what stood before it
pub record ReadsLine (script : List ℕ) (read : Line × ℕ) (old new : Stored) : Type 0 where
  pub is_within : read.1 ≤ length script
  pub made : IsMade (first_call script) (drop read.1 script) old new read.0
