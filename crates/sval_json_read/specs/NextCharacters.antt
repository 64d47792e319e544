-- Which characters may come behind the beginning of a text, and whether the text may end there.
use Rattle.std.specs.Prelude.{ℕ, Bool, false, List, [], ◌∷◌, ◌++◌, ◌↔◌, Option, Some, None, is_some, IsTrue}
use Rattle.std.specs.Char.{IsScalar, encode_utf8}
use Rattle.sval_json.specs.Fronts.{IsFront}
use Rattle.sval_json.specs.Grammar.{JsonValue, Denotes}
use Rattle.sval_json_read.specs.declared.following.NextCharacters.{NextCharacters}
use Rattle.sval_json_read.specs.declared.reader.waiting.Waiting.{Waiting}
use Rattle.sval_json_read.specs.declared.stack.Opened.{Opened}
use Rattle.sval_json_read.specs.Reader as machine
use Rattle.sval_json_read.specs.SeenOpened.{opened_of}
use Rattle.sval_json_read.specs.SeenReader.{expected_of}

-- what is open, as far as the next byte depends on it
abbrev pub innermost_alone : Option Opened → List machine.Opened
innermost_alone None = []
innermost_alone (Some container) = opened_of container ∷ []

-- a state of the machine that waits for the same
abbrev pub waiting_state : Waiting → machine.ReaderState
waiting_state waiting = record { expected = expected_of [] 0 0 waiting.expected; opened = innermost_alone waiting.innermost; tokens = [] }

-- the machine takes the byte. Of all that are no ASCII it takes each or none
abbrev pub takes_next : Option Waiting → ℕ → Bool
takes_next None byte = false
takes_next (Some waiting) byte = is_some (machine.reader_step (waiting_state waiting) byte)

-- the text may end
abbrev pub ends_next : Option Waiting → Bool
ends_next None = false
ends_next (Some waiting) = is_some (machine.tokens_at_end (waiting_state waiting))

-- the character is one of the set
abbrev pub comes_next : NextCharacters → ℕ → Bool
comes_next next c = takes_next next.waiting c

-- the set says that the text may end
abbrev pub may_end_next : NextCharacters → Bool
may_end_next next = ends_next next.waiting

-- the bytes denote some value
abbrev pub DenotesSome : List ℕ → Type 0
DenotesSome bytes = (value : JsonValue) × Denotes bytes value

-- the characters that pass the test are exactly those with which some text that denotes a value goes on behind the bytes
abbrev pub ArePossible : List ℕ → (ℕ → Bool) → Type 0
ArePossible bytes test = (c : ℕ) → IsScalar c → IsTrue (test c) ↔ IsFront (bytes ++ encode_utf8 c)
