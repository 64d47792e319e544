-- Where the first value of some bytes ends, as the machine sees it.
use Rattle.std.specs.Prelude.{ℕ, Bool, true, false, not, ◌&&◌, nat_lt, List, [], ◌∷◌, length, get_or, is_some}
use Rattle.sval_json_read.specs.declared.reader.Expected as made_expected
use Rattle.sval_json_read.specs.declared.reader.Expected.TheVariants as expected
use Rattle.sval_json_read.specs.Numbers.{NumberPhase, number_may_end, next_phase}
use Rattle.sval_json_read.specs.Reader.{Opened, Expected, Next, InNumber}

-- the byte at this place, where there is one, is one more of the number
abbrev pub number_goes_on : NumberPhase → List ℕ → ℕ → Bool
number_goes_on phase bytes at = is_some (next_phase phase (get_or bytes at 0)) && nat_lt at (length bytes)

-- with nothing open, a value has ended, or a number that may end and doesn't go on
abbrev pub alone_ends : Expected → List ℕ → ℕ → Bool
alone_ends Next bytes at = true
alone_ends (InNumber phase text) bytes at = number_may_end phase && not (number_goes_on phase bytes at)
alone_ends _ bytes at = false

-- the first value of the bytes ends before this place, and nothing is open
abbrev pub front_ends : List Opened → Expected → List ℕ → ℕ → Bool
front_ends [] expected bytes at = alone_ends expected bytes at
front_ends (_ ∷ _) expected bytes at = false

-- a value has ended, and nothing is open
abbrev pub is_past : List Opened → made_expected.Expected → Bool
is_past [] expected.Next = true
is_past [] _ = false
is_past (_ ∷ _) _ = false
