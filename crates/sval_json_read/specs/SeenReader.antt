-- What the reader of the code stands for: a state of the machine after some first bytes.
use Rattle.std.specs.Prelude.{◌≡◌, ℕ, ◌+◌, ◌<◌, ◌≤◌, ◌⊎◌, length, take, get_or, Bool, true, false, List, [], ◌∷◌, ◌++◌, map, Option, Some, None, Result, IfOk, IfErr, IsUtf8, IsCharBoundary}
use Rattle.std.specs.List.{between, AllByRecursion}
use Rattle.sval_label.specs.declared.error.NoMemory.{NoMemory}
use Rattle.sval_json_read.specs.declared.node.Place.{Place}
use Rattle.sval_json_read.specs.declared.node.Node.{Node}
use Rattle.sval_json_read.specs.declared.number.Phase as made_phase
use Rattle.sval_json_read.specs.declared.number.Phase.TheVariants as phase
use Rattle.sval_json_read.specs.declared.string.Within as made_within
use Rattle.sval_json_read.specs.declared.string.Within.TheVariants as within
use Rattle.sval_json_read.specs.declared.reader.Expected as made_expected
use Rattle.sval_json_read.specs.declared.reader.Expected.TheVariants as expected
use Rattle.sval_json_read.specs.declared.reader.Reader.{Reader}
use Rattle.sval_json_read.specs.declared.stack.Opened.{Opened}
use Rattle.sval_json_read.specs.Tokens.{Placed}
use Rattle.sval_json_read.specs.Nodes.{tokens_in}
use Rattle.sval_json_read.specs.Numbers as numbers
use Rattle.sval_json_read.specs.Strings as strings
use Rattle.sval_json_read.specs.Reader as machine
use Rattle.sval_json_read.specs.SeenOpened.{opened_of, around_container}
use Rattle.sval_json_read.specs.NodeCounts.{begin_of, end_of}
use Rattle.sval_json_read.specs.SeenNodes.{node_place, seen_node, StandsIn}
use Rattle.sval_json_read.specs.Words.{expected_word}

-- a phase of the code
abbrev pub phase_of : made_phase.Phase → numbers.NumberPhase
phase_of phase.Minus = numbers.Minus
phase_of phase.Zero = numbers.Zero
phase_of phase.Whole = numbers.Whole
phase_of phase.Point = numbers.Point
phase_of phase.Fraction = numbers.Fraction
phase_of phase.Mark = numbers.Mark
phase_of phase.Sign = numbers.Sign
phase_of phase.Power = numbers.Power

-- where in a string the code is
abbrev pub within_of : made_within.Within → strings.Within
within_of within.Plain = strings.Plain
within_of within.Backslash = strings.Backslash
within_of within.Unit = strings.Unit
within_of within.UnitD = strings.UnitD
within_of within.ThreeLeft = strings.ThreeLeft
within_of within.TwoLeft = strings.TwoLeft
within_of within.OneLeft = strings.OneLeft
within_of within.HighTwoLeft = strings.HighTwoLeft
within_of within.HighOneLeft = strings.HighOneLeft
within_of within.High = strings.High
within_of within.LowBackslash = strings.LowBackslash
within_of within.LowUnit = strings.LowUnit
within_of within.LowD = strings.LowD
within_of within.LowTwoLeft = strings.LowTwoLeft
within_of within.LowOneLeft = strings.LowOneLeft

-- what comes next, where a number or string that is being read has the bytes between these places
abbrev pub expected_of : List ℕ → ℕ → ℕ → made_expected.Expected → machine.Expected
expected_of bytes from upto expected.AValue = machine.AValue
expected_of bytes from upto expected.FirstItem = machine.FirstItem
expected_of bytes from upto expected.FirstKey = machine.FirstKey
expected_of bytes from upto expected.NextKey = machine.NextKey
expected_of bytes from upto expected.Colon = machine.Colon
expected_of bytes from upto expected.Next = machine.Next
expected_of bytes from upto (expected.Letter word) = expected_word word
expected_of bytes from upto (expected.InNumber phase) = machine.InNumber (phase_of phase) (between from upto bytes)
expected_of bytes from upto (expected.InString is_key within) = machine.InString is_key (within_of within) (between from upto bytes)

-- the machine's state, where the reader has read the bytes up to this place
abbrev pub seen_state : List ℕ → ℕ → Reader → machine.ReaderState
seen_state bytes upto reader = record {
  expected = expected_of bytes reader.from upto reader.expected;
  opened = reader.opened;
  tokens = tokens_in bytes (map seen_node reader.nodes);
}

-- what the machine gives for a byte is what the answer says: the byte was taken and the state is this, or it wasn't
abbrev pub GivesState : Option machine.ReaderState → machine.ReaderState → Bool → Type 0
GivesState given new true = given ≡ Some new
GivesState given new false = given ≡ None

-- what the machine gives at the end is what the answer says: a text was whole and has these tokens, or it wasn't
abbrev pub EndsText : Option (List Placed) → List Placed → Bool → Type 0
EndsText given tokens true = given ≡ Some tokens
EndsText given tokens false = given ≡ None

-- bytes that are UTF-8 were read up to this place, and a number or string that is being read begins there; the nodes stand in them
pub record ReadsIn (bytes : List ℕ) (upto from : ℕ) (nodes : List Node) : Type 0 where
  pub utf8 : IsUtf8 bytes
  pub before : from ≤ upto
  pub whole : IsCharBoundary bytes from
  pub stand : AllByRecursion (StandsIn bytes) nodes

-- a number that may end with the last byte
abbrev pub ends_number : machine.Expected → Bool
ends_number (machine.InNumber phase _) = numbers.number_may_end phase
ends_number _ = false

-- one node more
pub record AddsNode (old : Reader) (node : Node) (expected : made_expected.Expected) (new : Reader) : Type 0 where
  pub expected_is : new.expected ≡ expected
  pub from_is : new.from ≡ old.from
  pub opened_is : new.opened ≡ old.opened
  pub nodes_are : new.nodes ≡ old.nodes ++ (node ∷ [])

-- a container begins
pub record OpensContainer (old : Reader) (container : Opened) (expected : made_expected.Expected) (new : Reader) : Type 0 where
  pub place : Place
  pub place_is : node_place place ≡ machine.place_in old.opened
  pub expected_is : new.expected ≡ expected
  pub from_is : new.from ≡ old.from
  pub opened_is : new.opened ≡ opened_of container ∷ old.opened
  pub nodes_are : new.nodes ≡ old.nodes ++ (begin_of container place 0 ∷ [])

-- the innermost container ends
pub record ClosesContainer (old : Reader) (container : Opened) (new : Reader) : Type 0 where
  pub place : Place
  pub place_is : node_place place ≡ machine.place_in (around_container old.opened)
  pub expected_is : new.expected ≡ expected.Next
  pub from_is : new.from ≡ old.from
  pub opened_is : new.opened ≡ around_container old.opened
  pub nodes_are : new.nodes ≡ old.nodes ++ (end_of container place ∷ [])

-- a token was kept, or a number is being read that may end
abbrev pub HasToken : machine.ReaderState → Type 0
HasToken state = (0 < length state.tokens) ⊎ (ends_number state.expected ≡ true)

-- the machine goes on, and a token was kept by then
abbrev pub KeepsToken : Option machine.ReaderState → Type 0
KeepsToken None = ⊥
KeepsToken (Some state) = 0 < length state.tokens

-- a token is kept before a byte or behind it
abbrev pub KeepsAt : machine.ReaderState → Option machine.ReaderState → Type 0
KeepsAt state next = HasToken state ⊎ KeepsToken next

-- what the reader keeps stands in the bytes up to this place
abbrev pub IsReadTo : List ℕ → ℕ → Reader → Type 0
IsReadTo bytes upto reader = ReadsIn bytes upto reader.from reader.nodes

-- ---- bytes that are passed over at once

-- a number stays in this phase behind each further digit
abbrev pub takes_digits : made_phase.Phase → Bool
takes_digits phase.Whole = true
takes_digits phase.Fraction = true
takes_digits phase.Power = true
takes_digits _ = false

-- white space may come, and changes nothing
abbrev pub skips_spaces : made_expected.Expected → Bool
skips_spaces expected.AValue = true
skips_spaces expected.FirstItem = true
skips_spaces expected.FirstKey = true
skips_spaces expected.NextKey = true
skips_spaces expected.Colon = true
skips_spaces expected.Next = true
skips_spaces _ = false

-- a value comes next
abbrev pub takes_values : made_expected.Expected → Bool
takes_values expected.AValue = true
takes_values expected.FirstItem = true
takes_values _ = false

-- a key comes next
abbrev pub takes_keys : made_expected.Expected → Bool
takes_keys expected.FirstKey = true
takes_keys expected.NextKey = true
takes_keys _ = false

-- the bytes up to this place bring the machine to the state that the reader stands for
abbrev pub Reaches : List ℕ → ℕ → Reader → Type 0
Reaches bytes upto reader = machine.after_bytes machine.reader_start (take upto bytes) ≡ Some (seen_state bytes upto reader)

-- from one place on, where the reader was the old one, the bytes were read up to another
pub record Passes (bytes : List ℕ) (at : ℕ) (old : Reader) (upto : ℕ) (new : Reader) : Type 0 where
  pub order : at ≤ upto
  pub within : upto ≤ length bytes
  pub reaches : Reaches bytes at old → Reaches bytes upto new
  pub reads : IsReadTo bytes upto new

-- the byte at this place is taken, and this comes next
abbrev pub LeadsTo : List ℕ → ℕ → Reader → machine.Expected → Type 0
LeadsTo bytes at old next = machine.reader_step (seen_state bytes at old) (get_or bytes at 0) ≡ Some (machine.expects (seen_state bytes at old) next)

-- ---- reading a byte

-- a step of the machine
abbrev pub MachineStep : Type 0
MachineStep = machine.ReaderState → ℕ → Option machine.ReaderState

-- what a step gives for the byte at this place, of the state before it
abbrev pub stepped : MachineStep → List ℕ → ℕ → Reader → Option machine.ReaderState
stepped step bytes at reader = step (seen_state bytes at reader) (get_or bytes at 0)

-- the byte at this place was taken or refused as by this step
abbrev pub TakesByte : MachineStep → List ℕ → ℕ → Reader → Result Bool NoMemory → Reader → Type 0
TakesByte step bytes at old result new = IfOk result (GivesState (stepped step bytes at old) (seen_state bytes (at + 1) new))

-- where memory sufficed, what is kept stands in the bytes up to this place
abbrev pub KeepsRead : {A : Type 0} → List ℕ → ℕ → Result A NoMemory → Reader → Type 0
KeepsRead bytes upto result new = IfOk result (λ _. IsReadTo bytes upto new)

-- memory was wanting only where a token is kept, before the byte at this place or by this step
abbrev pub WantsOnlyFor : MachineStep → List ℕ → ℕ → Reader → Result Bool NoMemory → Type 0
WantsOnlyFor step bytes at old result = IfErr result (λ _. KeepsAt (seen_state bytes at old) (stepped step bytes at old))
