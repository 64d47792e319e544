-- What a sink tells of itself, and what writing to it and flushing it make of that.
use Rattle.std.specs.Prelude.{◌≡◌, ℕ, ◌-◌, ◌<◌, ◌≤◌, List, ◌++◌, Option, option_map, IfSome, Result, Ok, Err, take, length}
use Rattle.sval_core.specs.Law.{Rose, one_more}
use Rattle.sval_io.specs.declared.sink.SinkError.{SinkError}
use Rattle.sval_io.specs.declared.sink.SinkError.TheVariants.{Failed, NoMemory}

-- the bytes that it took, how many more it can take, and how many of those that it took it holds back, each where it tells it;
-- how often it failed, and how often it had no memory
pub record Told : Type 0 where
  pub text : Option (List ℕ)
  pub room : Option ℕ
  pub held : Option ℕ
  pub faults : ℕ
  pub wants : ℕ

-- ---- the counts

-- neither moved
pub record IsSteady (old new : Told) : Type 0 where
  pub faults : new.faults ≡ old.faults
  pub wants : new.wants ≡ old.wants

-- neither fell
pub record NoCountFell (old new : Told) : Type 0 where
  pub faults : old.faults ≤ new.faults
  pub wants : old.wants ≤ new.wants

-- neither rose
pub record IsQuiet (old new : Told) : Type 0 where
  pub faults : Rose old.faults new.faults → ⊥
  pub wants : Rose old.wants new.wants → ⊥

-- the count of this refusal rose
abbrev pub IsCounted : SinkError → Told → Told → Type 0
IsCounted Failed old new = Rose old.faults new.faults
IsCounted NoMemory old new = Rose old.wants new.wants

-- the count of this refusal rose by one, up to its type's end, and the other stayed
abbrev pub IsCountedOnce : SinkError → Told → Told → Type 0
IsCountedOnce Failed old new = (new.faults ≡ one_more old.faults) × (new.wants ≡ old.wants)
IsCountedOnce NoMemory old new = (new.wants ≡ one_more old.wants) × (new.faults ≡ old.faults)

-- ---- the text and the room

-- a text that is told grows by these bytes
abbrev pub appended : Option (List ℕ) → List ℕ → Option (List ℕ)
appended text bytes = option_map (λ taken. taken ++ bytes) text

-- a room that is told falls by this number
abbrev pub less_room : Option ℕ → ℕ → Option ℕ
less_room room count = option_map (λ left. left - count) room

-- where the room is told, these bytes have place in it
abbrev pub HasRoom : Told → List ℕ → Type 0
HasRoom told bytes = IfSome told.room (λ left. length bytes ≤ left)

-- where the room is told, these bytes have no place in it
abbrev pub LacksRoom : Told → List ℕ → Type 0
LacksRoom told bytes = IfSome told.room (λ left. left < length bytes)

-- these bytes were taken, and nothing else
pub record Appends (old : Told) (bytes : List ℕ) (new : Told) : Type 0 where
  pub fits : HasRoom old bytes
  pub text : new.text ≡ appended old.text bytes
  pub room : new.room ≡ less_room old.room (length bytes)

-- some first bytes of these were taken, and nothing else
pub record AppendsFront (old : Told) (bytes : List ℕ) (new : Told) : Type 0 where
  pub count : ℕ
  pub within : count ≤ length bytes
  pub appends : Appends old (take count bytes) new

-- where the room is told, none is left
abbrev pub IsFull : Told → Type 0
IsFull told = IfSome told.room (λ left. left ≡ 0)

-- nothing of what was taken is held back, where that is told
abbrev pub HoldsNothing : Told → Type 0
HoldsNothing told = IfSome told.held (λ count. count ≡ 0)

-- ---- what a call answers

-- as many first bytes of the piece were taken: at least one, unless the piece is empty
pub record TakesSome (count : ℕ) (old : Told) (piece : List ℕ) (new : Told) : Type 0 where
  pub within : count ≤ length piece
  pub progress : 0 < length piece → 0 < count
  pub appends : Appends old (take count piece) new
  pub steady : IsSteady old new

-- nothing was taken, and a count says why
pub record Declines (why : SinkError) (old new : Told) : Type 0 where
  pub text : new.text ≡ old.text
  pub room : new.room ≡ old.room
  pub cause : IsCounted why old new
  pub counts : NoCountFell old new

-- the same at a write: a sink that tells its room failed only where none was left
pub record TakesNothing (why : SinkError) (old new : Told) : Type 0 where
  pub declines : Declines why old new
  pub full : why ≡ Failed → IfSome old.room (λ left. left ≡ 0)

-- what a write's answer says
abbrev pub Writes : Result ℕ SinkError → Told → List ℕ → Told → Type 0
Writes (Ok count) old piece new = TakesSome count old piece new
Writes (Err why) old piece new = TakesNothing why old new

-- what was held back was passed on, and nothing else changed
pub record PassesOn (old new : Told) : Type 0 where
  pub flushed : HoldsNothing new
  pub text : new.text ≡ old.text
  pub room : new.room ≡ old.room
  pub steady : IsSteady old new

-- what a flush's answer says
abbrev pub Flushes : Result (Unit {0}) SinkError → Told → Told → Type 0
Flushes (Ok done) old new = PassesOn old new
Flushes (Err why) old new = Declines why old new

-- the whole piece was taken
pub record WritesWhole (old : Told) (piece : List ℕ) (new : Told) : Type 0 where
  pub appends : Appends old piece new
  pub steady : IsSteady old new

-- some first bytes of these were taken, but not all of them, and nothing else
pub record AppendsPart (old : Told) (bytes : List ℕ) (new : Told) : Type 0 where
  pub count : ℕ
  pub within : count < length bytes
  pub appends : Appends old (take count bytes) new

-- a first part of the piece, but not all of it, was taken, and a count says why it stopped there: a sink that tells its room failed
-- only where the piece had no place in it
pub record WritesFront (why : SinkError) (old : Told) (piece : List ℕ) (new : Told) : Type 0 where
  pub front : AppendsFront old piece new
  pub part : AppendsPart old piece new
  pub cause : IsCounted why old new
  pub full : why ≡ Failed → LacksRoom old piece
  pub counts : NoCountFell old new

-- what the answer of writing a whole piece says
abbrev pub WritesAll : Result (Unit {0}) SinkError → Told → List ℕ → Told → Type 0
WritesAll (Ok done) old piece new = WritesWhole old piece new
WritesAll (Err why) old piece new = WritesFront why old piece new
