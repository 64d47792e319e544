-- The law of a buffer of tokens: it takes every call, and keeps all of them.
use Rattle.std.specs.Prelude.{◌≡◌, ℕ, ⊤, List, [], ◌∷◌, ◌++◌, Result, Ok, Err}
use Rattle.sval_label.specs.Calls.{Call}
use Rattle.sval_label.specs.declared.error.NoMemory.{NoMemory}
use Rattle.sval_core.specs.Law.{Law, Standing, Ran}

-- the calls that were taken, and how often memory was wanting
pub record TakenCalls : Type 0 where
  pub calls : List Call
  pub wants : ℕ

-- before any call: no call was taken, and memory was never wanting
abbrev pub nothing_taken : TakenCalls
nothing_taken = record { calls = []; wants = 0 }

-- with this call behind those that were taken
abbrev pub with_taken_call : TakenCalls → Call → TakenCalls
with_taken_call taken call = record taken { calls = taken.calls ++ (call ∷ []) }

-- every call is accepted and appended, and a refused one leaves the calls
abbrev pub token_law : Law (List Call)
token_law = record { accepts = λ calls call. ⊤; after = λ calls call. calls ++ (call ∷ []); stopped = λ calls call left. left ≡ calls }

-- where it stands: it has no faults
abbrev pub token_standing : TakenCalls → Standing (List Call)
token_standing taken = record { view = taken.calls; faults = 0; wants = taken.wants }

-- a call is kept, or nothing is changed
abbrev pub KeepsCall : TakenCalls → Call → Result (Unit {0}) NoMemory → TakenCalls → Type 0
KeepsCall old call (Ok done) new = new ≡ with_taken_call old call
KeepsCall old call (Err no_memory) new = new ≡ old

-- whatever calls are taken, they are kept behind those that were, all of them and in order
abbrev pub KeepsAll : Type 0
KeepsAll = (kept calls left : List Call) → Ran token_law kept calls left → left ≡ kept ++ calls

-- any calls may be taken
abbrev pub TakesAnyCalls : Type 0
TakesAnyCalls = (kept calls : List Call) → Ran token_law kept calls (kept ++ calls)
