-- The laws of lowering, as facts.
use Rattle.std.specs.Prelude.{◌≡◌, Bool, true, false, List, [], ◌∷◌, ◌++◌}
use Rattle.std.specs.List.{AllByRecursion}
use Rattle.sval_label.specs.Calls.{Call}
use Rattle.sval_lower.specs.Lower.{lower}
use Rattle.sval_lower.specs.Lowered.{is_base, TakesBase, LowersTo, lowered, is_for_texts, is_for_binaries}

-- where the base calls are taken, calls lower to this list
abbrev pub LoweringEnds : Type 0
LoweringEnds = (taken : Call → Bool) (calls : List Call) → TakesBase taken → LowersTo taken calls (lowered taken calls)

-- calls lower to no other list, whatever is taken
abbrev pub LowersToOne : Type 0
LowersToOne = (taken : Call → Bool) (calls result : List Call) → LowersTo taken calls result → result ≡ lowered taken calls

-- where the base calls are taken, each call that is left is taken
abbrev pub LeavesTaken : Type 0
LeavesTaken = (taken : Call → Bool) (calls : List Call) → TakesBase taken → AllByRecursion (λ call. taken call ≡ true) (lowered taken calls)

-- a stream that takes the base calls alone is told no others
abbrev pub LeavesBase : Type 0
LeavesBase = (calls : List Call) → AllByRecursion (λ call. is_base call ≡ true) (lowered is_base calls)

-- joined lists are lowered one by one
abbrev pub LowersJoined : Type 0
LowersJoined = (taken : Call → Bool) (first second : List Call) → lowered taken (first ++ second) ≡ lowered taken first ++ lowered taken second

-- a call that is taken stays
abbrev pub KeepsTaken : Type 0
KeepsTaken = (taken : Call → Bool) (call : Call) → taken call ≡ true → lowered taken (call ∷ []) ≡ call ∷ []

-- a call that isn't taken is lowered as its lower calls are
abbrev pub LowersByStep : Type 0
LowersByStep = (taken : Call → Bool) (call : Call) → taken call ≡ false → lowered taken (call ∷ []) ≡ lowered taken (lower call)

-- what is left is lowered to itself
abbrev pub LoweredTwice : Type 0
LoweredTwice = (taken : Call → Bool) (calls : List Call) → TakesBase taken → lowered taken (lowered taken calls) ≡ lowered taken calls

-- the buffers for texts and for binaries take the base calls
abbrev pub BuffersTakeBase : Type 0
BuffersTakeBase = TakesBase is_for_texts × TakesBase is_for_binaries
