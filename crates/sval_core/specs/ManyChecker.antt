-- The machine for lists of trees: the machine with a stack, where after a whole value the next one may begin. It counts the calls.
use Rattle.std.specs.Prelude.{◌≡◌, ℕ, ◌+◌, Bool, false, if◌then◌else◌, List, [], ◌∷◌, Some, None}
use Rattle.sval_label.specs.Calls.{Call}
use Rattle.sval_core.specs.Spells.{plain_call}
use Rattle.sval_core.specs.Checker.{Frame, Steps}

-- a whole value stands outside all that has begun
abbrev pub is_whole_value : Bool → List Frame → Bool
is_whole_value filled [] = filled
is_whole_value filled (frame ∷ frames) = false

-- where it does, it is done with, and the next value may begin
abbrev pub ready : Bool → List Frame → Bool
ready filled [] = false
ready filled (frame ∷ frames) = filled

-- the number of a call after which a whole value stands there
abbrev pub noted : ℕ → Bool → List Frame → List ℕ → List ℕ
noted n filled frames ends = if is_whole_value filled frames then n ∷ ends else ends

-- the calls after the first n calls, from a state to a state; a tree ends at each of the numbers
pub data RunsAll : ℕ → Bool → List Frame → List Call → List ℕ → Bool → List Frame → Type 0 where
  done : {n : ℕ} {b : Bool} {fs : List Frame} → RunsAll n b fs [] [] b fs
  hint : {n : ℕ} {b b' : Bool} {fs fs' : List Frame} {cs : List Call} {es : List ℕ} (c : Call) → plain_call c ≡ None
      → RunsAll (n + 1) b fs cs es b' fs' → RunsAll n b fs (c ∷ cs) es b' fs'
  more : {n : ℕ} {b b'' : Bool} {fs fs'' : List Frame} {cs : List Call} {es : List ℕ} (c p : Call) (b' : Bool) (fs' : List Frame)
      → plain_call c ≡ Some p → Steps (ready b fs) fs p b' fs' → RunsAll (n + 1) b' fs' cs es b'' fs''
      → RunsAll n b fs (c ∷ cs) (noted (n + 1) b' fs' es) b'' fs''

-- where the machine stands: whether a whole value stands directly in the innermost frame, the frames, and where trees have ended
pub record Progress : Type 0 where
  pub filled : Bool
  pub frames : List Frame
  pub ends : List ℕ

-- the machine takes the calls, and then stands here
abbrev pub kept_all : List Call → Progress → Type 0
kept_all calls now = RunsAll 0 false [] calls now.ends now.filled now.frames
