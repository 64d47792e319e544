-- Calls have a first one that no value goes on with, or they can be completed and spell no tree, or they spell one.
use Rattle.std.specs.Prelude.{◌≡◌, ◌⊎◌, Bool, true, false, List, [], ◌∷◌, ◌++◌}
use Rattle.std.proofs.Common.{inl, inr}
use Rattle.sval_label.specs.Calls.{Call}
use Rattle.sval_core.specs.Checker.{Frame, Runs}
use Rattle.sval_core.specs.Spells.{Spells, IsViable, plain}
use Rattle.sval_core.specs.Trees.{Tree}
use Rattle.sval_core.proofs.Completions.{viable_is_taken, taken_is_viable, spelling_is_run, run_is_spelling}
use Rattle.sval_core.proofs.Decided.{Ran, Stopped, scanned}
use Rattle.sval_core.proofs.Determined.{runs_determined}

pub data Found (calls : List Call) : Type 0 where
  found_bad : (front : List Call) (call : Call) (rest : List Call) → calls ≡ front ++ (call ∷ rest) → IsViable front → (IsViable (front ++ (call ∷ [])) → ⊥) → Found calls
  found_open : IsViable calls → ((tree : Tree) → Spells calls tree → ⊥) → Found calls
  found_whole : (tree : Tree) → Spells calls tree → Found calls

by_state : (calls : List Call) (b : Bool) (fs : List Frame) → Runs false [] (plain calls) b fs → Found calls
by_state calls true [] r = let s = run_is_spelling calls r in found_whole s.0 s.1
by_state calls true (f ∷ fs) r =
    found_open (taken_is_viable calls (true, (f ∷ fs), r)) (λ tree s. let e = runs_determined (plain calls) r (spelling_is_run calls tree s) in cc (e.1))
by_state calls false fs r =
    found_open (taken_is_viable calls (false, fs, r)) (λ tree s. let e = runs_determined (plain calls) r (spelling_is_run calls tree s) in cc (e.0))

by_scan : (calls : List Call) → Ran false [] calls ⊎ Stopped false [] calls → Found calls
by_scan calls (inl r) = by_state calls r.0 r.1 r.2
by_scan calls (inr s) =
    found_bad s.front s.call s.rest s.whole (taken_is_viable s.front (s.filled, s.frames, s.runs)) (λ v. let k = viable_is_taken (s.front ++ (s.call ∷ [])) v in s.stops k.0 k.1 k.2)

pub found : (calls : List Call) → Found calls
found calls = by_scan calls (scanned calls false [])
