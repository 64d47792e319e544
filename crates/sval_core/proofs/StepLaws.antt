-- The machine as a function decides which calls can be completed, and when they spell a tree.
use Rattle.std.specs.Prelude.{◌≡◌, Bool, true, false, List, [], ◌∷◌, ◌++◌, Some, refl}
use Rattle.std.specs.Bool.{Decides}
use Rattle.std.proofs.Common.{sym, ap, ◌∙◌, subst}
use Rattle.std.proofs.lemmas.List.Elements.{filter_map-append}
use Rattle.sval_label.specs.Calls.{Call}
use Rattle.sval_core.specs.Trees.{Tree}
use Rattle.sval_core.specs.Spells.{Spells, IsViable, plain, plain_call}
use Rattle.sval_core.specs.Checker.{Frame, State, Runs, kept}
use Rattle.sval_core.specs.CheckerSteps.{next, is_whole_tree}
use Rattle.sval_core.proofs.Completions.{viable_is_taken, taken_is_viable, spelling_is_run, run_is_spelling}
use Rattle.sval_core.proofs.Determined.{goes_on, joins, runs_determined}
use Rattle.sval_core.proofs.CheckerSteps.{next_goes, goes_next}

joined : (calls more_calls : List Call) → plain (calls ++ more_calls) ≡ plain calls ++ plain more_calls
joined calls more_calls = filter_map-append plain_call calls more_calls

pub keeps_next : (calls : List Call) (call : Call) (state after : State) → kept calls state → next state call ≡ Some after → kept (calls ++ (call ∷ [])) after
keeps_next calls call state after k e =
    subst (λ cs. Runs false [] cs after.filled after.frames) (sym (joined calls (call ∷ []))) (joins (plain calls) (plain (call ∷ [])) k (next_goes state after call e))

pub viable_is_next : (calls : List Call) (call : Call) (state : State) → kept calls state → IsViable (calls ++ (call ∷ [])) → (after : State) × (next state call ≡ Some after)
viable_is_next calls call state k v =
    let t = viable_is_taken (calls ++ (call ∷ [])) v in
    let after : State = record { filled = t.0; frames = t.1 } in
    let last = goes_on (plain calls) (plain (call ∷ [])) k (subst (λ cs. Runs false [] cs t.0 t.1) (joined calls (call ∷ [])) t.2) in
    (after, goes_next state after call last)

pub next_is_viable : (calls : List Call) (call : Call) (state after : State) → kept calls state → next state call ≡ Some after → IsViable (calls ++ (call ∷ [])) × kept (calls ++ (call ∷ [])) after
next_is_viable calls call state after k e =
    let r = keeps_next calls call state after k e in (taken_is_viable (calls ++ (call ∷ [])) (after.filled, after.frames, r), r)

-- ---- whole trees

whole_is : (b : Bool) (fs : List Frame) → is_whole_tree (record { filled = b; frames = fs }) ≡ true → (b ≡ true) × (fs ≡ [])
whole_is true [] e = (refl, refl)
whole_is false [] e = absurd (cc e)
whole_is b (f ∷ fs) e = absurd (cc e)

pub whole_decides : (calls : List Call) (state : State) → kept calls state → Decides (is_whole_tree state) ((tree : Tree) × Spells calls tree)
whole_decides calls state k = (spells, whole)
  where
    spells : is_whole_tree state ≡ true → (tree : Tree) × Spells calls tree
    spells e =
        let w = whole_is state.filled state.frames e in
        run_is_spelling calls (subst (λ b. Runs false [] (plain calls) b []) w.0 (subst (λ fs. Runs false [] (plain calls) state.filled fs) w.1 k))

    whole : ((tree : Tree) × Spells calls tree) → is_whole_tree state ≡ true
    whole s =
        let e = runs_determined (plain calls) k (spelling_is_run calls s.0 s.1) in
        ap (λ (b : Bool). is_whole_tree (record { filled = b; frames = state.frames })) e.0
        ∙ ap (λ (fs : List Frame). is_whole_tree (record { filled = true; frames = fs })) e.1
