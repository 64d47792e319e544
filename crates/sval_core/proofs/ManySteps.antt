-- The machine for lists, call by call: the function takes a call exactly where calls can go on with it.
use Rattle.std.specs.Prelude.{◌≡◌, ℕ, suc, ◌+◌, Bool, true, false, List, [], ◌∷◌, ◌++◌, length, Option, Some, None, option_map, refl}
use Rattle.std.proofs.Common.{sym, ap, ◌∙◌, subst, arith, append-nil}
use Rattle.sval_label.specs.Calls.{Call}
use Rattle.sval_core.specs.Spells.{plain_call}
use Rattle.sval_core.specs.Checker.{Frame, State, Steps, Runs, done, more}
use Rattle.sval_core.specs.Many.{IsViableAll}
use Rattle.sval_core.specs.ManyChecker as all
use Rattle.sval_core.specs.ManyChecker.{ready, noted, RunsAll, Progress, kept_all}
use Rattle.sval_core.specs.CheckerSteps.{next, before_call, progress, next_of_list}
use Rattle.sval_core.proofs.CheckerSteps.{next_goes, goes_next, some_mapped}
use Rattle.sval_core.proofs.Determined.{steps_determined}
use Rattle.sval_core.proofs.ManyRuns.{plain_some}
use Rattle.sval_core.proofs.ManyTaken.{viable_list_is_taken, taken_list_is_viable, runs_joined}

-- ---- a run over joined calls, from where the first of them end

record Later (n : ℕ) (b : Bool) (fs : List Frame) (calls : List Call) (es all_ends : List ℕ) (b' : Bool) (gs : List Frame) : Type 0 where
  ends : List ℕ
  runs : RunsAll n b fs calls ends b' gs
  joined : all_ends ≡ es ++ ends

noted_before : (n : ℕ) (b : Bool) (fs : List Frame) (es others : List ℕ) → noted n b fs (es ++ others) ≡ noted n b fs es ++ others
noted_before n true [] es others = refl
noted_before n false [] es others = refl
noted_before n b (f ∷ fs) es others = refl

one_later : (n k : ℕ) → (n + 1) + k ≡ n + suc k
one_later n k = omega arith

runs_after : {n : ℕ} {b m b' : Bool} {fs ms gs : List Frame} {cs : List Call} {es all_ends : List ℕ} (ds : List Call) → RunsAll n b fs cs es m ms → RunsAll n b fs (cs ++ ds) all_ends b' gs
    → Later (n + length cs) m ms ds es all_ends b' gs
runs_after {n} {b} {b' = b'} {fs = fs} {gs = gs} {all_ends = ends} ds all.done r =
    record { ends = ends; runs = let same : n ≡ n + 0 = omega arith in subst (λ x. RunsAll x b fs ds ends b' gs) same r; joined = refl }
runs_after {n} {m = m} {b'} {ms = ms} {gs} {es = es} {all_ends} ds (all.hint {cs = cs} c e q) (all.hint c' e' r) =
    let l = runs_after ds q r in record { ends = l.ends; runs = subst (λ x. RunsAll x m ms ds l.ends b' gs) (one_later n (length cs)) l.runs; joined = l.joined }
runs_after ds (all.hint c e q) (all.more c' p m1 ms1 e' s r) = let f : None ≡ Some p = sym e ∙ e' in absurd (cc f)
runs_after ds (all.more c p m1 ms1 e s q) (all.hint c' e' r) = let f : None ≡ Some p = sym e' ∙ e in absurd (cc f)
runs_after {n} {b} {m} {b'} {fs} {ms} {gs} ds (all.more {cs = cs} {es = es} c p m1 ms1 e s q) (all.more {es = es'} c' p' m2 ms2 e' s' r) =
    let f : Some p' ≡ Some p = sym e' ∙ e in
    let g : p' ≡ p = cc f in
    let h = steps_determined (subst (λ x. Steps (ready b fs) fs x m2 ms2) g s') s in
    let l = runs_after ds q (subst (λ x. RunsAll (n + 1) m1 x (cs ++ ds) es' b' gs) h.1 (subst (λ x. RunsAll (n + 1) x ms2 (cs ++ ds) es' b' gs) h.0 r)) in
    record {
      ends = l.ends;
      runs = subst (λ x. RunsAll x m ms ds l.ends b' gs) (one_later n (length cs)) l.runs;
      joined = ap (λ x. noted (n + 1) x ms2 es') h.0 ∙ ap (λ x. noted (n + 1) m1 x es') h.1 ∙ ap (noted (n + 1) m1 ms1) l.joined ∙ noted_before (n + 1) m1 ms1 es l.ends;
    }

-- ---- one call

step_of : {b b' : Bool} {fs gs : List Frame} {p : Call} → Runs b fs (p ∷ []) b' gs → Steps b fs p b' gs
step_of (more s done) = s

-- a hint leaves all, and every other call is the function's
at_hint : (number : ℕ) (now : Progress) (call : Call) → plain_call call ≡ None → next_of_list number now call ≡ Some now
at_hint number now (Call.TagHint tag) e = refl
at_hint number now call e = absurd (cc e)

at_call : (number : ℕ) (now : Progress) (call p : Call) → plain_call call ≡ Some p → next_of_list number now call ≡ option_map (progress number now.ends) (next (before_call now) call)
at_call number now (Call.TagHint tag) p e = absurd (cc e)
at_call number now call p e = refl

-- what a run over one call needs
one_goes : (n number : ℕ) (now : Progress) (call : Call) {es : List ℕ} {b : Bool} {fs : List Frame} → RunsAll n now.filled now.frames (call ∷ []) es b fs
    → (after : Progress) × (next_of_list number now call ≡ Some after)
one_goes n number now call (all.hint c e r) = (now, at_hint number now call e)
one_goes n number now call (all.more c p m ms e s r) =
    let old = before_call now in
    let new : State = record { filled = m; frames = ms } in
    let k = goes_next old new call (subst (λ x. Runs old.filled old.frames x m ms) (sym (plain_some call p [] e)) (more s done)) in
    (progress number now.ends new, at_call number now call p e ∙ ap (λ o. option_map (progress number now.ends) o) k)

noted_last : (n : ℕ) (state : State) (ends : List ℕ) → (progress n ends state).ends ≡ ends ++ noted n state.filled state.frames []
noted_last n state ends = by_state state.filled state.frames
  where
    by_state : (b : Bool) (fs : List Frame) → (progress n ends (record { filled = b; frames = fs })).ends ≡ ends ++ noted n b fs []
    by_state true [] = refl
    by_state false [] = sym (append-nil ends)
    by_state b (f ∷ fs) = sym (append-nil ends)

goes_further : (calls : List Call) (call p : Call) (now : Progress) (state : State) → plain_call call ≡ Some p → kept_all calls now → next (before_call now) call ≡ Some state
    → kept_all (calls ++ (call ∷ [])) (progress (length calls + 1) now.ends state)
goes_further calls call p now state e r k =
    let step = step_of (subst (λ x. Runs (ready now.filled now.frames) now.frames x state.filled state.frames) (plain_some call p [] e) (next_goes (before_call now) state call k)) in
    let run = runs_joined (call ∷ []) (noted (0 + length calls + 1) state.filled state.frames []) r (all.more call p state.filled state.frames e step all.done) in
    let number : 0 + length calls ≡ length calls = omega arith in
    let same : now.ends ++ noted (0 + length calls + 1) state.filled state.frames [] ≡ (progress (length calls + 1) now.ends state).ends =
    ap (λ x. now.ends ++ noted (x + 1) state.filled state.frames []) number ∙ sym (noted_last (length calls + 1) state now.ends) in
    subst (λ x. RunsAll 0 false [] (calls ++ (call ∷ [])) x state.filled state.frames) same run

one_call_more : (calls : List Call) (call : Call) (now after : Progress) → kept_all calls now → next_of_list (length calls + 1) now call ≡ Some after → kept_all (calls ++ (call ∷ [])) after
one_call_more calls call now after r k = by_call (plain_call call) refl
  where
    by_call : (o : Option Call) → plain_call call ≡ o → kept_all (calls ++ (call ∷ [])) after
    by_call None e =
        let h : Some now ≡ Some after = sym (at_hint (length calls + 1) now call e) ∙ k in
        let same : now ≡ after = cc h in
        subst (λ (x : Progress). kept_all (calls ++ (call ∷ [])) x) same
        (subst (λ x. RunsAll 0 false [] (calls ++ (call ∷ [])) x now.filled now.frames) (append-nil now.ends) (runs_joined (call ∷ []) [] r (all.hint call e all.done)))
    by_call (Some p) e =
        let w = some_mapped (progress (length calls + 1) now.ends) (next (before_call now) call) after (sym (at_call (length calls + 1) now call p e) ∙ k) in
        subst (λ (x : Progress). kept_all (calls ++ (call ∷ [])) x) w.2 (goes_further calls call p now w.0 e r w.1)

pub next_of_list_is_viable : (calls : List Call) (call : Call) (now after : Progress) → kept_all calls now → next_of_list (length calls + 1) now call ≡ Some after
    → IsViableAll (calls ++ (call ∷ [])) × kept_all (calls ++ (call ∷ [])) after
next_of_list_is_viable calls call now after r k = let q = one_call_more calls call now after r k in (taken_list_is_viable (calls ++ (call ∷ [])) after q, q)

pub viable_is_next_of_list : (calls : List Call) (call : Call) (now : Progress) → kept_all calls now → IsViableAll (calls ++ (call ∷ []))
    → (after : Progress) × (next_of_list (length calls + 1) now call ≡ Some after)
viable_is_next_of_list calls call now r v =
    let k = viable_list_is_taken (calls ++ (call ∷ [])) v in
    let l = runs_after (call ∷ []) r k.1 in one_goes (0 + length calls) (length calls + 1) now call l.runs
