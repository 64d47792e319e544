-- The machine for lists takes exactly the calls that can be completed to a list of trees, and knows where each tree ends.
use Rattle.std.specs.Prelude.{◌≡◌, ℕ, suc, ◌+◌, Bool, true, false, List, [], ◌∷◌, ◌++◌, length, Option, Some, None, refl}
use Rattle.std.proofs.Common.{sym, ◌∙◌, subst, arith, append_assoc}
use Rattle.sval_label.specs.Calls.{Call}
use Rattle.sval_core.specs.Trees.{Tree}
use Rattle.sval_core.specs.Spells.{plain, plain_call}
use Rattle.sval_core.specs.Checker.{Frame, Steps, Runs}
use Rattle.sval_core.specs.Many.{SpellsAll, IsNoHint, EndAfter}
use Rattle.sval_core.specs.ManyChecker as all
use Rattle.sval_core.specs.ManyChecker.{is_whole_value, ready, noted, RunsAll, Progress, kept_all}
use Rattle.sval_core.proofs.Completions.{spelling_is_run, run_is_spelling}
use Rattle.sval_core.proofs.ManyRuns.{Cut, never, first, cut, no_empty_end, plain_none, plain_some, counts}
use Rattle.sval_core.proofs.Determined.{no_more, first_step, only_step}

-- ---- where nothing is left open, trees were spelled

pub rest_of_list : (e e' : ℕ) (es es' : List ℕ) → (e ∷ es) ≡ (e' ∷ es') → es ≡ es'
rest_of_list e e' es es' h = cc h

pub ends_of_run : (es : List ℕ) (n : ℕ) (calls : List Call) (s b : Bool) → RunsAll n s [] calls es b [] → (trees : List Tree) × EndAfter n calls trees es
ends_of_run [] n calls s b r = by_cut (cut r)
  where
    by_cut : Cut n s [] calls [] b [] → (trees : List Tree) × EndAfter n calls trees []
    by_cut (never true q w k) = absurd (cc w)
    by_cut (never false q w k) = ([], (no_empty_end q tt refl refl, refl))
    by_cut (first front rest last others d h q a k) = absurd (cc k)
ends_of_run (e ∷ es) n calls s b r = by_cut (λ m cs q. ends_of_run es m cs true b q) (cut r)
  where
    by_cut : ((m : ℕ) (cs : List Call) → RunsAll m true [] cs es b [] → (trees : List Tree) × EndAfter m cs trees es)
        → Cut n s [] calls (e ∷ es) b [] → (trees : List Tree) × EndAfter n calls trees (e ∷ es)
    by_cut next (never m q w k) = absurd (cc k)
    by_cut next (first front rest last others d h q a k) =
        let same : es ≡ others = rest_of_list e (n + length front + 1) es others k in
        let t = run_is_spelling (front ++ (last ∷ [])) q in
        let later = next (n + length front + 1) rest (subst (λ x. RunsAll (n + length front + 1) true [] rest x b []) (sym same) a) in
        (t.0 ∷ later.0, (front, last, rest, others, d, h, t.1, k, subst (λ x. EndAfter (n + length front + 1) rest later.0 x) same later.1))

pub spelled_by_ends : (trees : List Tree) (n : ℕ) (calls : List Call) (ends : List ℕ) → EndAfter n calls trees ends → SpellsAll calls trees
spelled_by_ends [] n calls ends h = h.0
spelled_by_ends (t ∷ ts) n calls ends h =
    let rest = h.2 in
    (h.0 ++ (h.1 ∷ []), rest, h.4 ∙ sym (append_assoc h.0 (h.1 ∷ []) rest), h.6, spelled_by_ends ts (n + length h.0 + 1) rest h.3 h.8)

-- ---- and trees that are spelled are run over

hints_run : (calls : List Call) (n : ℕ) (s : Bool) (fs : List Frame) → plain calls ≡ [] → RunsAll n s fs calls [] s fs
hints_run [] n s fs e = all.done
hints_run (c ∷ cs) n s fs e = by_hint (λ h. hints_run cs (n + 1) s fs h) (plain_call c) refl
  where
    by_hint : (plain cs ≡ [] → RunsAll (n + 1) s fs cs [] s fs) → (o : Option Call) → plain_call c ≡ o → RunsAll n s fs (c ∷ cs) [] s fs
    by_hint next None h = all.hint c h (next (sym (plain_none c cs h) ∙ e))
    by_hint next (Some p) h = let never_so = sym (plain_some c p cs h) ∙ e in absurd (cc never_so)

last_counts : (front : List Call) (last : Call) → IsNoHint last → plain (front ++ (last ∷ [])) ≡ [] → ⊥
last_counts [] last h e = by_hint (plain_call last) refl
  where
    by_hint : (o : Option Call) → plain_call last ≡ o → ⊥
    by_hint None k = h k
    by_hint (Some p) k = let never_so = sym (plain_some last p [] k) ∙ e in absurd (cc never_so)
last_counts (c ∷ front) last h e = by_hint (λ k. last_counts front last h k) (plain_call c) refl
  where
    by_hint : (plain (front ++ (last ∷ [])) ≡ [] → ⊥) → (o : Option Call) → plain_call c ≡ o → ⊥
    by_hint next None k = next (sym (plain_none c (front ++ (last ∷ [])) k) ∙ e)
    by_hint next (Some p) k = let never_so = sym (plain_some c p (front ++ (last ∷ [])) k) ∙ e in absurd (cc never_so)

-- a tree, and then more
module _ (last : Call) (is_call : IsNoHint last) (rest : List Call) (es : List ℕ) (b' : Bool) (gs : List Frame) where
  abbrev FromAll : List Call → ℕ → Type 0
  FromAll front n = (b : Bool) (fs : List Frame) → Runs (ready b fs) fs (plain (front ++ (last ∷ []))) true []
      → RunsAll n b fs (front ++ (last ∷ rest)) ((n + length front + 1) ∷ es) b' gs

  tree_then : (front : List Call) (n : ℕ) (b : Bool) (fs : List Frame) → Runs (ready b fs) fs (plain (front ++ (last ∷ []))) true []
      → RunsAll (n + length front + 1) true [] rest es b' gs → RunsAll n b fs (front ++ (last ∷ rest)) ((n + length front + 1) ∷ es) b' gs
  tree_then [] n b fs r a = by_hint (plain_call last) refl
    where
      by_hint : (o : Option Call) → plain_call last ≡ o → RunsAll n b fs (last ∷ rest) ((n + 0 + 1) ∷ es) b' gs
      by_hint None k = absurd (is_call k)
      by_hint (Some p) k =
          let same : n + 0 + 1 ≡ n + 1 = omega arith in
          let s = only_step (subst (λ x. Runs (ready b fs) fs x true []) (plain_some last p [] k) r) in
          subst (λ x. RunsAll n b fs (last ∷ rest) (x ∷ es) b' gs) (sym same) (all.more last p true [] k s (subst (λ x. RunsAll x true [] rest es b' gs) same a))
  tree_then (c ∷ front) n b fs r a = by_hint (λ m ms q. tree_then front (n + 1) m ms q later) (plain_call c) refl
    where
      later : RunsAll ((n + 1) + length front + 1) true [] rest es b' gs
      later = subst (λ x. RunsAll x true [] rest es b' gs) (sym (counts n (length front))) a

      numbered : RunsAll n b fs (c ∷ (front ++ (last ∷ rest))) (((n + 1) + length front + 1) ∷ es) b' gs → RunsAll n b fs (c ∷ (front ++ (last ∷ rest))) ((n + suc (length front) + 1) ∷ es) b' gs
      numbered q = subst (λ x. RunsAll n b fs (c ∷ (front ++ (last ∷ rest))) (x ∷ es) b' gs) (counts n (length front)) q

      by_state : FromAll front (n + 1) → (p : Call) → plain_call c ≡ Some p → (m : Bool) (ms : List Frame) → Steps (ready b fs) fs p m ms → Runs m ms (plain (front ++ (last ∷ []))) true []
          → RunsAll n b fs (c ∷ (front ++ (last ∷ rest))) (((n + 1) + length front + 1) ∷ es) b' gs
      by_state next p k true [] s q = absurd (last_counts front last is_call (no_more q))
      by_state next p k false [] s q = all.more c p false [] k s (next false [] q)
      by_state next p k true (f ∷ ms) s q = all.more c p true (f ∷ ms) k s (next true (f ∷ ms) q)
      by_state next p k false (f ∷ ms) s q = all.more c p false (f ∷ ms) k s (next false (f ∷ ms) q)

      by_hint : FromAll front (n + 1) → (o : Option Call) → plain_call c ≡ o → RunsAll n b fs (c ∷ (front ++ (last ∷ rest))) ((n + suc (length front) + 1) ∷ es) b' gs
      by_hint next None k = numbered (all.hint c k (next b fs (subst (λ x. Runs (ready b fs) fs x true []) (plain_none c (front ++ (last ∷ [])) k) r)))
      by_hint next (Some p) k =
          let q = first_step (subst (λ x. Runs (ready b fs) fs x true []) (plain_some c p (front ++ (last ∷ [])) k) r) in
          numbered (by_state next p k q.0 q.1 q.2 q.3)

pub run_of_ends : (trees : List Tree) (n : ℕ) (calls : List Call) (ends : List ℕ) (s : Bool) → EndAfter n calls trees ends → (b : Bool) × RunsAll n s [] calls ends b []
run_of_ends [] n calls ends s h = (s, subst (λ x. RunsAll n s [] calls x s []) (sym h.1) (hints_run calls n s [] h.0))
run_of_ends (t ∷ ts) n calls ends s h =
    let later = run_of_ends ts (n + length h.0 + 1) h.2 h.3 true h.8 in
    let r = tree_then h.1 h.5 h.2 h.3 later.0 [] h.0 n s [] (spelling_is_run (h.0 ++ (h.1 ∷ [])) t h.6) later.1 in
    (later.0, subst (λ x. RunsAll n s [] x ends later.0 []) (sym h.4) (subst (λ x. RunsAll n s [] (h.0 ++ (h.1 ∷ h.2)) x later.0 []) (sym h.7) r))
