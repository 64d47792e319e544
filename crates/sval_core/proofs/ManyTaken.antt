-- Which calls the machine for lists takes, and that it stands in one state after them.
use Rattle.std.specs.Prelude.{◌≡◌, ℕ, suc, ◌+◌, ◌⊎◌, Bool, true, false, List, [], ◌∷◌, ◌++◌, length, Option, Some, None, refl}
use Rattle.std.proofs.Common.{sym, ap, ◌∙◌, subst, inl, inr, arith, add-zero, append_assoc}
use Rattle.sval_label.specs.Calls.{Call}
use Rattle.sval_core.specs.Trees.{Tree}
use Rattle.sval_core.specs.Spells.{Says, Spells, plain, plain_call}
use Rattle.sval_core.specs.Checker.{Frame, Steps}
use Rattle.sval_core.specs.Many.{SpellsAll, IsViableAll, IsNoHint, EndAfter, AreEnds}
use Rattle.sval_core.specs.ManyChecker as all
use Rattle.sval_core.specs.ManyChecker.{ready, noted, RunsAll, Progress, kept_all}
use Rattle.sval_core.proofs.Completions.{taken_is_viable, run_is_spelling}
use Rattle.sval_core.proofs.Determined.{steps_determined}
use Rattle.sval_core.proofs.ManySpellings.{nothing_said, one_is_list, same_plain, hints_first, hints_last}
use Rattle.sval_core.proofs.ManyRuns.{Cut, never, first, cut, plain_none, no_hint}
use Rattle.sval_core.proofs.ManyEnds.{rest_of_list, ends_of_run, spelled_by_ends, run_of_ends}

-- ---- calls that spell trees have ends

-- the last call that is no hint
record Last (calls : List Call) : Type 0 where
  front : List Call
  last : Call
  hints : List Call
  whole : calls ≡ front ++ (last ∷ hints)
  counts : IsNoHint last
  after : plain hints ≡ []

last_or_none : (calls : List Call) → (plain calls ≡ []) ⊎ Last calls
last_or_none [] = inl refl
last_or_none (c ∷ cs) = by_rest (last_or_none cs)
  where
    by_call : plain cs ≡ [] → (o : Option Call) → plain_call c ≡ o → (plain (c ∷ cs) ≡ []) ⊎ Last (c ∷ cs)
    by_call e None h = inl (plain_none c cs h ∙ e)
    by_call e (Some p) h = inr (record { front = []; last = c; hints = cs; whole = refl; counts = no_hint c p h; after = e })

    by_rest : (plain cs ≡ []) ⊎ Last cs → (plain (c ∷ cs) ≡ []) ⊎ Last (c ∷ cs)
    by_rest (inl e) = by_call e (plain_call c) refl
    by_rest (inr l) = inr (record { front = c ∷ l.front; last = l.last; hints = l.hints; whole = ap (λ x. c ∷ x) l.whole; counts = l.counts; after = l.after })

hints_before : (hints rest : List Call) (trees : List Tree) → plain hints ≡ [] → SpellsAll rest trees → SpellsAll (hints ++ rest) trees
hints_before hints rest [] e s = hints_first hints rest e ∙ s
hints_before hints rest (t ∷ ts) e s =
    (hints ++ s.0, s.1, ap (λ x. hints ++ x) s.2 ∙ sym (append_assoc hints s.0 s.1), same_plain s.0 (hints ++ s.0) t (sym (hints_first hints s.0 e)) s.3, s.4)

no_tree_of_hints : (calls : List Call) (t : Tree) → Spells calls t → plain calls ≡ [] → ⊥
no_tree_of_hints calls t s e = nothing_said t [] (subst (λ c. Says t c []) e s.1)

ends_of_spelled : (trees : List Tree) (n : ℕ) (calls : List Call) → SpellsAll calls trees → (ends : List ℕ) × EndAfter n calls trees ends
ends_of_spelled [] n calls s = ([], (s, refl))
ends_of_spelled (t ∷ ts) n calls s = by_last (λ m cs h. ends_of_spelled ts m cs h) (last_or_none s.0)
  where
    by_last : ((m : ℕ) (cs : List Call) → SpellsAll cs ts → (ends : List ℕ) × EndAfter m cs ts ends)
        → (plain s.0 ≡ []) ⊎ Last s.0 → (ends : List ℕ) × EndAfter n calls (t ∷ ts) ends
    by_last next (inl e) = absurd (no_tree_of_hints s.0 t s.3 e)
    by_last next (inr l) =
        let rest = l.hints ++ s.1 in
        let later = next (n + length l.front + 1) rest (hints_before l.hints s.1 ts l.after s.4) in
        let whole : calls ≡ l.front ++ (l.last ∷ rest) = s.2 ∙ ap (λ x. x ++ s.1) l.whole ∙ append_assoc l.front (l.last ∷ l.hints) s.1 in
        let same : plain s.0 ≡ plain (l.front ++ (l.last ∷ [])) =
        ap plain (l.whole ∙ sym (append_assoc l.front (l.last ∷ []) l.hints)) ∙ hints_last (l.front ++ (l.last ∷ [])) l.hints l.after in
        ((n + length l.front + 1) ∷ later.0, (l.front, l.last, rest, later.0, whole, l.counts, same_plain s.0 (l.front ++ (l.last ∷ [])) t same s.3, refl, later.1))

-- ---- one state

runs_all_determined : {n : ℕ} {b b1 b2 : Bool} {fs fs1 fs2 : List Frame} {cs : List Call} {es1 es2 : List ℕ} → RunsAll n b fs cs es1 b1 fs1 → RunsAll n b fs cs es2 b2 fs2
    → (es1 ≡ es2) × (b1 ≡ b2) × (fs1 ≡ fs2)
runs_all_determined all.done all.done = (refl, refl, refl)
runs_all_determined (all.hint c e r) (all.hint c' e' r') = runs_all_determined r r'
runs_all_determined (all.hint c e r) (all.more c' p b' fs' e' s r') = let f : None ≡ Some p = sym e ∙ e' in absurd (cc f)
runs_all_determined (all.more c p b' fs' e s r) (all.hint c' e' r') = let f : None ≡ Some p = sym e' ∙ e in absurd (cc f)
runs_all_determined {n} {b} {b2 = b2} {fs} {fs2 = fs2} (all.more {cs = cs} {es = es} c p m ms e s r) (all.more {es = es'} c' p' m' ms' e' s' r') =
    let f : Some p' ≡ Some p = sym e' ∙ e in
    let g : p' ≡ p = cc f in
    let h = steps_determined s (subst (λ x. Steps (ready b fs) fs x m' ms') g s') in
    let k = runs_all_determined r (subst (λ x. RunsAll (n + 1) m x cs es' b2 fs2) (sym h.1) (subst (λ x. RunsAll (n + 1) x ms' cs es' b2 fs2) (sym h.0) r')) in
    (ap (λ x. noted (n + 1) m ms x) k.0 ∙ ap (λ x. noted (n + 1) x ms es') h.0 ∙ ap (λ x. noted (n + 1) m' x es') h.1, k.1, k.2)

same_progress : (now other : Progress) → (now.ends ≡ other.ends) × (now.filled ≡ other.filled) × (now.frames ≡ other.frames) → now ≡ other
same_progress now other e =
    ap (λ (x : List ℕ). let state : Progress = record { filled = now.filled; frames = now.frames; ends = x } in state) e.0
    ∙ ap (λ (x : Bool). let state : Progress = record { filled = x; frames = now.frames; ends = other.ends } in state) e.1
    ∙ ap (λ (x : List Frame). let state : Progress = record { filled = other.filled; frames = x; ends = other.ends } in state) e.2

pub one_progress : (calls : List Call) (now other : Progress) → kept_all calls now → kept_all calls other → now ≡ other
one_progress calls now other r r' = same_progress now other (runs_all_determined r r')

-- ---- what is taken

front_run : (cs ds : List Call) {n : ℕ} {b b' : Bool} {fs gs : List Frame} {es : List ℕ} → RunsAll n b fs (cs ++ ds) es b' gs
    → (m : Bool) × (ms : List Frame) × (ends : List ℕ) × RunsAll n b fs cs ends m ms
front_run [] ds {b = b} {fs = fs} r = (b, fs, [], all.done)
front_run (c ∷ cs) ds (all.hint c' e r) = let q = front_run cs ds r in (q.0, q.1, q.2, all.hint c e q.3)
front_run (c ∷ cs) ds {n} (all.more c' p m ms e s r) = let q = front_run cs ds r in (q.0, q.1, noted (n + 1) m ms q.2, all.more c p m ms e s q.3)

pub viable_list_is_taken : (calls : List Call) → IsViableAll calls → (now : Progress) × kept_all calls now
viable_list_is_taken calls v =
    let ends = ends_of_spelled v.1 0 (calls ++ v.0) v.2 in
    let r = run_of_ends v.1 0 (calls ++ v.0) ends.0 false ends.1 in
    let q = front_run calls v.0 r.1 in
    (record { filled = q.0; frames = q.1; ends = q.2 }, q.3)

viable_of_run : (es : List ℕ) (n : ℕ) (calls : List Call) (s b : Bool) (gs : List Frame) → RunsAll n s [] calls es b gs → IsViableAll calls
viable_of_run [] n calls s b gs r = by_cut (cut r)
  where
    by_cut : Cut n s [] calls [] b gs → IsViableAll calls
    by_cut (never m q w k) = let v = taken_is_viable calls (m, gs, q) in (v.0, v.1 ∷ [], one_is_list (calls ++ v.0) v.1 v.2)
    by_cut (first front rest last others d h q a k) = absurd (cc k)
viable_of_run (e ∷ es) n calls s b gs r = by_cut (λ m cs q. viable_of_run es m cs true b gs q) (cut r)
  where
    by_cut : ((m : ℕ) (cs : List Call) → RunsAll m true [] cs es b gs → IsViableAll cs) → Cut n s [] calls (e ∷ es) b gs → IsViableAll calls
    by_cut next (never m q w k) = absurd (cc k)
    by_cut next (first front rest last others d h q a k) =
        let same : es ≡ others = rest_of_list e (n + length front + 1) es others k in
        let t = run_is_spelling (front ++ (last ∷ [])) q in
        let v = next (n + length front + 1) rest (subst (λ x. RunsAll (n + length front + 1) true [] rest x b gs) (sym same) a) in
        let whole : calls ++ v.0 ≡ (front ++ (last ∷ [])) ++ (rest ++ v.0) =
        ap (λ x. x ++ v.0) (d ∙ sym (append_assoc front (last ∷ []) rest)) ∙ append_assoc (front ++ (last ∷ [])) rest v.0 in
        (v.0, t.0 ∷ v.1, (front ++ (last ∷ []), rest ++ v.0, whole, t.1, v.2))

pub taken_list_is_viable : (calls : List Call) (now : Progress) → kept_all calls now → IsViableAll calls
taken_list_is_viable calls now r = viable_of_run now.ends 0 calls false now.filled now.frames r

-- ---- where trees end

pub ends_with_trees : (calls : List Call) (now : Progress) → kept_all calls now → now.frames ≡ [] → (trees : List Tree) × SpellsAll calls trees × AreEnds calls trees now.ends
ends_with_trees calls now r e =
    let t = ends_of_run now.ends 0 calls false now.filled (subst (λ x. RunsAll 0 false [] calls now.ends now.filled x) e r) in
    (t.0, spelled_by_ends t.0 0 calls now.ends t.1, t.1)

pub trees_end : (calls : List Call) (now : Progress) → kept_all calls now → (trees : List Tree) → SpellsAll calls trees → now.frames ≡ []
trees_end calls now r trees s =
    let ends = ends_of_spelled trees 0 calls s in
    let q = run_of_ends trees 0 calls ends.0 false ends.1 in
    (runs_all_determined r q.1).2

pub one_list_of_ends : (calls : List Call) (trees : List Tree) → SpellsAll calls trees
    → (ends : List ℕ) × AreEnds calls trees ends × ((other : List ℕ) → AreEnds calls trees other → ends ≡ other)
one_list_of_ends calls trees s =
    let ends = ends_of_spelled trees 0 calls s in
    let r = run_of_ends trees 0 calls ends.0 false ends.1 in
    (ends.0, ends.1, λ other h. (runs_all_determined r.1 (run_of_ends trees 0 calls other false h).1).0)

-- ---- further calls

noted_before : (n : ℕ) (b : Bool) (fs : List Frame) (es more : List ℕ) → noted n b fs (es ++ more) ≡ noted n b fs es ++ more
noted_before n true [] es more = refl
noted_before n false [] es more = refl
noted_before n b (f ∷ fs) es more = refl

one_later : (n k : ℕ) → n + suc k ≡ (n + 1) + k
one_later n k = omega arith

-- a run, and then another one
pub runs_joined : {n : ℕ} {b m b' : Bool} {fs ms gs : List Frame} {cs : List Call} {es : List ℕ} (ds : List Call) (fs' : List ℕ) → RunsAll n b fs cs es m ms
    → RunsAll (n + length cs) m ms ds fs' b' gs → RunsAll n b fs (cs ++ ds) (es ++ fs') b' gs
runs_joined {n} {b} {b' = b'} {fs = fs} {gs = gs} ds more all.done r = subst (λ x. RunsAll x b fs ds more b' gs) (add-zero n) r
runs_joined {n} {m = m} {b'} {ms = ms} {gs} ds more (all.hint {cs = cs} c e q) r =
    all.hint c e (runs_joined ds more q (subst (λ x. RunsAll x m ms ds more b' gs) (one_later n (length cs)) r))
runs_joined {n} {b} {m} {b'} {fs} {ms} {gs} ds more (all.more {cs = cs} {es = es} c p m1 ms1 e s q) r =
    subst (λ x. RunsAll n b fs (c ∷ (cs ++ ds)) x b' gs) (noted_before (n + 1) m1 ms1 es more)
    (all.more c p m1 ms1 e s (runs_joined ds more q (subst (λ x. RunsAll x m ms ds more b' gs) (one_later n (length cs)) r)))
