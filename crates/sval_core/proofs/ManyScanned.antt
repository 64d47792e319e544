-- Calls are taken by the machine for lists, or have one first call that no list of values goes on with.
use Rattle.std.specs.Prelude.{◌≡◌, ℕ, ◌+◌, ◌⊎◌, Bool, List, [], ◌∷◌, ◌++◌, Option, Some, None, refl}
use Rattle.std.proofs.Common.{sym, ap, ◌∙◌, subst, inl, inr, append_assoc}
use Rattle.sval_label.specs.Calls.{Call}
use Rattle.sval_core.specs.Spells.{plain_call}
use Rattle.sval_core.specs.Checker.{Frame, Steps}
use Rattle.sval_core.specs.Many.{IsViableAll}
use Rattle.sval_core.specs.ManyChecker as all
use Rattle.sval_core.specs.ManyChecker.{ready, noted, RunsAll}
use Rattle.sval_core.proofs.Determined.{steps_determined}
use Rattle.sval_core.proofs.Decided.{Or, Stepped, step_dec}
use Rattle.sval_core.proofs.FirstBad.{Meet, same_front, before, after, fronts_meet}
use Rattle.sval_core.proofs.ManySpellings.{list_front_is_viable}

-- ---- all calls are taken, or a first one is not

pub record StoppedAll (n : ℕ) (b : Bool) (fs : List Frame) (calls : List Call) : Type 0 where
  pub front : List Call
  pub call : Call
  pub rest : List Call
  pub whole : calls ≡ front ++ (call ∷ rest)
  pub filled : Bool
  pub frames : List Frame
  pub ends : List ℕ
  pub runs : RunsAll n b fs front ends filled frames
  pub stops : (es : List ℕ) (b' : Bool) (fs' : List Frame) → RunsAll n b fs (front ++ (call ∷ [])) es b' fs' → ⊥

abbrev pub RanAll : ℕ → Bool → List Frame → List Call → Type 0
RanAll n b fs calls = (b' : Bool) × (fs' : List Frame) × (ends : List ℕ) × RunsAll n b fs calls ends b' fs'

pub after_hint : {n : ℕ} {b b' : Bool} {fs gs : List Frame} {c : Call} {cs : List Call} {es : List ℕ} → plain_call c ≡ None → RunsAll n b fs (c ∷ cs) es b' gs → RanAll (n + 1) b fs cs
after_hint {b' = b'} {gs = gs} h (all.hint {es = es} c e r) = (b', gs, es, r)
after_hint h (all.more c p m ms e s r) = let f : None ≡ Some p = sym h ∙ e in absurd (cc f)

pub after_step : {n : ℕ} {b b' m : Bool} {fs gs ms : List Frame} {c p : Call} {cs : List Call} {es : List ℕ} → plain_call c ≡ Some p → Steps (ready b fs) fs p m ms → RunsAll n b fs (c ∷ cs) es b' gs
    → RanAll (n + 1) m ms cs
after_step {p = p} h s (all.hint c e r) = let f : None ≡ Some p = sym e ∙ h in absurd (cc f)
after_step {n} {b} {b'} {m} {fs} {gs} {ms} {p = p} h s (all.more {cs = cs} {es = es} c p' m' ms' e s' r) =
    let f : Some p' ≡ Some p = sym e ∙ h in
    let g : p' ≡ p = cc f in
    let k = steps_determined (subst (λ x. Steps (ready b fs) fs x m' ms') g s') s in
    (b', gs, es, subst (λ x. RunsAll (n + 1) m x cs es b' gs) k.1 (subst (λ x. RunsAll (n + 1) x ms' cs es b' gs) k.0 r))

pub not_taken : {n : ℕ} {b b' : Bool} {fs gs : List Frame} {c p : Call} {cs : List Call} {es : List ℕ} → plain_call c ≡ Some p → (Stepped (ready b fs) fs p → ⊥) → RunsAll n b fs (c ∷ cs) es b' gs → ⊥
not_taken {p = p} h refuses (all.hint c e r) = let f : None ≡ Some p = sym e ∙ h in absurd (cc f)
not_taken {b = b} {fs = fs} {p = p} h refuses (all.more c p' m ms e s r) =
    let f : Some p' ≡ Some p = sym e ∙ h in
    let g : p' ≡ p = cc f in
    refuses (m, ms, subst (λ x. Steps (ready b fs) fs x m ms) g s)

scan_hint : (n : ℕ) (b : Bool) (fs : List Frame) (c : Call) (cs : List Call) → plain_call c ≡ None → RanAll (n + 1) b fs cs ⊎ StoppedAll (n + 1) b fs cs → RanAll n b fs (c ∷ cs) ⊎ StoppedAll n b fs (c ∷ cs)
scan_hint n b fs c cs e (inl r) = inl (r.0, r.1, r.2, all.hint c e r.3)
scan_hint n b fs c cs e (inr s) = inr (record {
  front = c ∷ s.front;
  call = s.call;
  rest = s.rest;
  whole = ap (λ x. c ∷ x) s.whole;
  filled = s.filled;
  frames = s.frames;
  ends = s.ends;
  runs = all.hint c e s.runs;
  stops = λ es b' fs' r. let q = after_hint e r in s.stops q.2 q.0 q.1 q.3;
})

scan_step : (n : ℕ) (b m : Bool) (fs ms : List Frame) (c p : Call) (cs : List Call) → plain_call c ≡ Some p → Steps (ready b fs) fs p m ms
    → RanAll (n + 1) m ms cs ⊎ StoppedAll (n + 1) m ms cs → RanAll n b fs (c ∷ cs) ⊎ StoppedAll n b fs (c ∷ cs)
scan_step n b m fs ms c p cs e s (inl r) = inl (r.0, r.1, noted (n + 1) m ms r.2, all.more c p m ms e s r.3)
scan_step n b m fs ms c p cs e s (inr t) = inr (record {
  front = c ∷ t.front;
  call = t.call;
  rest = t.rest;
  whole = ap (λ x. c ∷ x) t.whole;
  filled = t.filled;
  frames = t.frames;
  ends = noted (n + 1) m ms t.ends;
  runs = all.more c p m ms e s t.runs;
  stops = λ es b' fs' r. let q = after_step e s r in t.stops q.2 q.0 q.1 q.3;
})

scan_stop : (n : ℕ) (b : Bool) (fs : List Frame) (c p : Call) (cs : List Call) → plain_call c ≡ Some p → (Stepped (ready b fs) fs p → ⊥) → StoppedAll n b fs (c ∷ cs)
scan_stop n b fs c p cs e refuses = record {
  front = [];
  call = c;
  rest = cs;
  whole = refl;
  filled = b;
  frames = fs;
  ends = [];
  runs = all.done;
  stops = λ es b' fs' r. not_taken e refuses r;
}

pub scanned_all : (calls : List Call) (n : ℕ) (b : Bool) (fs : List Frame) → RanAll n b fs calls ⊎ StoppedAll n b fs calls
scanned_all [] n b fs = inl (b, fs, [], all.done)
scanned_all (c ∷ cs) n b fs = by_call (λ m ms. scanned_all cs (n + 1) m ms) (plain_call c) refl
  where
    by_step : ((m : Bool) (ms : List Frame) → RanAll (n + 1) m ms cs ⊎ StoppedAll (n + 1) m ms cs) → (p : Call) → plain_call c ≡ Some p → Or (Stepped (ready b fs) fs p)
        → RanAll n b fs (c ∷ cs) ⊎ StoppedAll n b fs (c ∷ cs)
    by_step next p e (inl s) = scan_step n b s.0 fs s.1 c p cs e s.2 (next s.0 s.1)
    by_step next p e (inr refuses) = inr (scan_stop n b fs c p cs e refuses)

    by_call : ((m : Bool) (ms : List Frame) → RanAll (n + 1) m ms cs ⊎ StoppedAll (n + 1) m ms cs) → (o : Option Call) → plain_call c ≡ o → RanAll n b fs (c ∷ cs) ⊎ StoppedAll n b fs (c ∷ cs)
    by_call next None e = scan_hint n b fs c cs e (next b fs)
    by_call next (Some p) e = by_step next p e (step_dec (ready b fs) fs c p e)

-- ---- there is one first bad call at most

same_list_front : {front other : List Call} {call next : Call} → IsViableAll front → (IsViableAll (front ++ (call ∷ [])) → ⊥) → IsViableAll other → (IsViableAll (other ++ (next ∷ [])) → ⊥) → Meet front call other next
    → front ≡ other
same_list_front v n w m (same_front e) = e
same_list_front {front = front} {call = call} v n w m (before others e) = absurd (n (list_front_is_viable (front ++ (call ∷ [])) others (subst IsViableAll e w)))
same_list_front {other = other} {next = next} v n w m (after others e) = absurd (m (list_front_is_viable (other ++ (next ∷ [])) others (subst IsViableAll e v)))

pub one_first_bad_of_lists : {calls : List Call} (front other : List Call) (call next : Call) (rest last : List Call) → calls ≡ front ++ (call ∷ rest) → calls ≡ other ++ (next ∷ last)
    → IsViableAll front → (IsViableAll (front ++ (call ∷ [])) → ⊥) → IsViableAll other → (IsViableAll (other ++ (next ∷ [])) → ⊥) → front ≡ other
one_first_bad_of_lists front other call next rest last e f v n w m = same_list_front v n w m (fronts_meet front other call next rest last (sym e ∙ f))

pub none_bad_of_lists : (calls front rest : List Call) (call : Call) → calls ≡ front ++ (call ∷ rest) → IsViableAll calls → (IsViableAll (front ++ (call ∷ [])) → ⊥) → ⊥
none_bad_of_lists calls front rest call e v n = n (list_front_is_viable (front ++ (call ∷ [])) rest (subst IsViableAll (e ∙ sym (append_assoc front (call ∷ []) rest)) v))
