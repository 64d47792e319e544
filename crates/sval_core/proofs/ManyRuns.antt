-- A run of the machine for lists begins with a run over one tree.
use Rattle.std.specs.Prelude.{◌≡◌, ℕ, suc, ◌+◌, Bool, true, false, List, [], ◌∷◌, ◌++◌, length, Some, None, refl}
use Rattle.std.specs.List.{cons_option}
use Rattle.std.proofs.Common.{sym, ap, ◌∙◌, subst, arith}
use Rattle.sval_label.specs.Calls.{Call}
use Rattle.sval_core.specs.Spells.{plain, plain_call}
use Rattle.sval_core.specs.Checker.{Frame, InText, InBinary, InTagged, InEnum, InContainer, InPart, Steps, null, truth, int, standalone, text_begin, text_fragment, text_end, binary_begin, binary_fragment, binary_end, tagged_begin, tagged_end, enum_begin, enum_end, begin, end, part_begin, part_end, Runs, done, more}
use Rattle.sval_core.specs.Many.{IsNoHint}
use Rattle.sval_core.specs.ManyChecker as all
use Rattle.sval_core.specs.ManyChecker.{is_whole_value, ready, noted, RunsAll, Progress, kept_all}

-- ---- what begins stands on something: a part in its container

abbrev IsFounded : List Frame → Type 0
IsFounded [] = Unit {0}
IsFounded (InPart slot ∷ []) = ⊥
IsFounded (frame ∷ frames) = IsFounded frames

founded_rest : (f : Frame) (fs : List Frame) → IsFounded (f ∷ fs) → IsFounded fs
founded_rest f [] h = tt
founded_rest (InText _) (g ∷ fs) h = h
founded_rest (InBinary _) (g ∷ fs) h = h
founded_rest (InTagged _) (g ∷ fs) h = h
founded_rest (InEnum _) (g ∷ fs) h = h
founded_rest (InContainer _ _ _) (g ∷ fs) h = h
founded_rest (InPart _) (g ∷ fs) h = h

founded_on : (f g : Frame) (fs : List Frame) → IsFounded (g ∷ fs) → IsFounded (f ∷ g ∷ fs)
founded_on (InText _) g fs h = h
founded_on (InBinary _) g fs h = h
founded_on (InTagged _) g fs h = h
founded_on (InEnum _) g fs h = h
founded_on (InContainer _ _ _) g fs h = h
founded_on (InPart _) g fs h = h

founded_step : {b b' : Bool} {fs fs' : List Frame} {c : Call} → Steps b fs c b' fs' → IsFounded fs → IsFounded fs'
founded_step (null _) h = h
founded_step (truth _) h = h
founded_step (int _) h = h
founded_step (standalone _ _) h = h
founded_step (text_begin _) h = h
founded_step (text_fragment _) h = h
founded_step (text_end _) h = h
founded_step (binary_begin _) h = h
founded_step (binary_fragment _) h = h
founded_step (binary_end _) h = h
founded_step (tagged_begin _ _) h = h
founded_step (tagged_end _) h = h
founded_step (enum_begin _ _) h = h
founded_step (enum_end _) h = h
founded_step (begin _ _) h = h
founded_step (end _ _ _) h = h
founded_step (part_begin _ _ _) h = h
founded_step (part_end {fs} {slot} _) h = founded_rest (InPart slot) fs h

-- a call that leaves nothing begun leaves a whole value
not_empty : {b : Bool} {fs : List Frame} {c : Call} {b' : Bool} {fs' : List Frame} → Steps b fs c b' fs' → IsFounded fs → b' ≡ false → fs' ≡ [] → ⊥
not_empty (null _) h e f = cc e
not_empty (truth _) h e f = cc e
not_empty (int _) h e f = cc e
not_empty (standalone _ _) h e f = cc e
not_empty (text_begin _) h e f = cc f
not_empty (text_fragment _) h e f = cc f
not_empty (text_end _) h e f = cc e
not_empty (binary_begin _) h e f = cc f
not_empty (binary_fragment _) h e f = cc f
not_empty (binary_end _) h e f = cc e
not_empty (tagged_begin _ _) h e f = cc f
not_empty (tagged_end _) h e f = cc e
not_empty (enum_begin _ _) h e f = cc f
not_empty (enum_end _) h e f = cc e
not_empty (begin _ _) h e f = cc f
not_empty (end _ _ _) h e f = cc e
not_empty (part_begin _ _ _) h e f = cc f
not_empty (part_end {fs = []} {slot} _) h e f = absurd h
not_empty (part_end {fs = frame ∷ fs} {slot} _) h e f = cc f

pub no_empty_end : {b : Bool} {fs : List Frame} {cs : List Call} {b' : Bool} {fs' : List Frame} → Runs b fs cs b' fs' → IsFounded fs → b' ≡ false → fs' ≡ [] → cs ≡ []
no_empty_end done h e f = refl
no_empty_end (more s done) h e f = absurd (not_empty s h e f)
no_empty_end (more s (more s' r)) h e f = let k = no_empty_end (more s' r) (founded_step s h) e f in absurd (cc k)

-- ---- a run for lists begins with a run over one tree

-- a state in which no whole value stands outside everything goes on as it is
pub ready_as_is : (b : Bool) (fs : List Frame) → is_whole_value b fs ≡ false → ready b fs ≡ b
ready_as_is true [] e = absurd (cc e)
ready_as_is false [] e = refl
ready_as_is b (f ∷ fs) e = refl

ready_is_not_whole : (b : Bool) (fs : List Frame) → is_whole_value (ready b fs) fs ≡ false
ready_is_not_whole b [] = refl
ready_is_not_whole true (f ∷ fs) = refl
ready_is_not_whole false (f ∷ fs) = refl

pub whole_is : (b : Bool) (fs : List Frame) → is_whole_value b fs ≡ true → (b ≡ true) × (fs ≡ [])
whole_is true [] e = (refl, refl)
whole_is false [] e = absurd (cc e)
whole_is true (f ∷ fs) e = absurd (cc e)
whole_is false (f ∷ fs) e = absurd (cc e)

-- no tree has ended, or the first one ends at this call
pub data Cut : ℕ → Bool → List Frame → List Call → List ℕ → Bool → List Frame → Type 0 where
  never : {n : ℕ} {b b' : Bool} {fs gs : List Frame} {calls : List Call} {es : List ℕ} (m : Bool) → Runs (ready b fs) fs (plain calls) m gs
      → is_whole_value m gs ≡ false → es ≡ [] → Cut n b fs calls es b' gs
  first : {n : ℕ} {b b' : Bool} {fs gs : List Frame} {calls : List Call} {es : List ℕ} (front rest : List Call) (last : Call) (others : List ℕ)
      → calls ≡ front ++ (last ∷ rest) → IsNoHint last → Runs (ready b fs) fs (plain (front ++ (last ∷ []))) true []
      → RunsAll (n + length front + 1) true [] rest others b' gs → es ≡ (n + length front + 1) ∷ others → Cut n b fs calls es b' gs

pub plain_none : (c : Call) (cs : List Call) → plain_call c ≡ None → plain (c ∷ cs) ≡ plain cs
plain_none c cs e = ap (λ o. cons_option o (plain cs)) e

pub plain_some : (c p : Call) (cs : List Call) → plain_call c ≡ Some p → plain (c ∷ cs) ≡ p ∷ plain cs
plain_some c p cs e = ap (λ o. cons_option o (plain cs)) e

-- the number of the last call, counted from the first call on
pub counts : (n k : ℕ) → (n + 1) + k + 1 ≡ n + suc k + 1
counts n k = omega arith

cut_hint : (n : ℕ) (b b' : Bool) (fs gs : List Frame) (c : Call) (calls : List Call) (es : List ℕ) → plain_call c ≡ None → Cut (n + 1) b fs calls es b' gs → Cut n b fs (c ∷ calls) es b' gs
cut_hint n b b' fs gs c calls es e (never m r w k) = never m (subst (λ x. Runs (ready b fs) fs x m gs) (sym (plain_none c calls e)) r) w k
cut_hint n b b' fs gs c calls es e (first front rest last others d h r a k) =
    first (c ∷ front) rest last others (ap (λ x. c ∷ x) d) h (subst (λ x. Runs (ready b fs) fs x true []) (sym (plain_none c (front ++ (last ∷ [])) e)) r)
    (subst (λ x. RunsAll x true [] rest others b' gs) (counts n (length front)) a) (k ∙ ap (λ x. x ∷ others) (counts n (length front)))

cut_more : (n : ℕ) (b b1 b' : Bool) (fs fs1 gs : List Frame) (c p : Call) (calls : List Call) (es : List ℕ) → plain_call c ≡ Some p → Steps (ready b fs) fs p b1 fs1
    → is_whole_value b1 fs1 ≡ false → Cut (n + 1) b1 fs1 calls es b' gs → Cut n b fs (c ∷ calls) es b' gs
cut_more n b b1 b' fs fs1 gs c p calls es e s w (never m r v k) =
    never m (subst (λ x. Runs (ready b fs) fs x m gs) (sym (plain_some c p calls e)) (more s (subst (λ x. Runs x fs1 (plain calls) m gs) (ready_as_is b1 fs1 w) r))) v k
cut_more n b b1 b' fs fs1 gs c p calls es e s w (first front rest last others d h r a k) =
    first (c ∷ front) rest last others (ap (λ x. c ∷ x) d) h
    (subst (λ x. Runs (ready b fs) fs x true []) (sym (plain_some c p (front ++ (last ∷ [])) e)) (more s (subst (λ x. Runs x fs1 (plain (front ++ (last ∷ []))) true []) (ready_as_is b1 fs1 w) r)))
    (subst (λ x. RunsAll x true [] rest others b' gs) (counts n (length front)) a) (k ∙ ap (λ x. x ∷ others) (counts n (length front)))

pub no_hint : (c p : Call) → plain_call c ≡ Some p → IsNoHint c
no_hint c p e f = let g : Some p ≡ None = sym e ∙ f in cc g

-- a call after which a whole value stands ends the first tree
cut_whole : (n : ℕ) (b b' : Bool) (fs gs : List Frame) (c p : Call) (calls : List Call) (es : List ℕ) → plain_call c ≡ Some p → Steps (ready b fs) fs p true []
    → RunsAll (n + 1) true [] calls es b' gs → Cut n b fs (c ∷ calls) ((n + 1) ∷ es) b' gs
cut_whole n b b' fs gs c p calls es e s r =
    let same : n + 1 ≡ n + 0 + 1 = omega arith in
    first [] calls c es refl (no_hint c p e) (subst (λ x. Runs (ready b fs) fs x true []) (sym (plain_some c p [] e)) (more s done))
    (subst (λ x. RunsAll x true [] calls es b' gs) same r) (ap (λ x. x ∷ es) same)

cut_step : (n : ℕ) (b b1 b' : Bool) (fs fs1 gs : List Frame) (c p : Call) (calls : List Call) (es : List ℕ) → plain_call c ≡ Some p → Steps (ready b fs) fs p b1 fs1
    → RunsAll (n + 1) b1 fs1 calls es b' gs → Cut (n + 1) b1 fs1 calls es b' gs → Cut n b fs (c ∷ calls) (noted (n + 1) b1 fs1 es) b' gs
cut_step n b true b' fs [] gs c p calls es e s r k = cut_whole n b b' fs gs c p calls es e s r
cut_step n b false b' fs [] gs c p calls es e s r k = cut_more n b false b' fs [] gs c p calls es e s refl k
cut_step n b true b' fs (f ∷ fs1) gs c p calls es e s r k = cut_more n b true b' fs (f ∷ fs1) gs c p calls es e s refl k
cut_step n b false b' fs (f ∷ fs1) gs c p calls es e s r k = cut_more n b false b' fs (f ∷ fs1) gs c p calls es e s refl k

pub cut : {n : ℕ} {b b' : Bool} {fs gs : List Frame} {calls : List Call} {es : List ℕ} → RunsAll n b fs calls es b' gs → Cut n b fs calls es b' gs
cut {n} {b} {fs = fs} all.done = never (ready b fs) done (ready_is_not_whole b fs) refl
cut {n} {b} {b'} {fs} {gs} (all.hint {cs = cs} {es = es} c e r) = cut_hint n b b' fs gs c cs es e (cut r)
cut {n} {b} {b' = b'} {fs} {gs = gs} (all.more {cs = cs} {es = es} c p b1 fs1 e s r) = cut_step n b b1 b' fs fs1 gs c p cs es e s r (cut r)
