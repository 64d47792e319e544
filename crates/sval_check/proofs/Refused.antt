-- What a refusal of a stream whose calls are checked says by its law.
use Rattle.std.specs.Prelude.{◌≡◌, ℕ, ◌≤◌, true, false, Some}
use Rattle.std.proofs.Common.{sym, ap, ◌∙◌, subst, arith, inl, inr}
use Rattle.sval_label.specs.Calls.{Call}
use Rattle.sval_core.specs.Law.{Law, Standing, Refuses, one_more, Rose}
use Rattle.sval_check.specs.declared.checked.Why.{Why}
use Rattle.sval_check.specs.declared.checked.Why.TheVariants.{NotViable, NoMemory, Inner}
use Rattle.sval_check.specs.Checked.{CheckedView, checked_law, checked_standing, wants_after, CheckedAccepts, IsCause}

same_faults : {V : Type 0} {a b : Standing V} → a ≡ b → b.faults ≤ a.faults
same_faults {V} {a} {b} e = let same : a.faults ≡ b.faults = ap (λ (s : Standing V). s.faults) e in omega (arith, same)

rose : (before now : ℕ) → now ≡ one_more before → Rose before now
rose before now e = omega (arith, e)

not_accepted : {V : Type 0} (law : Law V) (view : CheckedView V) (call : Call) (inner : Standing V) → IsCause law view call inner NotViable → CheckedAccepts law view call → ⊥
not_accepted law view call inner c a = let never : true ≡ false = sym a.viable ∙ c.0 in cc never

-- the law's words for a refusal of which the cause is kept
pub refused : {V : Type 0} (law : Law V) (old new : CheckedView V) (call : Call) (why : Why) → IsCause law old call new.inner why → new.state ≡ old.state → new.why ≡ Some why
    → new.wants ≡ wants_after why old.wants → old.wants ≤ new.wants → Refuses (checked_law law) (checked_standing old) call (checked_standing new)
refused law old new call NotViable c s w n up = record {
  cause = inl (not_accepted law old call new.inner c);
  left = record { state = s; last = NotViable; why = w; cause = c; wants = n };
  faults = same_faults c.1;
  wants = up;
}
refused law old new call NoMemory c s w n up = record {
  cause = inr (inr (rose old.wants new.wants n));
  left = record { state = s; last = NoMemory; why = w; cause = c; wants = n };
  faults = same_faults c.2;
  wants = up;
}
refused law old new call Inner c s w n up = record {
  cause = inr (inr (rose old.wants new.wants n));
  left = record { state = s; last = Inner; why = w; cause = c; wants = n };
  faults = c.1.faults;
  wants = up;
}

-- the same where the refusal is kept after the call was passed on
pub refused_and_kept : {V : Type 0} (law : Law V) (old passed new : CheckedView V) (call : Call) (why : Why) → IsCause law old call passed.inner why × (passed ≡ record old { inner = passed.inner })
    → new.state ≡ passed.state → new.inner ≡ passed.inner → new.why ≡ Some why → new.wants ≡ wants_after why passed.wants → passed.wants ≤ new.wants
    → Refuses (checked_law law) (checked_standing old) call (checked_standing new)
refused_and_kept {V} law old passed new call why p s i w n up =
    let same_wants : passed.wants ≡ old.wants = ap (λ (v : CheckedView V). v.wants) p.1 in
    let same_state : passed.state ≡ old.state = ap (λ (v : CheckedView V). v.state) p.1 in
    refused law old new call why (subst (λ (inner : Standing V). IsCause law old call inner why) (sym i) p.0) (s ∙ same_state) w
    (n ∙ ap (λ m. wants_after why m) same_wants) (subst (λ m. m ≤ new.wants) same_wants up)
