-- What is so of the calls up to here, call by call, and where a value stopped.
use Rattle.std.specs.Prelude.{◌≡◌, ◌⊎◌, Bool, true, List, [], ◌∷◌, ◌++◌, refl}
use Rattle.std.proofs.Common.{sym, ap, subst, inl, inr, append_assoc, append-nil}
use Rattle.sval_label.specs.Calls.{Call}
use Rattle.sval_core.specs.Law.{Law, Standing, Ran, StoppedIn}

-- what is so of a view and the calls that led to it is so with one more, where that is accepted
abbrev pub IsKept : {V : Type 0} → Law V → (V → List Call → Type 0) → Type 0
IsKept {V} law IsSo = (v : V) (calls : List Call) (call : Call) → IsSo v calls → law.accepts v call → IsSo (law.after v call) (calls ++ (call ∷ []))

pub all_so_far : {V : Type 0} (law : Law V) (IsSo : V → List Call → Type 0) → IsKept law IsSo → (v last : V) (calls more : List Call) → IsSo v calls → Ran law v more last → IsSo last (calls ++ more)
all_so_far {V} law IsSo kept v last calls [] so_far ran = subst (λ (w : V). IsSo w (calls ++ [])) (sym ran) (subst (λ cs. IsSo v cs) (sym (append-nil calls)) so_far)
all_so_far {V} law IsSo kept v last calls (call ∷ more) so_far ran =
    let later = all_so_far law IsSo kept (law.after v call) last (calls ++ (call ∷ [])) more (kept v calls call so_far ran.0) ran.1 in
    subst (λ cs. IsSo last cs) (append_assoc calls (call ∷ []) more) later

-- a value refused after all its calls
pub record StopsAfterAll {V : Type 0} (IsSo : V → List Call → Type 0) (front calls : List Call) (refuses : Bool) (last : V) : Type 0 where
  pub refused : refuses ≡ true
  pub so_far : IsSo last (front ++ calls)

-- one of its calls was refused
pub record StopsAt {V : Type 0} (law : Law V) (IsSo : V → List Call → Type 0) (front calls : List Call) (last : V) : Type 0 where
  pub taken : List Call
  pub call : Call
  pub rest : List Call
  pub whole : calls ≡ taken ++ (call ∷ rest)
  pub at : V
  pub so_far : IsSo at (front ++ taken)
  pub left : law.stopped at call last

pub stops : {V : Type 0} (law : Law V) (IsSo : V → List Call → Type 0) → IsKept law IsSo → (old new : Standing V) (v : V) (front calls : List Call) (refuses : Bool) → IsSo v front
    → StoppedIn law old new v calls refuses → StopsAfterAll IsSo front calls refuses new.view ⊎ StopsAt law IsSo front calls new.view
stops {V} law IsSo kept old new v front [] refuses so_far s = inl (record {
  refused = s.0;
  so_far = subst (λ (w : V). IsSo w (front ++ [])) (sym s.1) (subst (λ cs. IsSo v cs) (sym (append-nil front)) so_far);
})
stops {V} law IsSo kept old new v front (call ∷ calls) refuses so_far (inl s) = inr (record {
  taken = [];
  call = call;
  rest = calls;
  whole = refl;
  at = v;
  so_far = subst (λ cs. IsSo v cs) (sym (append-nil front)) so_far;
  left = s.1;
})
stops {V} law IsSo kept old new v front (call ∷ calls) refuses so_far (inr s) =
    later (stops law IsSo kept old new (law.after v call) (front ++ (call ∷ [])) calls refuses (kept v front call so_far s.0) s.1)
  where
    later : StopsAfterAll IsSo (front ++ (call ∷ [])) calls refuses new.view ⊎ StopsAt law IsSo (front ++ (call ∷ [])) calls new.view
        → StopsAfterAll IsSo front (call ∷ calls) refuses new.view ⊎ StopsAt law IsSo front (call ∷ calls) new.view
    later (inl r) = inl (record { refused = r.refused; so_far = subst (λ cs. IsSo new.view cs) (append_assoc front (call ∷ []) calls) r.so_far })
    later (inr r) = inr (record {
      taken = call ∷ r.taken;
      call = r.call;
      rest = r.rest;
      whole = ap (λ cs. call ∷ cs) r.whole;
      at = r.at;
      so_far = subst (λ cs. IsSo r.at cs) (append_assoc front (call ∷ []) r.taken) r.so_far;
      left = r.left;
    })
