-- A filter by its machine and its sieve: what they say of a call, the filter says, and its law.
use Rattle.std.specs.Prelude.{◌≡◌, ℕ, ◌≤◌, Bool, true, false, ◌||◌, Option, Some, is_some, Result, Ok, Err, refl}
use Rattle.std.specs.Option.{unwrap_or}
use Rattle.std.proofs.Common.{inl, inr, sym, ap, subst, ◌∙◌}
use Rattle.sval_label.specs.Calls.{Call}
use Rattle.sval_core.specs.Law.{Law, Standing, Takes, Refuses, HasCause, one_more}
use Rattle.sval_core.specs.Checker.{State}
use Rattle.sval_core.specs.CheckerSteps.{next, state_after}
use Rattle.sval_check.specs.Checks.{has_own_end}
use Rattle.sval_check.specs.Checked.{why_of}
use Rattle.sval_check.specs.Dues.{Readies}
use Rattle.sval_check.specs.declared.machine.Refusal.{Refusal}
use Rattle.sval_check.specs.declared.machine.Refusal.TheVariants as refusal
use Rattle.sval_core.specs.Stacks.{below}
use Rattle.sval_filter.specs.Filtering.{may_take_memory, mode_in, label_may_grow, key_may_grow}
use Rattle.sval_filter.specs.FilterLaw.{Why, NotViable, NoMemory, Inner, is_stopped, wants_after, Ruled, ruled_standing, ruled_law, IsFilterCause}
use Rattle.sval_filter.specs.Sieves.{SieveView, Moves, due_at, next_kept}
use Rattle.sval_filter.specs.SeenFilters.{ruled_by, why_by, IsHindrance, Filters}
use Rattle.sval_filter.specs.declared.sieve.Hindrance.{Hindrance}
use Rattle.sval_filter.specs.declared.sieve.Hindrance.TheVariants as hindrance
use Rattle.sval_filter.proofs.Refusals.{not_both, least}
use Rattle.sval_filter.proofs.Sieving.{accepts_taken}

-- ---- a call

module _ {V : Type 0} (law : Law V) (state : State) (old new : SieveView V) (call : Call) (why : Option Why) (wants : ℕ) where
  abbrev moves : Result (Unit {0}) Hindrance → Type 0
  moves result = Moves law old (due_at old call) (next_kept old call) (may_take_memory old.paths old.kept call) result new

  -- the machine goes on, and the sieve passed the calls on that were due
  pub passed_on : (after : State) → next state call ≡ Some after → moves (Ok tt)
      → Filters law (ruled_by state old why wants) call (Ok tt) (ruled_by after new why wants)
  passed_on after goes m =
      let all = accepts_taken law (due_at old call) old.inner new.inner m.0 in (
        ap (λ (o : Option State). is_some o) goes,
        all.0,
        ap (λ (s : State). ruled_by s new why wants) (sym (ap (λ (o : Option State). unwrap_or o state) goes))
            ∙ ap (λ (sieve : SieveView V). ruled_by (state_after call state) sieve why wants) (m.1 ∙ ap (λ (inner : Standing V). record old { kept = next_kept old call; inner = inner }) all.1),
      )

  -- the machine goes on, and the sieve doesn't
  pub hindered : (cause : Hindrance) (after now : State) → next state call ≡ Some after → now ≡ state → moves (Err cause)
      → Filters law (ruled_by state old why wants) call (Err (why_by cause)) (ruled_by now new why wants)
  hindered hindrance.NoMemory after now goes same m = (
    (ap (λ (o : Option State). is_some o) goes, m.0, ap (λ (sieve : SieveView V). sieve.inner) m.1),
    ap (λ (s : State). ruled_by s new why wants) same ∙ ap (λ (sieve : SieveView V). ruled_by state sieve why wants) (m.1 ∙ back (sym (ap (λ (sieve : SieveView V). sieve.inner) m.1))),
  )
    where
      back : {inner : Standing V} → old.inner ≡ inner → old ≡ record old { inner = inner }
      back e = ap (λ (inner : Standing V). record old { inner = inner }) e
  hindered hindrance.Inside after now goes same m = (
    (ap (λ (o : Option State). is_some o) goes, m.0),
    ap (λ (s : State). ruled_by s new why wants) same ∙ ap (λ (sieve : SieveView V). ruled_by state sieve why wants) m.1,
  )

-- the machine doesn't go on
pub not_ready : {V : Type 0} (law : Law V) (state now : State) (sieve : SieveView V) (call : Call) (why : Option Why) (wants : ℕ) (cause : Refusal)
    → Readies (has_own_end call) (next state call) state now (Err cause)
    → Filters law (ruled_by state sieve why wants) call (Err (why_of cause)) (ruled_by now sieve why wants)
not_ready law state now sieve call why wants refusal.NotViable r = ((ap (λ (o : Option State). is_some o) r.0, refl), ap (λ (s : State). ruled_by s sieve why wants) r.1)
not_ready law state now sieve call why wants refusal.NoMemory r =
    let inside = mode_in sieve.paths sieve.kept.layers in
    let label = label_may_grow call inside (mode_in sieve.paths (below sieve.kept.layers)) sieve.kept.held in
    ((r.1, grows (has_own_end call) label (key_may_grow inside sieve.kept.held call) r.0, refl), ap (λ (s : State). ruled_by s sieve why wants) r.2)
  where
    grows : (a b c : Bool) → a ≡ true → (a || b || c) ≡ true
    grows a b c e = ap (λ x. x || b || c) e

-- ---- the law

module _ {V : Type 0} (law : Law V) (old : Ruled V) (call : Call) where
  pub filter_takes_it : (new : Ruled V) → is_stopped old.view.why ≡ false → Filters law old call (Ok tt) new → Takes (ruled_law law) (ruled_standing old) call (ruled_standing new)
  filter_takes_it new going f = record {
    accepted = record { goes = record { going = going; viable = f.0 }; passed_on = f.1 };
    view = f.2;
    faults = ap (λ (r : Ruled V). r.view.inner.faults) f.2;
    wants = ap (λ (r : Ruled V). r.view.wants) f.2;
  }

  module _ (last : Why) (inner : Standing V) (new : Ruled V)
      (is : new ≡ record old { view = record old.view { inner = inner; why = Some last; wants = wants_after last old.view.wants } })
      (cause : IsFilterCause law old.rule old.paths old.view call inner last) (up : old.view.wants ≤ new.view.wants) where
    refused_for : HasCause (ruled_law law) old call (ruled_standing old) (ruled_standing new)
    refused_for = subst (λ (r : Ruled V). HasCause (ruled_law law) old call (ruled_standing old) (ruled_standing r)) (sym is) (by_last last cause)
      where
        by_last : (last : Why) → IsFilterCause law old.rule old.paths old.view call inner last
            → HasCause (ruled_law law) old call (ruled_standing old) (ruled_standing (record old { view = record old.view { inner = inner; why = Some last; wants = wants_after last old.view.wants } }))
        by_last NotViable c = inl (λ accepts. not_both (sym c.0.not_viable ∙ accepts.goes.viable))
        by_last NoMemory c = inr (inr (least (one_more old.view.wants)))
        by_last Inner c = inr (inr (least (one_more old.view.wants)))

    no_fault : (last : Why) → IsFilterCause law old.rule old.paths old.view call inner last → old.view.inner.faults ≤ inner.faults
    no_fault NotViable c = subst (λ (s : Standing V). old.view.inner.faults ≤ s.faults) (sym c.1) (least old.view.inner.faults)
    no_fault NoMemory c = subst (λ (s : Standing V). old.view.inner.faults ≤ s.faults) (sym c.1) (least old.view.inner.faults)
    no_fault Inner (inl c) = subst (λ (s : Standing V). old.view.inner.faults ≤ s.faults) (sym c.1) (least old.view.inner.faults)
    no_fault Inner (inr c) = c.stops.faults

    filter_refuses_it : Refuses (ruled_law law) (ruled_standing old) call (ruled_standing new)
    filter_refuses_it = record {
      cause = refused_for;
      left = record {
        rule = ap (λ (r : Ruled V). r.rule) is;
        paths = ap (λ (r : Ruled V). r.paths) is;
        filter = record {
          state = ap (λ (r : Ruled V). r.view.state) is;
          kept = ap (λ (r : Ruled V). r.view.kept) is;
          last = last;
          why = ap (λ (r : Ruled V). r.view.why) is;
          cause = subst (λ (s : Standing V). IsFilterCause law old.rule old.paths old.view call s last) (sym (ap (λ (r : Ruled V). r.view.inner) is)) cause;
          wants = ap (λ (r : Ruled V). r.view.wants) is;
        };
      };
      faults = subst (λ (s : Standing V). old.view.inner.faults ≤ s.faults) (sym (ap (λ (r : Ruled V). r.view.inner) is)) (no_fault last cause);
      wants = up;
    }

  -- a refusal that is kept after the call was passed on
  pub refuses_after : (mid new : Ruled V) (last : Why) → IsFilterCause law old.rule old.paths old.view call mid.view.inner last
      → mid ≡ record old { view = record old.view { inner = mid.view.inner } }
      → new ≡ record mid { view = record mid.view { why = Some last; wants = wants_after last mid.view.wants } } → mid.view.wants ≤ new.view.wants
      → Refuses (ruled_law law) (ruled_standing old) call (ruled_standing new)
  refuses_after mid new last cause moved kept up =
      filter_refuses_it last mid.view.inner new
      (kept ∙ ap (λ (r : Ruled V). record r { view = record r.view { why = Some last; wants = wants_after last r.view.wants } }) moved) cause
      (subst (λ n. n ≤ new.view.wants) (ap (λ (r : Ruled V). r.view.wants) moved) up)

  -- a hindrance of a filter that isn't stopped is a cause
  pub cause_from : (inner : Standing V) (why : Why) → is_stopped old.view.why ≡ false → IsHindrance law old call inner why → IsFilterCause law old.rule old.paths old.view call inner why
  cause_from inner NotViable going h = (record { going = going; not_viable = h.0 }, h.1)
  cause_from inner NoMemory going h = (record { goes = record { going = going; viable = h.0 }; grows = h.1 }, h.2)
  cause_from inner Inner going h = inr (record { goes = record { going = going; viable = h.0 }; stops = h.1 })

-- what keeping a refusal makes of a filter
pub kept_as : {V : Type 0} (state now : State) (sieve same : SieveView V) (why later : Option Why) (wants after : ℕ) (last : Why)
    → now ≡ state → same ≡ sieve → later ≡ Some last → after ≡ wants_after last wants
    → ruled_by now same later after ≡ record (ruled_by state sieve why wants) { view = record (ruled_by state sieve why wants).view { why = Some last; wants = wants_after last wants } }
kept_as {V} state now sieve same why later wants after last s v w n =
    ap (λ (x : State). ruled_by x same later after) s ∙ ap (λ (x : SieveView V). ruled_by state x later after) v
    ∙ ap (λ (x : Option Why). ruled_by state sieve x after) w ∙ ap (λ x. ruled_by state sieve (Some last) x) n
