-- What a filter's law lets a refused call leave is what a refusal may leave.
use Rattle.std.specs.Prelude.{◌≡◌, ℕ, ◌<◌, ◌≤◌, ◌^◌, true, false}
use Rattle.std.proofs.Common.{inl, inr, sym, ◌∙◌, subst, arith}
use Rattle.sval_core.specs.Law.{Law, one_more, HasCause}
use Rattle.sval_filter.specs.FilterLaw.{Why, NotViable, NoMemory, Inner, filter_standing, wants_after, IsFilterCause, filter_law}
use Rattle.sval_filter.specs.Laws.{RefusesWithCause}

pub not_both : false ≡ true → ⊥
not_both e = cc e

pub least : (count : ℕ) → count ≤ count
least count = omega arith

later : (count : ℕ) → count < 2 ^ 64 → count ≤ one_more count
later count room = omega (arith, room)

pub refuses_with_cause : {V : Type 0} (law : Law V) → RefusesWithCause law
refuses_with_cause {V} law rule paths call view left room is =
    record { cause = cause is.last is.cause is.wants; left = is; faults = faults is.last is.cause; wants = wants is.last is.wants }
  where
    wants : (last : Why) → left.wants ≡ wants_after last view.wants → view.wants ≤ left.wants
    wants NotViable e = subst (λ n. view.wants ≤ n) (sym e) (least view.wants)
    wants last e = subst (λ n. view.wants ≤ n) (sym e) (later view.wants room)

    faults : (last : Why) → IsFilterCause law rule paths view call left.inner last → view.inner.faults ≤ left.inner.faults
    faults NotViable c = subst (λ inner. view.inner.faults ≤ inner.faults) (sym c.1) (least view.inner.faults)
    faults NoMemory c = subst (λ inner. view.inner.faults ≤ inner.faults) (sym c.1) (least view.inner.faults)
    faults Inner (inl c) = subst (λ inner. view.inner.faults ≤ inner.faults) (sym c.1) (least view.inner.faults)
    faults Inner (inr c) = c.stops.faults

    cause : (last : Why) → IsFilterCause law rule paths view call left.inner last → left.wants ≡ wants_after last view.wants
        → HasCause (filter_law law rule paths) view call (filter_standing view) (filter_standing left)
    cause NotViable c e = inl (λ accepts. not_both (sym c.0.not_viable ∙ accepts.goes.viable))
    cause last c e = inr (inr (subst (λ n. one_more view.wants ≤ n) (sym e) (least (one_more view.wants))))
